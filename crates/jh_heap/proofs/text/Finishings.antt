-- What is made of a draft, value by value.
use Rattle.std.proofs.Common.{◌≡◌, refl, sym, ap, ◌∙◌, ℕ, List, [], ◌∷◌, ◌++◌, length, map, Option, None, Some, option_map, Vec, Global, append-nil, slice_get, arith, ◌+◌}
use Rattle.std.specs.Option.{option_map_or}
use Rattle.std.specs.List.{list_any}
use Rattle.std.specs.Option.{is_none}
use Rattle.std.proofs.lemmas.List.{map-append, length-map}
use Rattle.jh_store.specs.heaps.Cells.{cell_in}
use Rattle.jh_store.specs.declared.heaps.cells.Cell as held
use Rattle.jh_semantics.specs.Heaps.{Cell}
use Rattle.jh_heap.specs.text.Outlines.{Holder}
use Rattle.jh_heap.specs.text.Reading.{cell_or, cells_or, rows_or, cell_at, row_at}
use Rattle.jh_heap.specs.text.Held.{given_in}

pub cells_none : (hs : List Holder) → cells_or hs [] ≡ []
cells_none [] = refl
cells_none (h ∷ hs) = refl

pub rows_none : (hs : List Holder) → rows_or hs [] ≡ []
rows_none [] = refl
rows_none (h ∷ hs) = refl

-- one more value, and the values of one more field
cells-next : (hs : List Holder) (gs : List (Option Cell)) (g : Option Cell) → cells_or hs (gs ++ (g ∷ [])) ≡ cells_or hs gs ++ cell_at hs (length gs) g
cells-next [] [] g = refl
cells-next [] (y ∷ gs) g = refl
cells-next (x ∷ hs) [] g = ap (λ r. cell_or x g ∷ r) (cells_none hs)
cells-next (x ∷ hs) (y ∷ gs) g = ap (λ r. cell_or x y ∷ r) (cells-next hs gs g)

rows-next : (hs : List Holder) (gs : List (List (Option Cell))) (g : List (Option Cell)) → rows_or hs (gs ++ (g ∷ [])) ≡ rows_or hs gs ++ row_at hs (length gs) g
rows-next [] [] g = refl
rows-next [] (y ∷ gs) g = refl
rows-next (x ∷ hs) [] g = ap (λ r. map (cell_or x) g ∷ r) (rows_none hs)
rows-next (x ∷ hs) (y ∷ gs) g = ap (λ r. map (cell_or x) y ∷ r) (rows-next hs gs g)

-- what is added at a place
pub none_at : (hs : List Holder) (i : ℕ) (g : Option Cell) (xs : List Cell) → None ≡ slice_get hs i → xs ≡ xs ++ cell_at hs i g
none_at hs i g xs h = sym (append-nil xs) ∙ ap (λ o. xs ++ option_map_or (λ x. cell_or x g ∷ []) o []) h

pub some_at : (hs : List Holder) (i : ℕ) (g : Option Cell) (x : Holder) (xs ys : List Cell) → Some x ≡ slice_get hs i → ys ≡ xs ++ (cell_or x g ∷ []) → ys ≡ xs ++ cell_at hs i g
some_at hs i g x xs ys h e = e ∙ ap (λ o. xs ++ option_map_or (λ x. cell_or x g ∷ []) o []) h

pub no_row_at : (hs : List Holder) (i : ℕ) (g : List (Option Cell)) (xs : List (List Cell)) → None ≡ slice_get hs i → xs ≡ xs ++ row_at hs i g
no_row_at hs i g xs h = sym (append-nil xs) ∙ ap (λ o. xs ++ option_map_or (λ x. map (cell_or x) g ∷ []) o []) h

pub some_row_at : (hs : List Holder) (i : ℕ) (g : List (Option Cell)) (x : Holder) (xs ys : List (List Cell)) → Some x ≡ slice_get hs i → ys ≡ xs ++ (map (cell_or x) g ∷ []) → ys ≡ xs ++ row_at hs i g
some_row_at hs i g x xs ys h e = e ∙ ap (λ o. xs ++ option_map_or (λ x. map (cell_or x) g ∷ []) o []) h

-- one more item
pub one_more : {A B : Type 0} (f : A → B) (xs ys : List A) (x : A) (y : B) → ys ≡ xs ++ (x ∷ []) → f x ≡ y → map f ys ≡ map f xs ++ (y ∷ [])
one_more f xs ys x y e h = ap (map f) e ∙ map-append f xs (x ∷ []) ∙ ap (λ z. map f xs ++ (z ∷ [])) h

pub longer : {A : Type 0} (xs : List A) (x : A) (n : ℕ) → n ≡ length xs → n + 1 ≡ length (xs ++ (x ∷ []))
longer [] x n h = omega (arith, h)
longer (y ∷ xs) x n h = omega (arith, h, longer xs x (length xs) refl)

-- the turn of a loop
pub cells_step : (hs : List Holder) (gs : List (Option held.Cell)) (g : Option held.Cell) (i : ℕ) (old new : List Cell) → i ≡ length gs →
    new ≡ old ++ cell_at hs i (option_map cell_in g) → old ≡ cells_or hs (given_in gs) → new ≡ cells_or hs (given_in (gs ++ (g ∷ [])))
cells_step hs gs g i old new at more done =
    more ∙ ap (λ xs. xs ++ cell_at hs i (option_map cell_in g)) done
    ∙ ap (λ n. cells_or hs (given_in gs) ++ cell_at hs n (option_map cell_in g)) (at ∙ sym (length-map gs (option_map cell_in)))
    ∙ sym (cells-next hs (given_in gs) (option_map cell_in g)) ∙ ap (cells_or hs) (sym (map-append (option_map cell_in) gs (g ∷ [])))

abbrev rows_of : List (Vec (Option held.Cell) Global) → List (List (Option Cell))
rows_of gs = map (λ (row : Vec (Option held.Cell) Global). given_in row.items) gs

pub rows_step : (hs : List Holder) (gs : List (Vec (Option held.Cell) Global)) (g : Vec (Option held.Cell) Global) (i : ℕ) (old new : List (List Cell)) → i ≡ length gs →
    new ≡ old ++ row_at hs i (given_in g.items) → old ≡ rows_or hs (rows_of gs) → new ≡ rows_or hs (rows_of (gs ++ (g ∷ [])))
rows_step hs gs g i old new at more done =
    more ∙ ap (λ xs. xs ++ row_at hs i (given_in g.items)) done
    ∙ ap (λ n. rows_or hs (rows_of gs) ++ row_at hs n (given_in g.items)) (at ∙ sym (length-map gs (λ (row : Vec (Option held.Cell) Global). given_in row.items)))
    ∙ sym (rows-next hs (rows_of gs) (given_in g.items)) ∙ ap (rows_or hs) (sym (map-append (λ (row : Vec (Option held.Cell) Global). given_in row.items) gs (g ∷ [])))

pub any_missing : (xs : List (Option held.Cell)) → list_any is_none (given_in xs) ≡ list_any is_none xs
any_missing [] = refl
any_missing (None ∷ xs) = refl
any_missing (Some x ∷ xs) = any_missing xs
