-- Values that are put in lists of what was given.
use Rattle.std.proofs.Common.{◌≡◌, sym, ap, ◌∙◌, ℕ, List, map, set, Option, Some, option_map, slice_get, is_some, zero, suc, [], ◌∷◌, Vec, Global}
use Rattle.std.proofs.lemmas.Bool.{true≢false}
use Rattle.std.proofs.lemmas.List.{map-set}
use Rattle.jh_store.specs.heaps.Cells.{cell_in}
use Rattle.jh_store.specs.declared.heaps.cells.Cell.{Cell}
use Rattle.std.specs.Option.{option_map_or}
use Rattle.jh_heap.specs.lines.Lines.{Value}
use Rattle.jh_heap.specs.text.Outlines.{Holder}
use Rattle.jh_heap.specs.text.Reading.{put_cell, put_field}
use Rattle.jh_heap.specs.text.Held.{given_in}

pub given_set : (cells : List (Option Cell)) (i : ℕ) (cell : Cell) → given_in (set cells i (Some cell)) ≡ set (given_in cells) i (Some (cell_in cell))
given_set cells i cell = map-set (option_map cell_in) cells i (Some cell)

pub row_there : {A B : Type 0} (f : A → B) (xs : List A) (i : ℕ) (x : A) → slice_get xs i ≡ Some x → slice_get (map f xs) i ≡ Some (f x)
row_there f [] i x h = absurd (true≢false (sym (ap is_some h)))
row_there f (y ∷ ys) zero x h = ap (option_map f) h
row_there f (y ∷ ys) (suc i) x h = row_there f ys i x h

-- the value of a field at an object
pub rows_put : (h : Option Holder) (fields : List (Vec (Option Cell) Global)) (i a : ℕ) (v : Value) (old new : Vec (Option Cell) Global) → slice_get fields i ≡ Some old →
    given_in new.items ≡ put_cell h (given_in old.items) a v → map (λ (row : Vec (Option Cell) Global). given_in row.items) (set fields i new) ≡ put_field h (map (λ (row : Vec (Option Cell) Global). given_in row.items) fields) i a v
rows_put h fields i a v old new there put =
    let given = λ (row : Vec (Option Cell) Global). given_in row.items in
    let rows = map given fields in
    map-set given fields i new ∙ ap (set rows i) put ∙ sym (ap (λ o. option_map_or (λ row. set rows i (put_cell h row a v)) o rows) (row_there given fields i old there))
