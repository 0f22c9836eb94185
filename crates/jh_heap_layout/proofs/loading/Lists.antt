-- What stands in lists, an item at a time.
use Rattle.std.proofs.Common.{◌≡◌, refl, sym, ap, ◌∙◌, ℕ, zero, suc, ◌+◌, ◌<◌, ◌==◌, ◌||◌, Bool, true, false, List, [], ◌∷◌, ◌++◌, append_assoc, append-nil, drop, take, map, length, get_or, slice_get, Some, None, arith}
use Rattle.std.proofs.lemmas.Bool.Decides.{nat_tests}
use Rattle.std.proofs.lemmas.Option.{slice_get-get_or, slice_get_within, get_or_from_slice_get}
use Rattle.std.proofs.lemmas.List.{drop_more, take_more}
use Rattle.jh_semantics.specs.Heaps.{Cell, is_in, set_in}

pub left-at : {X : Type 0} (xs : List X) (i : ℕ) (x : X) → slice_get xs i ≡ Some x → drop i xs ≡ x ∷ drop (i + 1) xs
left-at xs i x h = drop_more xs i x (slice_get_within xs i x h) ∙ ap (λ z. z ∷ drop (i + 1) xs) (get_or_from_slice_get xs i x x h)

-- one item more is made
pub one-made : {X Y : Type 0} (f : X → Y) (made : List Y) (y : Y) (xs rest all : List X) (x : X) → made ++ map f xs ≡ map f all → xs ≡ x ∷ rest → y ≡ f x → (made ++ y ∷ []) ++ map f rest ≡ map f all
one-made f made y xs rest all x before left is = append_assoc made (y ∷ []) (map f rest) ∙ ap (λ z. made ++ z ∷ map f rest) is ∙ ap (λ zs. made ++ map f zs) (sym left) ∙ before

pub all-made : {X Y : Type 0} (f : X → Y) (made : List Y) (xs all : List X) → made ++ map f xs ≡ map f all → xs ≡ [] → made ≡ map f all
all-made f made xs all before none = sym (append-nil made) ∙ ap (λ zs. made ++ map f zs) (sym none) ∙ before

pub taken-more : {X : Type 0} (xs : List X) (i : ℕ) (x : X) → slice_get xs i ≡ Some x → take (i + 1) xs ≡ take i xs ++ x ∷ []
taken-more xs i x h = take_more xs i x (slice_get_within xs i x h) ∙ ap (λ z. take i xs ++ z ∷ []) (get_or_from_slice_get xs i x x h)

swapped : (a b : ℕ) → (a == b) ≡ (b == a)
swapped a b = by (a == b) refl
  where
    by : (t : Bool) → (a == b) ≡ t → (a == b) ≡ (b == a)
    by true e = let same : a ≡ b = grind (arith, nat_tests) in ap (λ z. z == b) same ∙ ap (λ z. b == z) (sym same)
    by false e = grind (arith, nat_tests)

pub or-apart : (s t u : Bool) → ((s || t) || u) ≡ (s || (t || u))
or-apart true t u = refl
or-apart false t u = refl

-- an object more, before those that are left
pub more-in : (t : Bool) (b a : ℕ) (rest : List ℕ) → ((t || b == a) || is_in b rest) ≡ (t || is_in b (a ∷ rest))
more-in t b a rest = or-apart t (b == a) (is_in b rest) ∙ ap (λ e. t || (e || is_in b rest)) (swapped b a)

pub none-more : (t : Bool) → (t || false) ≡ t
none-more true = refl
none-more false = refl

-- lists that say which objects sets have
abbrev pub AreSets : List (List Bool) → List Cell → Type 0
AreSets rows cells = (length rows ≡ length cells) × ((a b : ℕ) → get_or (get_or rows a []) b false ≡ set_in (slice_get cells a) b)

pub no-sets : AreSets [] []
no-sets = (refl, λ a b. refl)

pub one-set-more : (rows : List (List Bool)) (cells : List Cell) (row : List Bool) (cell : Cell) → AreSets rows cells → ((b : ℕ) → get_or row b false ≡ set_in (Some cell) b) → AreSets (rows ++ row ∷ []) (cells ++ cell ∷ [])
one-set-more [] [] row cell are h = (refl, λ a b. by a b)
  where
    by : (a b : ℕ) → get_or (get_or (row ∷ []) a []) b false ≡ set_in (slice_get (cell ∷ []) a) b
    by zero b = h b
    by (suc a) b = refl
one-set-more [] (c ∷ cells) row cell are h = let e : 0 ≡ suc (length cells) = are.0 in absurd (omega (arith, e))
one-set-more (r ∷ rows) [] row cell are h = let e : suc (length rows) ≡ 0 = are.0 in absurd (omega (arith, e))
one-set-more (r ∷ rows) (c ∷ cells) row cell are h =
    let e : suc (length rows) ≡ suc (length cells) = are.0 in
    let same : length rows ≡ length cells = omega (arith, e) in
    let more = one-set-more rows cells row cell (same, λ a b. are.1 (suc a) b) h in
    (ap suc more.0, λ a b. by more.1 a b)
  where
    by : ((a b : ℕ) → get_or (get_or (rows ++ row ∷ []) a []) b false ≡ set_in (slice_get (cells ++ cell ∷ []) a) b) → (a b : ℕ) → get_or (get_or (r ∷ (rows ++ row ∷ [])) a []) b false ≡ set_in (slice_get (c ∷ (cells ++ cell ∷ [])) a) b
    by more zero b = are.1 0 b
    by more (suc a) b = more a b

pub there : {X : Type 0} (xs : List X) (i : ℕ) (x : X) → i < length xs → x ≡ get_or xs i x → slice_get xs i ≡ Some x
there xs i x lt is = slice_get-get_or xs i x lt ∙ ap (λ z. Some z) (sym is)

-- what stands at a place of a list's image
pub get-image : {X Y : Type 0} (f : X → Y) (xs : List X) (i : ℕ) (x : X) → slice_get xs i ≡ Some x → slice_get (map f xs) i ≡ Some (f x)
get-image f [] i x h = cc
get-image f (y ∷ xs) zero x h = let e : y ≡ x = cc in ap (λ z. Some (f z)) e
get-image f (y ∷ xs) (suc i) x h = get-image f xs i x h

pub no-image : {X Y : Type 0} (f : X → Y) (xs : List X) (i : ℕ) → slice_get xs i ≡ None → slice_get (map f xs) i ≡ None
no-image f [] i h = refl
no-image f (y ∷ xs) zero h = cc
no-image f (y ∷ xs) (suc i) h = no-image f xs i h
