-- Lists that loops make, item by item.
use Rattle.std.proofs.Common.{◌≡◌, ap, ◌∙◌, sym, ℕ, ◌+◌, List, [], ◌∷◌, ◌++◌, map, take, slice_get, Some}
use Rattle.std.proofs.lemmas.List.{map_push, take_more}
use Rattle.std.proofs.lemmas.Option.{slice_get_within, get_or_from_slice_get}

take-next : {X : Type 0} (xs : List X) (i : ℕ) (x : X) → slice_get xs i ≡ Some x → take (i + 1) xs ≡ take i xs ++ x ∷ []
take-next xs i x at = take_more xs i x (slice_get_within xs i x at) ∙ ap (λ y. take i xs ++ y ∷ []) (get_or_from_slice_get xs i x x at)

-- What is made of each of the first items is in one list what it is in the other, and so for one more.
pub mapped-next : {X Y Z : Type 0} (f : Y → Z) (g : X → Z) (xs : List X) (ys more : List Y) (i : ℕ) (x : X) (y : Y) → slice_get xs i ≡ Some x → more ≡ ys ++ y ∷ [] → map f ys ≡ map g (take i xs) → f y ≡ g x →
    map f more ≡ map g (take (i + 1) xs)
mapped-next f g xs ys more i x y at is h same =
    ap (λ zs. map f zs) is ∙ map_push f ys y ∙ (λ j. h j ++ same j ∷ []) ∙ sym (map_push g (take i xs) x) ∙ ap (λ zs. map g zs) (sym (take-next xs i x at))
