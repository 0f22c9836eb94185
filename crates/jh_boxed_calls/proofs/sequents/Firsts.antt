-- The first of a list that stands beside another one.
use Rattle.std.proofs.Common.{◌≡◌, refl, subst, ◌<◌, List, [], ◌∷◌, length, slice_get, Some}
use Rattle.std.proofs.lemmas.Option.{slice_get_within}
use Rattle.jh_prove.specs.jh_splitting.Pairs.{ArePaired}

some-same : {X : Type 0} (x y : X) → Some x ≡ Some y → x ≡ y
some-same x y e = cc

module _ {X Y : Type 0} (R : X → Y → Type 0) where
  pub first-there : (xs : List X) (y : Y) (ys : List Y) → ArePaired R xs (y ∷ ys) → 0 < length xs
  first-there [] y ys h = absurd h
  first-there (x ∷ xs) y ys h = slice_get_within (x ∷ xs) 0 x refl

  pub first-is : (xs : List X) (y : Y) (ys : List Y) (x : X) → ArePaired R xs (y ∷ ys) → slice_get xs 0 ≡ Some x → R x y
  first-is [] y ys x h at = absurd h
  first-is (w ∷ xs) y ys x h at = subst (λ (v : X). R v y) (some-same w x at) h.0
