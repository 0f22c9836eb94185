-- Two lists whose items belong to one another, in the same order and in the reverse one.
use Rattle.std.specs.Prelude.{◌≡◌, List, [], ◌∷◌, ◌++◌}

module _ {X Y : Type 0} (R : X → Y → Type 0) where
  -- one by one
  abbrev pub ArePaired : List X → List Y → Type 0
  ArePaired [] [] = Unit {0}
  ArePaired [] (y ∷ ys) = ⊥
  ArePaired (x ∷ xs) [] = ⊥
  ArePaired (x ∷ xs) (y ∷ ys) = R x y × ArePaired xs ys

  -- one by one, the second list being the other way round
  abbrev pub AreReversed : List X → List Y → Type 0
  AreReversed [] ys = ys ≡ []
  AreReversed (x ∷ xs) ys = (front : List Y) × (y : Y) × R x y × AreReversed xs front × (ys ≡ front ++ y ∷ [])
