-- What comes of visits, one after another.
use Rattle.std.specs.Prelude.{◌≡◌, List, [], ◌∷◌}

-- from one value to another by a step for each item
unfoldable pub Chain : {V X : Type 0} → (V → V → X → Type 0) → V → V → List X → Type 0
Chain step a b [] = a ≡ b
Chain {V} step a b (x ∷ xs) = (c : V) × step a c x × Chain step c b xs
