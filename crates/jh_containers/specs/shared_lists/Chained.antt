-- Lists that share what they begin with, the last item first.
use Rattle.std.specs.Prelude.{◌≡◌, ℕ, List, [], ◌∷◌, Option, None, Some, slice_get}
use Rattle.jh_containers.specs.declared.shared_lists.chains.Link.{Link}

-- The list that ends in the item of this number: that item, and then the list that ends in the one before it.
abbrev pub IsChain : {X : Type 0} → List (Link X) → Option ℕ → List X → Type 0
IsChain ls None [] = Unit {0}
IsChain ls None (x ∷ xs) = ⊥
IsChain ls (Some n) [] = ⊥
IsChain {X} ls (Some n) (x ∷ xs) = (before : Option ℕ) × (slice_get ls n ≡ Some (record { before = before; item = x })) × IsChain ls before xs

-- All lists of the old links are lists of the new ones.
abbrev pub Keeps : {X : Type 0} → List (Link X) → List (Link X) → Type 0
Keeps {X} old new = (list : Option ℕ) (xs : List X) → IsChain old list xs → IsChain new list xs
