-- Lists of facts, with the place of each node.
use Rattle.std.specs.Prelude.{◌≡◌, ◌≤◌, ℕ, nat_eq, List, [], ◌∷◌, Option, Some, slice_get}
use Rattle.indexmap.specs.IndexMap.{IndexMap, get}
use Rattle.jh_derivation_steps.specs.declared.premises.nodes.Nodes.{Nodes}
use Rattle.jh_derivation_steps.specs.declared.premises.nodes.Nodes.TheVariants as n

-- the node stands at some place of the list
abbrev pub Stands : List ℕ → ℕ → Type 0
Stands ks n = (k : ℕ) × (slice_get ks k ≡ Some n)

-- where a node stands, as it is noted
abbrev pub noted : {S : Type 0} → IndexMap ℕ ℕ S → ℕ → Option ℕ
noted m n = get nat_eq m n

-- For each node of the list a place is noted at which it stands, no later than any other.
pub record ArePlaced (ks : List ℕ) (place : ℕ → Option ℕ) : Type 0 where
  pub at : (k n : ℕ) → slice_get ks k ≡ Some n → (p : ℕ) × (place n ≡ Some p) × (p ≤ k) × (slice_get ks p ≡ Some n)

-- the nodes in a list
unfoldable pub numbers : Nodes → List ℕ
numbers n.Nothing = []
numbers (n.One x) = x ∷ []
numbers (n.Two x y) = x ∷ y ∷ []

-- each of the nodes stands in the list
abbrev pub StandAll : List ℕ → List ℕ → Type 0
StandAll ks [] = Unit {0}
StandAll ks (n ∷ ns) = Stands ks n × StandAll ks ns
