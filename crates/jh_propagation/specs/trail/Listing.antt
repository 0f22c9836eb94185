-- Lists of decided literals: what they say of an atom, and where.
use Rattle.std.specs.Prelude.{◌≡◌, ℕ, Bool, List, [], ◌∷◌, Option, Some, None, slice_get}
use Rattle.jh_closure.specs.congruence_closure.Nodes.{Has}
use Rattle.jh_propagation.specs.declared.trail.decided.Decided.{Decided}

-- the literal that says of an atom whether it holds
abbrev pub decided : ℕ → Bool → Decided
decided k b = record { atom = k; holds = b }

-- The list says of an atom neither that it holds nor that it doesn't.
abbrev pub IsUndecided : List Decided → ℕ → Type 0
IsUndecided ds k = (b : Bool) → Has ds (decided k b) → ⊥

-- the literal at this place is on the atom
abbrev pub StandsAt : List Decided → ℕ → ℕ → Type 0
StandsAt ds k p = (b : Bool) × (slice_get ds p ≡ Some (decided k b))

-- no two literals are on one atom
abbrev pub DecideOnce : List Decided → Type 0
DecideOnce ds = (p q : ℕ) (d e : Decided) → slice_get ds p ≡ Some d → slice_get ds q ≡ Some e → d.atom ≡ e.atom → p ≡ q

-- The place of each literal stands in an array at the number of its atom.
abbrev pub AreNoted : List Decided → List ℕ → Type 0
AreNoted ds places = (p : ℕ) (d : Decided) → slice_get ds p ≡ Some d → slice_get places d.atom ≡ Some p

abbrev pub one_more : {X : Type 0} → Option X → List X → List X
one_more (Some x) xs = x ∷ xs
one_more None xs = xs

-- what stands at these places of a list
abbrev pub picked : {X : Type 0} → List X → List ℕ → List X
picked xs [] = []
picked xs (p ∷ ps) = one_more (slice_get xs p) (picked xs ps)
