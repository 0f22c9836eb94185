use Rattle.std.proofs.Common.{◌≡◌, ◌∷◌, ℕ, Some, slice_get, take}
use Rattle.jh_closure.specs.congruence_closure.Nodes.{Has}
use Rattle.jh_arena.specs.table.Nodes.{nodes}
use Rattle.jh_models.specs.ground_models.Truths.{IsFalse}
use Rattle.jh_propagation.specs.trail.Saying.{literals_at, opposite_of, truth_at}
use Rattle.jh_explanations.proofs.testing.is_forced.Given as goal

-- none of the instances that were looked at is false
abbrev pub invariant-loop-index : goal.invariant-loop-index
invariant-loop-index l = (place n : ℕ) → Has (take l.index l.places) place → slice_get l.problem.instances.items place ≡ Some n → IsFalse (literals_at (nodes l.table) (opposite_of l.literal ∷ l.trail)) (truth_at (nodes l.table) n) → ⊥
