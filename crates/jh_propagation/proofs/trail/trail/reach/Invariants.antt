use Rattle.std.proofs.Common.{◌≡◌, ◌+◌, ◌-◌, ℕ, Some, slice_get, length}
use Rattle.jh_propagation.proofs.trail.trail.reach.Given as goal

abbrev pub invariant-loop-places : goal.invariant-loop-places
invariant-loop-places l = (k p : ℕ) → slice_get l.initial.places.items k ≡ Some p → slice_get l.places.items k ≡ Some p

abbrev pub decreases-loop-places : goal.decreases-loop-places
decreases-loop-places l = l.number + 1 - length l.places.items
