use Rattle.std.proofs.Common.{◌≡◌, ◌<◌, ℕ, Some, slice_get}
use Rattle.jh_containers.specs.transitive_closure.Spreads.{IsIn}
use Rattle.jh_containers.proofs.topological_order.ordering.first_undone.Given as goal

abbrev pub invariant-loop-at : goal.invariant-loop-at
invariant-loop-at l = (j d : ℕ) → j < l.at → slice_get l.row j ≡ Some d → IsIn l.done d
