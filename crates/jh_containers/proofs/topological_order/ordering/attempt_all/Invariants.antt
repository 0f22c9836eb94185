use Rattle.std.proofs.Common.{◌≡◌, ◌<◌, ℕ, Some, length, slice_get}
use Rattle.jh_containers.specs.topological_order.Orders.{IsOrdered, AreThings, AreDistinct, IsTried}
use Rattle.jh_containers.proofs.topological_order.Orderings.{Keeps}
use Rattle.jh_containers.proofs.topological_order.ordering.attempt_all.Given as goal

abbrev pub invariant-loop-thing : goal.invariant-loop-thing
invariant-loop-thing l = record {
  ordered : IsOrdered l.reads l.done;
  things : AreThings l.reads l.done;
  distinct : AreDistinct l.done;
  keeps : Keeps l.initial.done l.done;
  tried : (i r : ℕ) → i < l.thing-index → slice_get l.things i ≡ Some r → r < length l.reads → IsTried l.reads l.done l.initial.done r;
}
