use Rattle.std.proofs.Common.{◌<◌, ℕ}
use Rattle.jh_containers.specs.topological_order.Orders.{IsOrdered, AreThings, AreDistinct, IsTried}
use Rattle.jh_containers.proofs.topological_order.Orderings.{Keeps}
use Rattle.jh_containers.proofs.topological_order.ordering.attempt_first.Given as goal

abbrev pub invariant-loop-thing : goal.invariant-loop-thing
invariant-loop-thing l = record {
  ordered : IsOrdered l.reads l.done;
  things : AreThings l.reads l.done;
  distinct : AreDistinct l.done;
  keeps : Keeps l.initial.done l.done;
  tried : (r : ℕ) → r < l.thing → IsTried l.reads l.done l.initial.done r;
}
