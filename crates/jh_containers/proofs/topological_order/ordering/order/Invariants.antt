use Rattle.std.proofs.Common.{◌<◌, ℕ, length}
use Rattle.jh_containers.specs.topological_order.Orders.{IsOrdered, AreThings, AreDistinct}
use Rattle.jh_containers.proofs.topological_order.Orderings.{Waits}
use Rattle.jh_containers.proofs.topological_order.ordering.order.Given as goal

abbrev pub invariant-loop-turn : goal.invariant-loop-turn
invariant-loop-turn l = record {
  ordered : IsOrdered l.reads l.done;
  things : AreThings l.reads l.done;
  distinct : AreDistinct l.done;
  waits : (r : ℕ) → r < length l.reads → Waits l.reads l.done l.at r;
}
