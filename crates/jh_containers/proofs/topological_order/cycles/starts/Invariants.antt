use Rattle.std.proofs.Common.{◌≡◌, ◌++◌, map, drop}
use Rattle.jh_containers.specs.topological_order.Orders.{start_of}
use Rattle.jh_containers.proofs.topological_order.cycles.starts.Given as goal

abbrev pub invariant-loop-thing : goal.invariant-loop-thing
invariant-loop-thing l = l.made.items ++ map start_of (drop l.thing-index l.things) ≡ map start_of l.things
