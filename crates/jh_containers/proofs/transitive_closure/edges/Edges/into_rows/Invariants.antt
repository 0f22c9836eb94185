use Rattle.std.proofs.Common.{◌≡◌, ◌++◌, map}
use Rattle.jh_containers.specs.transitive_closure.Spreads.{items_of}
use Rattle.jh_containers.proofs.transitive_closure.edges.Edges.into_rows.Given as goal

abbrev pub invariant-loop-row : goal.invariant-loop-row
invariant-loop-row l = l.made.items ++ map items_of l.row-iterator.rest.items ≡ l.fn.self
