use Rattle.std.proofs.Common.{◌≡◌, ◌<◌, ℕ, length}
use Rattle.jh_containers.specs.topological_order.Orders.{reads_of}
use Rattle.jh_containers.specs.transitive_closure.Spreads.{IsIn, passed_to}
use Rattle.jh_definitions.proofs.dependency_order.rows.readers_of.Given as goal

abbrev pub invariant-loop-reader : goal.invariant-loop-reader
invariant-loop-reader l = record {
  reversed : (r d : ℕ) → r < l.reader → IsIn (reads_of l.reads r) d → IsIn (passed_to l.edges d) r;
  count : length l.edges ≡ length l.reads;
}
