use Rattle.std.proofs.Common.{◌≡◌, ◌<◌, ℕ, Some, length, slice_get}
use Rattle.jh_containers.specs.transitive_closure.Spreads.{IsIn, passed_to}
use Rattle.jh_definitions.proofs.dependency_order.rows.add_edges.Given as goal

abbrev pub invariant-loop-thing : goal.invariant-loop-thing
invariant-loop-thing l = record {
  added : (j d : ℕ) → j < l.thing-index → slice_get l.read j ≡ Some d → IsIn (passed_to l.edges d) l.reader;
  keeps : (d r : ℕ) → IsIn (passed_to l.initial.edges d) r → IsIn (passed_to l.edges d) r;
  count : length l.edges ≡ length l.initial.edges;
}
