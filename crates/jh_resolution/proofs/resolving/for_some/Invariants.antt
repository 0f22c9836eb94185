use Rattle.std.proofs.Common.{◌≡◌, Some, slice_get}
use Rattle.jh_form.specs.Tree.{of_truth}
use Rattle.jh_form.specs.Tree as t
use Rattle.jh_arena.specs.table.Entries.{the_value}
use Rattle.jh_arena.specs.table.Growth.{Extends}
use Rattle.jh_arena.specs.table.Nodes.{nodes}
use Rattle.jh_vars.specs.Resolved as r
use Rattle.jh_resolution.proofs.resolving.for_some.Given as goal

abbrev pub invariant-loop-index : goal.invariant-loop-index
invariant-loop-index l = record {
  grows : Extends l.fn.table l.table;
  made : slice_get (nodes l.table) l.made ≡ Some (of_truth (r.quantified t.ex l._index (r.as_truth (the_value (slice_get (nodes l.fn.table) l.inner)))));
}
