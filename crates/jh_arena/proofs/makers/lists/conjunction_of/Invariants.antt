use Rattle.std.proofs.Common.{◌≡◌, ◌<◌, Some, drop, length, slice_get}
use Rattle.jh_form.specs.Tree.{of_truth}
use Rattle.jh_arena.specs.table.Growth.{Extends}
use Rattle.jh_arena.specs.table.Nodes.{nodes}
use Rattle.jh_arena.specs.makers.Joined.{joined, truths_at}
use Rattle.jh_arena.proofs.makers.lists.conjunction_of.Given as goal

-- the formulas from here on are joined
abbrev pub invariant-loop-index : goal.invariant-loop-index
invariant-loop-index l = record {
  inside : l.index < length l.items;
  grows : Extends l.fn.table l.table;
  node : slice_get (nodes l.table) l.made ≡ Some (of_truth (joined (truths_at (nodes l.fn.table) (drop l.index l.items))));
}

abbrev pub decreases-loop-index : goal.decreases-loop-index
decreases-loop-index l = l.index
