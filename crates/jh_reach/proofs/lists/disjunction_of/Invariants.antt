use Rattle.std.proofs.Common.{◌≡◌, ◌<◌, List, Some, drop, length, slice_get}
use Rattle.jh_form.specs.Tree.{FormulaTree, of_truth}
use Rattle.jh_arena.specs.table.Growth.{Extends}
use Rattle.jh_arena.specs.table.Nodes.{nodes}
use Rattle.jh_reach.specs.Axioms.{disjoined}
use Rattle.jh_reach.specs.Standing.{AreFormulas}
use Rattle.jh_reach.proofs.lists.disjunction_of.Given as goal

-- the formulas from here on are joined
abbrev pub invariant-loop-index : goal.invariant-loop-index
invariant-loop-index l = record {
  inside : l.index < length l.items;
  grows : Extends l.fn.table l.table;
  node : (all : List FormulaTree) → AreFormulas l.fn.table l.items all → slice_get (nodes l.table) l.made ≡ Some (of_truth (disjoined (drop l.index all)));
}

abbrev pub decreases-loop-index : goal.decreases-loop-index
decreases-loop-index l = l.index
