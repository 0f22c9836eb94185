use Rattle.std.proofs.Common.{◌≡◌, List, ◌++◌, drop}
use Rattle.jh_form.specs.Tree.{FieldTree, FormulaTree}
use Rattle.jh_arena.specs.table.Growth.{Extends}
use Rattle.jh_reach.specs.Axioms.{pairs_share_no_child}
use Rattle.jh_reach.specs.Standing.{AreFields, AreFormulas}
use Rattle.jh_reach.proofs.lists.add_pairs.Given as goal

-- what stands there, with the pairs of the fields that are left, is what stood there with all pairs
abbrev pub invariant-loop-index : goal.invariant-loop-index
invariant-loop-index l = record {
  grows : Extends l.fn.table l.table;
  nodes : (gs : List FieldTree) (done : List FormulaTree) → AreFields l.fn.table l.fields gs → AreFormulas l.fn.table l.fn.made.items done →
      (now : List FormulaTree) × AreFormulas l.table l.made.items now × (now ++ pairs_share_no_child (drop l.index gs) ≡ done ++ pairs_share_no_child gs);
}
