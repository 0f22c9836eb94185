use Rattle.std.proofs.Common.{◌≡◌, List, ◌++◌, map, take, Some, slice_get}
use Rattle.jh_form.specs.Tree.{FieldTree, FormulaTree, of_field}
use Rattle.jh_arena.specs.table.Growth.{Extends}
use Rattle.jh_arena.specs.table.Nodes.{nodes}
use Rattle.jh_reach.specs.Axioms.{share_no_child}
use Rattle.jh_reach.specs.Standing.{AreFields, AreFormulas}
use Rattle.jh_reach.proofs.lists.add_pairs_of.Given as goal

-- what is said of the fields so far stands behind what stood there
abbrev pub invariant-loop-other : goal.invariant-loop-other
invariant-loop-other l = record {
  grows : Extends l.fn.table l.table;
  nodes : (f : FieldTree) (gs : List FieldTree) (done : List FormulaTree) → slice_get (nodes l.fn.table) l.field ≡ Some (of_field f) → AreFields l.fn.table l.others gs → AreFormulas l.fn.table l.fn.made.items done →
      AreFormulas l.table l.made.items (done ++ map (share_no_child f) (take l.other-index gs));
}
