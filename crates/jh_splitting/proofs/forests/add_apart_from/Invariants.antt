use Rattle.std.proofs.Common.{◌≡◌, ◌++◌, List, Some, slice_get}
use Rattle.jh_form.specs.Tree.{FieldTree, FieldTrees, FormulaTree, of_field}
use Rattle.jh_arena.specs.table.Growth.{Extends}
use Rattle.jh_arena.specs.table.Nodes.{nodes}
use Rattle.jh_import.specs.entering.Entered.{IsList}
use Rattle.jh_seq.specs.splitting.Forests.{apart_from}
use Rattle.jh_splitting.specs.Edges.{fields_from}
use Rattle.jh_splitting.specs.Pairs.{ArePaired}
use Rattle.jh_splitting.specs.Standing.{IsFormula}
use Rattle.jh_splitting.proofs.Edging.{Adding}
use Rattle.jh_splitting.proofs.forests.add_apart_from.Given as goal

-- the goals of the fields so far were added
abbrev pub invariant-loop-index : goal.invariant-loop-index
invariant-loop-index l = record {
  goals : (fs : FieldTrees) (f : FieldTree) (gs : List FormulaTree) → IsList l.initial.table l.fn.list fs → slice_get (nodes l.initial.table) l.fn.field ≡ Some (of_field f) → ArePaired (IsFormula l.initial.table) l.initial.goals.items gs → Adding l.table l.goals.items (apart_from f) (fields_from l.index fs) (gs ++ apart_from f (fields_from l.fn.from fs));
  grows : Extends l.initial.table l.table;
}
