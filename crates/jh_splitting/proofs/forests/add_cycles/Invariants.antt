use Rattle.std.proofs.Common.{◌++◌, List}
use Rattle.jh_form.specs.Tree.{FieldTrees, FormulaTree}
use Rattle.jh_arena.specs.table.Growth.{Extends}
use Rattle.jh_import.specs.entering.Entered.{IsList}
use Rattle.jh_seq.specs.splitting.Forests.{no_cycles}
use Rattle.jh_splitting.specs.Edges.{fields_from}
use Rattle.jh_splitting.specs.Pairs.{ArePaired}
use Rattle.jh_splitting.specs.Standing.{IsFormula}
use Rattle.jh_splitting.proofs.Edging.{Adding}
use Rattle.jh_splitting.proofs.forests.add_cycles.Given as goal

-- the goals of the fields so far were added
abbrev pub invariant-loop-index : goal.invariant-loop-index
invariant-loop-index l = record {
  goals : (fs : FieldTrees) (gs : List FormulaTree) → IsList l.initial.table l.fn.list fs → ArePaired (IsFormula l.initial.table) l.initial.goals.items gs → Adding l.table l.goals.items (no_cycles fs) (fields_from l.index fs) (gs ++ no_cycles fs fs);
  grows : Extends l.initial.table l.table;
}
