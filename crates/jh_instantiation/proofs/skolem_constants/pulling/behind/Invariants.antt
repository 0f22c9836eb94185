use Rattle.std.proofs.Common.{◌≡◌, true, slice_get}
use Rattle.jh_form.specs.Tree.{FormulaTree}
use Rattle.jh_arena.specs.table.Entries.{is_truth}
use Rattle.jh_arena.specs.table.Growth.{Extends}
use Rattle.jh_arena.specs.table.Nodes.{nodes}
use Rattle.jh_inst.specs.instances.Prenex.{behind}
use Rattle.jh_instantiation.specs.skolem_constants.Standing.{IsFormula}
use Rattle.jh_instantiation.proofs.skolem_constants.pulling.behind.Given as goal

-- so many quantifiers stand in front of the body
abbrev pub invariant-loop-turn : goal.invariant-loop-turn
invariant-loop-turn l = record {
  grows : Extends l.initial.table l.table;
  there : is_truth (slice_get (nodes l.table) l.made) ≡ true;
  made : (a : FormulaTree) → IsFormula l.initial.table l.fn.body a → IsFormula l.table l.made (behind l._turn a);
}
