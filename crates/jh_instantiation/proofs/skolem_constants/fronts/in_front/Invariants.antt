use Rattle.std.proofs.Common.{◌≡◌, ◌+◌, true, slice_get}
use Rattle.jh_form.specs.Tree.{FormulaTree}
use Rattle.jh_arena.specs.table.Entries.{is_truth}
use Rattle.jh_arena.specs.table.Nodes.{nodes}
use Rattle.jh_inst.specs.instances.Prenex.{in_front}
use Rattle.jh_instantiation.specs.skolem_constants.Standing.{IsFormula}
use Rattle.jh_instantiation.proofs.skolem_constants.fronts.in_front.Given as goal

-- the quantifiers that were passed stand in front of what is looked at
abbrev pub invariant-loop-passed : goal.invariant-loop-passed
invariant-loop-passed l = record {
  there : is_truth (slice_get (nodes l.table) l.at) ≡ true;
  counted : (a : FormulaTree) → IsFormula l.table l.fn.node a → (b : FormulaTree) × IsFormula l.table l.at b × (in_front a ≡ l.passed + in_front b);
}
