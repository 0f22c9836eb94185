use Rattle.std.proofs.Common.{◌≡◌, ◌-◌, true, slice_get}
use Rattle.jh_form.specs.Tree.{FormulaTree}
use Rattle.jh_arena.specs.table.Entries.{is_truth}
use Rattle.jh_arena.specs.table.Nodes.{nodes}
use Rattle.jh_inst.specs.instances.Prenex.{behind}
use Rattle.jh_instantiation.specs.skolem_constants.Standing.{IsFormula}
use Rattle.jh_instantiation.proofs.skolem_constants.pulling.body_of.Given as goal

-- the body stands behind those that weren't passed yet
abbrev pub invariant-loop-turn : goal.invariant-loop-turn
invariant-loop-turn l = record {
  there : is_truth (slice_get (nodes l.table) l.at) ≡ true;
  body : (a : FormulaTree) → IsFormula l.table l.fn.node (behind l.fn.variables a) → IsFormula l.table l.at (behind (l.fn.variables - l._turn) a);
}
