use Rattle.std.proofs.Common.{◌≡◌, true, List, ◌++◌, replicate, slice_get}
use Rattle.jh_form.specs.Tree.{FormulaTree, TermTree}
use Rattle.jh_form.specs.Tree as tree
use Rattle.jh_arena.specs.table.Entries.{is_truth}
use Rattle.jh_arena.specs.table.Growth.{Extends}
use Rattle.jh_arena.specs.table.Nodes.{nodes}
use Rattle.jh_inst.specs.instances.Rounds.{put_at}
use Rattle.jh_instantiation.specs.skolem_constants.Standing.{IsFormula, IsTerm}
use Rattle.jh_instantiation.proofs.instance_count.groups.put_at_null.Given as goal

-- it was put at null so often
abbrev pub invariant-loop-turn : goal.invariant-loop-turn
invariant-loop-turn l = record {
  grows : Extends l.initial.table l.table;
  there : is_truth (slice_get (nodes l.table) l.made) ≡ true;
  null : IsTerm l.table l.null tree.null;
  put : (a : FormulaTree) → IsFormula l.initial.table l.fn.node a → (b : FormulaTree) × IsFormula l.table l.made b × ((ws : List TermTree) → put_at a (replicate l._turn tree.null ++ ws) ≡ put_at b ws);
}
