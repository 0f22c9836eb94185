use Rattle.std.proofs.Common.{◌≡◌, ◌-◌, length}
use Rattle.jh_arena.specs.table.Nodes.{nodes}
use Rattle.jh_explanations.specs.Marks.{AreExplained}
use Rattle.jh_explanations.specs.Resting.{IsToldBelow}
use Rattle.jh_explanations.proofs.marking.mark_down.Given as goal

-- What is left of the trail to go down, and the table as it was.
abbrev pub invariant-loop-index : goal.invariant-loop-index
invariant-loop-index l = record {
  table : l.classes.table ≡ l.fn.classes.table;
  told : IsToldBelow (nodes l.fn.classes.table) (nodes l.problem.table) l.trail l.reasons l.classes.said (length l.trail - l.index);
  explained : AreExplained (nodes l.problem.table) l.problem l.trail l.reasons l.marks.items (length l.trail - l.index);
}
