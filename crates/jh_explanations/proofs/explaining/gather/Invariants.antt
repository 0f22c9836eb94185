use Rattle.jh_arena.specs.table.Nodes.{nodes}
use Rattle.jh_explanations.specs.Marks.{AreGathered}
use Rattle.jh_explanations.proofs.explaining.gather.Given as goal

abbrev pub invariant-loop-place : goal.invariant-loop-place
invariant-loop-place l = AreGathered (nodes l.problem.table) l.problem l.branch.decisions.items l.branch.trail l.marks l.place l.steps.items
