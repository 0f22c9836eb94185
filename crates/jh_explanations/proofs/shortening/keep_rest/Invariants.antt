use Rattle.std.proofs.Common.{◌≡◌}
use Rattle.jh_arena.specs.table.Nodes.{nodes}
use Rattle.jh_explanations.specs.Steps.{literals_of}
use Rattle.jh_explanations.specs.Keeping.{AreKept, IsQuiet}
use Rattle.jh_explanations.proofs.shortening.keep_rest.Given as goal

-- What is kept of the first steps stands in the trail, was told to the classes, and doesn't clash.
abbrev pub invariant-loop-index : goal.invariant-loop-index
invariant-loop-index l = record {
  table : l.classes.table ≡ l.fn.classes.table;
  trail : l.trail ≡ literals_of l.kept.items;
  quiet : IsQuiet l.problem l.classes l.trail;
  kept : AreKept (nodes l.problem.table) l.problem l.steps l.out l.index l.kept.items;
}
