use Rattle.std.proofs.Common.{◌≡◌, take}
use Rattle.jh_explanations.specs.Steps.{literals_of}
use Rattle.jh_explanations.specs.Keeping.{IsQuiet}
use Rattle.jh_explanations.proofs.shortening.keep_first.Given as goal

-- The first steps are kept, stand in the trail, were told to the classes, and don't clash.
abbrev pub invariant-loop-index : goal.invariant-loop-index
invariant-loop-index l = record {
  table : l.classes.table ≡ l.fn.classes.table;
  trail : l.trail ≡ literals_of l.kept.items;
  quiet : IsQuiet l.problem l.classes l.trail;
  kept : l.kept.items ≡ take l.index l.steps;
}
