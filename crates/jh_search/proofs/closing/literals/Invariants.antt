use Rattle.std.proofs.Common.{◌≡◌, take}
use Rattle.jh_explanations.specs.Steps.{literals_of}
use Rattle.jh_search.proofs.closing.literals.Given as goal

abbrev pub invariant-loop-place : goal.invariant-loop-place
invariant-loop-place l = l.made.items ≡ literals_of (take l.place l.steps)
