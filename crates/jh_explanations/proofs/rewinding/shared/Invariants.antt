use Rattle.std.proofs.Common.{◌≡◌, take}
use Rattle.jh_explanations.specs.Steps.{literals_of}
use Rattle.jh_explanations.proofs.rewinding.shared.Given as goal

abbrev pub invariant-loop-index : goal.invariant-loop-index
invariant-loop-index l = take l.index l.trail ≡ literals_of (take l.index l.steps)
