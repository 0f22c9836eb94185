use Rattle.std.proofs.Common.{drop}
use Rattle.jh_closure.specs.congruence_closure.Nodes.{Has}
use Rattle.jh_explanations.specs.Steps.{literals_of}
use Rattle.jh_explanations.proofs.step.holds.Given as goal

-- where it stands in the list, it stands in what is left
abbrev pub invariant-loop-step : goal.invariant-loop-step
invariant-loop-step l = Has (literals_of l.steps) l.literal → Has (literals_of (drop l.step-index l.steps)) l.literal
