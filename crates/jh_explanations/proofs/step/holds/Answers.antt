use Rattle.std.proofs.Common.{refl, subst}
use Rattle.jh_closure.specs.congruence_closure.Nodes.{Has}
use Rattle.jh_explanations.specs.Steps.{literals_of}
use Rattle.jh_explanations.proofs.Lists.{has-get, has-literal}
use Rattle.jh_explanations.proofs.step.holds.Goals as goal

pub returns-then-is_one : goal.returns-then-is_one
returns-then-is_one c = (
  λ h. subst (Has (literals_of c.args.steps.now)) (c.is_one.ensures.0 c.if-is_one.true) (has-literal c.args.steps.now _ (has-get c.args.steps.now c.loop-step.step-index _ c.loop-step-test.true)),
  λ h. refl,
)
