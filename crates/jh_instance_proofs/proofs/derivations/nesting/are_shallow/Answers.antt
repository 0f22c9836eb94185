use Rattle.std.proofs.Common.{refl}
use Rattle.jh_instance_proofs.proofs.derivations.Shallow.{step-next}
use Rattle.jh_instance_proofs.proofs.derivations.nesting.are_shallow.Goals as goal

pub loop-place-preserved : goal.loop-place-preserved
loop-place-preserved c = step-next 4096 c.args.steps.now c.loop-place.place c.step_at.result.now c.step_at.ensures c.loop-place.invariant (c.if-not-is_shallow.ensures refl)
