use Rattle.jh_models.proofs.ground_models.Propagation.{propagated-met}
use Rattle.jh_models.proofs.ground_models.laws.propagation_is_sound.Goals as goal

pub returns : goal.returns
returns c = λ is ls l h s made met. propagated-met is ls s made met l h
