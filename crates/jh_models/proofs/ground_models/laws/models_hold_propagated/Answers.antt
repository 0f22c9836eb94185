use Rattle.jh_models.proofs.ground_models.Models.{model-propagated}
use Rattle.jh_models.proofs.ground_models.laws.models_hold_propagated.Goals as goal

pub returns : goal.returns
returns c = λ is ls l h m g held. model-propagated is m g ls held l h
