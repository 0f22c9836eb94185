use Rattle.jh_models.proofs.ground_models.Fixing.{whole-model}
use Rattle.jh_models.proofs.ground_models.laws.whole_fixpoint_is_model.Goals as goal

pub returns : goal.returns
returns c = whole-model
