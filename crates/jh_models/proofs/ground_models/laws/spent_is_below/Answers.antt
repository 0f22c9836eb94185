use Rattle.jh_models.proofs.ground_models.Leaves.{spent-bounded}
use Rattle.jh_models.proofs.ground_models.laws.spent_is_below.Goals as goal

pub returns : goal.returns
returns c = spent-bounded
