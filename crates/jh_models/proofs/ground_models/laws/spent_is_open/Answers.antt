use Rattle.jh_models.proofs.ground_models.Beginning.{spent-open}
use Rattle.jh_models.proofs.ground_models.laws.spent_is_open.Goals as goal

pub returns : goal.returns
returns c = spent-open
