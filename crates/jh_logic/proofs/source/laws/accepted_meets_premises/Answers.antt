use Rattle.jh_logic.proofs.source.Fits.{meets}
use Rattle.jh_logic.proofs.source.laws.accepted_meets_premises.Goals as goal

pub returns : goal.returns
returns c = meets
