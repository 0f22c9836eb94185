use Rattle.jh_fca.proofs.elimination.Sound.{eliminated-valid}
use Rattle.jh_fca.proofs.elimination.laws.eliminated_is_valid.Goals as goal

pub returns : goal.returns
returns c = eliminated-valid
