use Rattle.jh_fca.proofs.elimination.Everywhere.{eliminated-stands-everywhere}
use Rattle.jh_fca.proofs.elimination.laws.eliminated_may_stand.Goals as goal

pub returns : goal.returns
returns c = eliminated-stands-everywhere
