use Rattle.jh_fca.proofs.elimination.Exactly.{eliminated-exact}
use Rattle.jh_fca.proofs.elimination.laws.eliminated_is_exact.Goals as goal

pub returns : goal.returns
returns c = eliminated-exact
