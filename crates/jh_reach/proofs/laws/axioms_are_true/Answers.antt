use Rattle.jh_reach.proofs.Sound.{axioms-true}
use Rattle.jh_reach.proofs.laws.axioms_are_true.Goals as goal

pub returns : goal.returns
returns c = axioms-true
