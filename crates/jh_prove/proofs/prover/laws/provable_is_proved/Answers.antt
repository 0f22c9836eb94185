use Rattle.jh_prove.proofs.prover.Rights.{provable-proved}
use Rattle.jh_prove.proofs.prover.laws.provable_is_proved.Goals as goal

pub returns : goal.returns
returns c = provable-proved
