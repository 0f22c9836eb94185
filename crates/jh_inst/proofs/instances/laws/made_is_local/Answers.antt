use Rattle.jh_inst.proofs.instances.Locality.{sequent-local}
use Rattle.jh_inst.proofs.instances.laws.made_is_local.Goals as goal

pub returns : goal.returns
returns c = sequent-local
