use Rattle.jh_inst.proofs.instances.Refuting.{clash-valid}
use Rattle.jh_inst.proofs.instances.laws.clashing_instances_give_valid.Goals as goal

pub returns : goal.returns
returns c = clash-valid
