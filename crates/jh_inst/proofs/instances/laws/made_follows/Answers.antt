use Rattle.jh_inst.proofs.instances.Refuting.{made-follows}
use Rattle.jh_inst.proofs.instances.laws.made_follows.Goals as goal

pub returns : goal.returns
returns c = made-follows
