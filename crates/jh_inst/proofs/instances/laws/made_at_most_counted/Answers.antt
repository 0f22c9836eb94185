use Rattle.jh_inst.proofs.instances.Counted.{sequent-counted}
use Rattle.jh_inst.proofs.instances.laws.made_at_most_counted.Goals as goal

pub returns : goal.returns
returns c = sequent-counted
