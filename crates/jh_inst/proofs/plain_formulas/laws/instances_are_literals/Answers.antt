use Rattle.jh_inst.proofs.plain_formulas.Making.{instances-literals}
use Rattle.jh_inst.proofs.plain_formulas.laws.instances_are_literals.Goals as goal

pub returns : goal.returns
returns c = instances-literals
