use Rattle.jh_inst.proofs.plain_formulas.Normals.{normal-plain}
use Rattle.jh_inst.proofs.plain_formulas.laws.normal_is_plain.Goals as goal

pub returns : goal.returns
returns c = normal-plain
