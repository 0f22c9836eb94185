use Rattle.jh_inst.proofs.plain_formulas.Making.{entries-plain}
use Rattle.jh_inst.proofs.plain_formulas.laws.entries_are_plain.Goals as goal

pub returns : goal.returns
returns c = entries-plain
