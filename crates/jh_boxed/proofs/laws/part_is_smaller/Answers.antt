use Rattle.jh_boxed.proofs.PartLemmas.{part-size}
use Rattle.jh_boxed.proofs.laws.part_is_smaller.Goals as goal

pub returns : goal.returns
returns c = part-size
