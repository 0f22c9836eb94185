use Rattle.jh_closure.proofs.structures.Listed.{more-not-met}
use Rattle.jh_closure.proofs.structures.laws.more_is_not_met.Goals as goal

pub returns : goal.returns
returns c = more-not-met
