use Rattle.std.proofs.Common.{refl}
use Rattle.jh_cong.proofs.classes.Answering.{begin-state}
use Rattle.jh_cong.proofs.classes.telling.begin.Goals as goal

pub returns-clause-state : goal.returns-clause-state
returns-clause-state c = begin-state _ c.in_ok-apart.ensures.pairs c.in_ok-apart.ensures.flattens c.in_ok-apart.ensures.nothing c.new-said.ensures.items refl
