use Rattle.jh_fca.proofs.cutting.Cutting.{goal-cut, fact-cut}
use Rattle.jh_fca.proofs.cutting.laws.cut_may_stand.Goals as goal

pub returns : goal.returns
returns c = λ a m e. record { goal = goal-cut a m e; fact = fact-cut a m e }
