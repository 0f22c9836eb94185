use Rattle.jh_semantics.proofs.Whole.{runs-stay-whole}
use Rattle.jh_semantics.proofs.laws.runs_stay_whole.Goals as goal

pub returns : goal.returns
returns c p = runs-stay-whole p
