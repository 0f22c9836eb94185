use Rattle.jh_semantics.proofs.Growth.{runs-only-add}
use Rattle.jh_semantics.proofs.laws.runs_only_add.Goals as goal

pub returns : goal.returns
returns c p = runs-only-add p
