use Rattle.jh_semantics.proofs.TypedMethods.{runs-stay-well-formed}
use Rattle.jh_semantics.proofs.laws.runs_stay_well_formed.Goals as goal

pub returns : goal.returns
returns c p = runs-stay-well-formed p
