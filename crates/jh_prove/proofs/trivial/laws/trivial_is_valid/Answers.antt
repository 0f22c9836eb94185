use Rattle.jh_prove.proofs.trivial.Validity.{trivial-valid}
use Rattle.jh_prove.proofs.trivial.laws.trivial_is_valid.Goals as goal

pub returns : goal.returns
returns c = trivial-valid
