use Rattle.jh_approx.proofs.definition.Validity.{true-query-valid}
use Rattle.jh_approx.proofs.definition.laws.true_query_is_valid.Goals as goal

pub returns : goal.returns
returns c = true-query-valid
