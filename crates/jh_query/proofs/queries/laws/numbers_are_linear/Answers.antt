use Rattle.jh_query.proofs.queries.Linearities.{linear}
use Rattle.jh_query.proofs.queries.laws.numbers_are_linear.Goals as goal

pub returns : goal.returns
returns c = linear
