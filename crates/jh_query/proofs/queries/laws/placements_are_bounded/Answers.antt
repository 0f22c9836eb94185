use Rattle.jh_query.proofs.queries.Bounds.{placed-bound}
use Rattle.jh_query.proofs.queries.laws.placements_are_bounded.Goals as goal

pub returns : goal.returns
returns c = placed-bound
