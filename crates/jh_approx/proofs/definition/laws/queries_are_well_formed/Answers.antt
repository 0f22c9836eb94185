use Rattle.jh_approx.proofs.definition.Rooms.{queries-well-formed}
use Rattle.jh_approx.proofs.definition.laws.queries_are_well_formed.Goals as goal

pub returns : goal.returns
returns c = queries-well-formed
