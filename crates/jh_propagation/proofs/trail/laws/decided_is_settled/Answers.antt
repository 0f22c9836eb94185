use Rattle.jh_propagation.proofs.trail.Connectives.{settled}
use Rattle.jh_propagation.proofs.trail.laws.decided_is_settled.Goals as goal

pub returns : goal.returns
returns c = settled
