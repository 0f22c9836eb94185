use Rattle.jh_propagation.proofs.trail.Connectives.{false-or}
use Rattle.jh_propagation.proofs.trail.laws.forced_stands.Goals as goal

pub returns : goal.returns
returns c = false-or
