use Rattle.std.proofs.Common.{subst}
use Rattle.jh_propagation.specs.trail.Listing.{DecideOnce}
use Rattle.jh_propagation.proofs.trail.Noting.{noted-once}
use Rattle.jh_propagation.proofs.trail.trail.Trail.decides_once.Goals as goal

pub returns : goal.returns
returns c = subst DecideOnce c.self.view_is (noted-once c.self.inside.literals.items c.self.inside.places.items c.self.invariant)
