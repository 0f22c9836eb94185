use Rattle.jh_propagation.proofs.trail.Noting.{noted-first}
use Rattle.jh_propagation.proofs.trail.trail.Trail.truncate.Goals as goal

pub invariant_of-self : goal.invariant_of-self
invariant_of-self c = noted-first c.self.inside.literals.items c.truncate.new.self.items c.self.inside.places.items c.args.count c.truncate.ensures.items c.self.invariant
