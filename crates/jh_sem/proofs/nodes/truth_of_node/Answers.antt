use Rattle.jh_sem.proofs.Reverses.{inside-reverse}
use Rattle.jh_sem.proofs.nodes.truth_of_node.Goals as goal

pub truth_of-requires-clause-bound : goal.truth_of-requires-clause-bound
truth_of-requires-clause-bound g c = inside-reverse (g.W.World.meaning c.args.world.now).last c.args.bound.now c.requires.bound
