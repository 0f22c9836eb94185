use Rattle.jh_sem.proofs.Reverses.{inside-reverse}
use Rattle.jh_sem.proofs.nodes.number_of_node.Goals as goal

pub number_of-requires-clause-bound : goal.number_of-requires-clause-bound
number_of-requires-clause-bound g c = inside-reverse (g.W.World.meaning c.args.world.now).last c.args.bound.now c.requires.bound
