use Rattle.jh_sem.proofs.Reverses.{inside-reverse}
use Rattle.jh_sem.proofs.nodes.object_of_node.Goals as goal

pub object_of-requires-clause-bound : goal.object_of-requires-clause-bound
object_of-requires-clause-bound g c = inside-reverse (g.W.World.meaning c.args.world.now).last c.args.bound.now c.requires.bound
