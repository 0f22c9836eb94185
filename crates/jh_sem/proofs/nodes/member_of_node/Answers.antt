use Rattle.jh_sem.proofs.Reverses.{inside-reverse}
use Rattle.jh_sem.proofs.nodes.member_of_node.Goals as goal

pub has_member-requires-clause-bound : goal.has_member-requires-clause-bound
has_member-requires-clause-bound g c = inside-reverse (g.W.World.meaning c.args.world.now).last c.args.bound.now c.requires.bound
