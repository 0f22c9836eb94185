use Rattle.jh_arena.specs.table.Nodes.{nodes}
use Rattle.jh_propagation.proofs.trail.Shaped.{inside}
use Rattle.jh_propagation.proofs.trail.occurring.gather_instance.Goals as goal

pub is_shallow-requires : goal.is_shallow-requires
is_shallow-requires c = inside (nodes c.args.table.now) c.args.instance c.requires.formula
