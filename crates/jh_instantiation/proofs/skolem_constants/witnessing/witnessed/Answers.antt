use Rattle.jh_arena.specs.table.Nodes.{nodes}
use Rattle.jh_instantiation.proofs.skolem_constants.Shapes.{truth-inside}
use Rattle.jh_instantiation.proofs.skolem_constants.witnessing.witnessed.Goals as goal

pub is_shallow-requires : goal.is_shallow-requires
is_shallow-requires c = truth-inside (nodes c.args.table.now) c.args.node c.requires.there
