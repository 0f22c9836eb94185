use Rattle.std.proofs.Common.{◌∙◌}
use Rattle.jh_arena.specs.table.Nodes.{nodes}
use Rattle.jh_cong.proofs.classes.Aparting.{constant-node}
use Rattle.jh_cong.proofs.classes.apart.is_constant_node.Goals as goal

pub returns : goal.returns
returns c = c.is_constant_shape.ensures ∙ constant-node c.args.table.now.pools (nodes c.args.table.now) c.args.node c.shape.result c.shape.ensures.tree
