use Rattle.std.proofs.Common.{arith}
use Rattle.jh_arena.specs.table.Nodes.{nodes, tree_in}
use Rattle.jh_substitution.proofs.simultaneous.Liftings.{lifts-closed}
use Rattle.jh_substitution.proofs.simultaneous.lifting.LiftingLeafRules.whole.Goals as goal

pub returns-then-loose-depth-clause-node : goal.returns-then-loose-depth-clause-node
returns-then-loose-depth-clause-node c =
    lifts-closed (nodes c.args.table.now) c.args.node c.args.depth c.loose.result (tree_in c.args.table.now c.args._shape) c.args.self.now.by c.requires.there c.loose.ensures (omega arith)
