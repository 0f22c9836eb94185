use Rattle.std.proofs.Common.{arith}
use Rattle.jh_arena.specs.table.Nodes.{nodes, tree_in}
use Rattle.jh_substitution.specs.simultaneous.OpenedAll.{objects_at}
use Rattle.jh_substitution.proofs.simultaneous.Openings.{lacks-loose}
use Rattle.jh_substitution.proofs.simultaneous.opening.OpeningAllLeafRules.whole.Goals as goal

pub returns-then-loose-depth-clause-node : goal.returns-then-loose-depth-clause-node
returns-then-loose-depth-clause-node c =
    lacks-loose (nodes c.args.table.now) c.args.node c.args.depth c.loose.result (tree_in c.args.table.now c.args._shape) (objects_at (nodes c.args.table.now) c.args.self.now.with.now) c.requires.there c.loose.ensures (omega arith)
