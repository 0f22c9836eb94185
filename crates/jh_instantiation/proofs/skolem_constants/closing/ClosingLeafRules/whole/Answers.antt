use Rattle.std.proofs.Common.{arith, map}
use Rattle.jh_arena.specs.table.Nodes.{nodes, tree_in}
use Rattle.jh_seq.specs.splitting.Split.{constant}
use Rattle.jh_instantiation.proofs.skolem_constants.Closings.{lacks-loose}
use Rattle.jh_instantiation.proofs.skolem_constants.closing.ClosingLeafRules.whole.Goals as goal

pub returns-then-loose-depth-clause-node : goal.returns-then-loose-depth-clause-node
returns-then-loose-depth-clause-node c =
    lacks-loose (nodes c.args.table.now) c.args.node c.args.depth c.loose.result (tree_in c.args.table.now c.args._shape) (map constant c.args.self.now.turns.now) c.requires.there c.loose.ensures (omega arith)
