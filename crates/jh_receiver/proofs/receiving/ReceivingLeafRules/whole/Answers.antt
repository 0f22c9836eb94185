use Rattle.std.proofs.Common.{slice_get, arith}
use Rattle.jh_arena.specs.table.Entries.{the_object}
use Rattle.jh_arena.specs.table.Nodes.{nodes, tree_in}
use Rattle.jh_receiver.proofs.Receivings.{receives-closed}
use Rattle.jh_receiver.proofs.receiving.ReceivingLeafRules.whole.Goals as goal

pub returns-then-loose-depth-clause-node : goal.returns-then-loose-depth-clause-node
returns-then-loose-depth-clause-node c =
    receives-closed (nodes c.args.table.now) c.args.node c.args.depth c.loose.result (tree_in c.args.table.now c.args._shape) (the_object (slice_get (nodes c.args.table.now) c.args.self.now.receiver)) c.requires.there c.loose.ensures (omega arith)
