use Rattle.std.proofs.Common.{slice_get, arith}
use Rattle.jh_arena.specs.table.Entries.{the_object}
use Rattle.jh_arena.specs.table.Nodes.{nodes, tree_in}
use Rattle.jh_substitution.proofs.rewriting.Alone.{lacks-loose}
use Rattle.jh_substitution.proofs.rewriting.opening.OpeningLeafRules.whole.Goals as goal

pub returns-then-loose-depth-clause-node : goal.returns-then-loose-depth-clause-node
returns-then-loose-depth-clause-node c =
    lacks-loose (nodes c.args.table.now) c.args.node c.args.depth c.loose.result (tree_in c.args.table.now c.args._shape) (the_object (slice_get (nodes c.args.table.now) c.args.self.now.with)) c.requires.there c.loose.ensures (omega arith)
