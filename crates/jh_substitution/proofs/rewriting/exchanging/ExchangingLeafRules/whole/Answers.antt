use Rattle.std.proofs.Common.{slice_get}
use Rattle.jh_arena.specs.table.Entries.{the_value}
use Rattle.jh_arena.specs.table.Nodes.{nodes, tree_in}
use Rattle.jh_arena.proofs.table.Listed.{extends-refl}
use Rattle.jh_substitution.specs.rewriting.Exchanging.{exchanging}
use Rattle.jh_substitution.proofs.rewriting.Sorted.{whole-rewritten}
use Rattle.jh_substitution.proofs.rewriting.Exchanges.{old-whole, other-whole, earlier-stays}
use Rattle.jh_substitution.proofs.rewriting.exchanging.ExchangingLeafRules.whole.Goals as goal

pub returns-then-node-self-clause-node : goal.returns-then-node-self-clause-node
returns-then-node-self-clause-node c =
    whole-rewritten c.args.table.now c.args.table.now (exchanging (the_value (slice_get (nodes c.args.table.now) c.args.self.now.old)) (the_value (slice_get (nodes c.args.table.now) c.args.self.now.new))) c.args.node c.args._depth c.args.self.now.new c.args._shape (extends-refl c.args.table.now) c.requires.inner c.requires.there
    (old-whole c.args.table.now c.args.self.now.old c.args.self.now.new c.args._depth c.requires.ready c.args.node c.if-node-self.true)

pub returns-then-node-self-2-clause-node : goal.returns-then-node-self-2-clause-node
returns-then-node-self-2-clause-node c =
    earlier-stays c.args.table.now c.args.self.now.old c.args.self.now.new c.args._depth c.requires.ready c.args.node (tree_in c.args.table.now c.args._shape) c.parts_come_first.ensures c.nodes_differ.ensures.different c.if-node-self-2.true c.requires.there

pub returns-else-node-self-2-clause-node : goal.returns-else-node-self-2-clause-node
returns-else-node-self-2-clause-node c =
    other-whole c.args.table.now c.args.self.now.old c.args.self.now.new c.args._depth c.requires.ready c.args.node (tree_in c.args.table.now c.args._shape) c.nodes_differ.ensures.different c.if-node-self.false c.requires.there
