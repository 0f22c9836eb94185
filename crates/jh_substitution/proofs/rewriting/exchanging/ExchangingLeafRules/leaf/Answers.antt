use Rattle.jh_substitution.proofs.rewriting.Exchanges.{old-leaf, other-leaf}
use Rattle.jh_substitution.proofs.rewriting.exchanging.ExchangingLeafRules.leaf.Goals as goal

pub returns-then-node-self-clause-node : goal.returns-then-node-self-clause-node
returns-then-node-self-clause-node c =
    old-leaf c.args.table.now c.args.self.now.old c.args.self.now.new c.args._depth c.requires.ready c.args.node c.args._shape c.if-node-self.true c.requires.leaf c.requires.there

pub returns-else-node-self-clause-node : goal.returns-else-node-self-clause-node
returns-else-node-self-clause-node c =
    other-leaf c.args.table.now c.args.self.now.old c.args.self.now.new c.args._depth c.requires.ready c.args.node c.args._shape c.nodes_differ.ensures.different c.if-node-self.false c.requires.leaf c.requires.there
