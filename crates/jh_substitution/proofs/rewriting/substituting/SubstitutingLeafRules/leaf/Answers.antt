use Rattle.jh_substitution.proofs.rewriting.Substituted.{leaf-rewritten, other-rewritten}
use Rattle.jh_substitution.proofs.rewriting.substituting.SubstitutingLeafRules.leaf.Goals as goal

pub returns-then-node-self-clause-node : goal.returns-then-node-self-clause-node
returns-then-node-self-clause-node c =
    leaf-rewritten c.args.table.now c.args.self.now.name c.args.self.now.leaf c.args.self.now.value c.args._depth c.requires.ready c.args.node c.if-node-self.true

pub returns-else-node-self-clause-node : goal.returns-else-node-self-clause-node
returns-else-node-self-clause-node c =
    other-rewritten c.args.table.now c.args.self.now.name c.args.self.now.leaf c.args.self.now.value c.args._depth c.requires.ready c.args.node c.args._shape c.nodes_differ.ensures.different c.requires.leaf c.requires.there c.if-node-self.false
