use Rattle.jh_arena.specs.table.Nodes.{tree_in}
use Rattle.jh_substitution.proofs.simultaneous.Rules.{lacks-names}
use Rattle.jh_substitution.proofs.simultaneous.several.SeveralLeafRules.whole.Goals as goal

pub returns-then-holds_none-clause-node : goal.returns-then-holds_none-clause-node
returns-then-holds_none-clause-node c =
    lacks-names c.args.table.now c.args.self.now.pairs.now c.args.node c.args._depth (tree_in c.args.table.now c.args._shape) c.requires.there (c.holds_none.ensures c.if-holds_none.true)
