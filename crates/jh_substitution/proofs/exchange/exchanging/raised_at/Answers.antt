use Rattle.jh_substitution.proofs.exchange.Rules.{other-node, same-node}
use Rattle.jh_substitution.proofs.exchange.exchanging.raised_at.Goals as goal

pub returns-then-node-old-clause-stands : goal.returns-then-node-old-clause-stands
returns-then-node-old-clause-stands c =
    other-node c.args.table.now c.lift.new.table c.args.rules.old c.args.node c.args.depth c.lift.ensures.grows c.requires.inside c.requires.ready.old c.in_ok-old.old c.nodes_differ.ensures.different c.in_ok-old.ensures.tree c.if-node-old.true

pub returns-clause-stands : goal.returns-clause-stands
returns-clause-stands c =
    same-node c.args.table.now c.lift.new.table c.lift-2.new.table c.args.rules.old c.args.rules.new c.args.node c.in_ok-old.old c.in_ok-new.new c.args.depth c.lift.ensures.grows c.lift-2.ensures.grows
    c.requires.ready.old c.requires.ready.new c.in_ok-old.ensures.tree c.if-node-old.false c.in_ok-new.ensures.tree
