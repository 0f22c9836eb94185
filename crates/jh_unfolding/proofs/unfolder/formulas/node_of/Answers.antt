use Rattle.jh_unfolding.proofs.unfolder.Addings.{if-ok}
use Rattle.jh_unfolding.proofs.unfolder.Knowing.{ready-grows, resolved-is}
use Rattle.jh_unfolding.proofs.unfolder.formulas.node_of.Goals as goal

pub returns-clause-node : goal.returns-clause-node
returns-clause-node c = if-ok c.resolved.result (λ made e. resolved-is c.resolved.new.table c.args.context.now c.args.at.now _ made (ready-grows c.args.table.now c.resolved.new.table c.args.context.now c.resolved.ensures.grows c.requires) e) c.resolved.ensures.node

pub returns-clause-ready : goal.returns-clause-ready
returns-clause-ready c = ready-grows c.args.table.now c.resolved.new.table c.args.context.now c.resolved.ensures.grows c.requires
