use Rattle.jh_unfolding.proofs.unfolder.Addings.{chain-adds}
use Rattle.jh_unfolding.proofs.unfolder.methods.add_body.Goals as goal

pub returns-clause-context : goal.returns-clause-context
returns-clause-context c = (chain-adds c.args.visitor.now c.visit_all.new.visitor _ c.in_ok-visit_all.ensures.visited).context

pub returns-clause-adds : goal.returns-clause-adds
returns-clause-adds c = (chain-adds c.args.visitor.now c.visit_all.new.visitor _ c.in_ok-visit_all.ensures.visited).adds
