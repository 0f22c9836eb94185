use Rattle.jh_weakest.proofs.precondition.standing.standing.Goals as goal

pub returns-else-may_hold-clause-nowhere : goal.returns-else-may_hold-clause-nowhere
returns-else-may_hold-clause-nowhere c = λ e. c.may_hold.ensures c.if-may_hold.false c.args.name.now c.in-Some.ensures.number
