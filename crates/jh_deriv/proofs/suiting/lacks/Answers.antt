use Rattle.std.proofs.Common.{sym}
use Rattle.jh_deriv.proofs.suiting.lacks.Goals as goal

pub returns-else-may_hold : goal.returns-else-may_hold
returns-else-may_hold c = sym (c.may_hold.ensures c.if-may_hold.false c.args.name.now c.in-Some.ensures.number)
