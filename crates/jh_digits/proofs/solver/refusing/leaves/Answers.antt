use Rattle.jh_digits.proofs.solver.Refusals.{none_leaves, rest_leaves}
use Rattle.jh_digits.proofs.solver.refusing.leaves.Goals as goal

pub returns-then-divisor-eq0 : goal.returns-then-divisor-eq0
returns-then-divisor-eq0 c = none_leaves c.args.divisor c.args.number c.if-divisor-eq0.true

pub returns-else-divisor-eq0 : goal.returns-else-divisor-eq0
returns-else-divisor-eq0 c = rest_leaves c.args.divisor c.args.number
