use Rattle.jh_digits.specs.systems.Solution.{entry_of, right_of}
use Rattle.jh_digits.proofs.solver.Refusals.{right_divided}
use Rattle.jh_digits.proofs.solver.refusing.is_divided.Goals as goal

pub returns-then-leaves : goal.returns-then-leaves
returns-then-leaves c = λ t v w.
    let both = right_divided c.divisor-common.result (entry_of c.args.system.now c.args.row) v c.args.system.now.columns (right_of c.args.system.now c.args.row) c.divisor-common.ensures.plus c.divisor-common.ensures.minus w in
    c.leaves.ensures c.if-leaves.true (rw c.plus_right.ensures.value both.0)

pub returns : goal.returns
returns c = λ t v w.
    let both = right_divided c.divisor-common.result (entry_of c.args.system.now c.args.row) v c.args.system.now.columns (right_of c.args.system.now c.args.row) c.divisor-common.ensures.plus c.divisor-common.ensures.minus w in
    c.leaves-2.ensures t (rw c.minus_right.ensures.value both.1)
