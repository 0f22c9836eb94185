use Rattle.std.proofs.Common.{◌≡◌, [], true}
use Rattle.jh_propagation.specs.propagation.Branches.{IsBranch, undecided_count}
use Rattle.jh_propagation.specs.propagation.Passing.{GoesOn}
use Rattle.jh_propagation.specs.propagation.Resting.{IsAtRest}
use Rattle.jh_propagation.proofs.propagation.propagating.propagate_on.Given as goal

abbrev pub invariant-loop-branch : goal.invariant-loop-branch
invariant-loop-branch l = record {
  branch : IsBranch l.problem [] l.branch;
  goes : GoesOn l.problem l.fn.branch l.branch;
  rested : l.rested ≡ true → IsAtRest l.problem l.branch;
}

abbrev pub decreases-loop-branch : goal.decreases-loop-branch
decreases-loop-branch l = undecided_count l.problem l.branch
