use Rattle.std.proofs.Common.{◌≡◌, ◌≤◌, ◌-◌, []}
use Rattle.jh_propagation.specs.propagation.Branches.{IsBranch, IsLonger, looks_left, undecided_count}
use Rattle.jh_propagation.proofs.propagation.settling.settle.Given as goal

abbrev pub invariant-loop-place : goal.invariant-loop-place
invariant-loop-place l = record {
  branch : IsBranch l.problem [] l.branch;
  classes : l.branch.classes ≡ l.fn.branch.classes;
  decisions : l.branch.decisions.items ≡ l.fn.branch.decisions.items;
  longer : IsLonger l.fn.branch l.branch;
  count : undecided_count l.problem l.branch ≤ undecided_count l.problem l.fn.branch;
}

abbrev pub decreases-loop-place : goal.decreases-loop-place
decreases-loop-place l = looks_left l.problem l.branch - l.branch.head
