use Rattle.std.proofs.Common.{◌≡◌, [], ℕ, take}
use Rattle.jh_closure.specs.congruence_closure.Nodes.{Has}
use Rattle.jh_propagation.specs.propagation.Branches.{IsBranch, IsLonger, Moved}
use Rattle.jh_propagation.specs.propagation.Resting.{IsResting}
use Rattle.jh_propagation.proofs.propagation.following.follow.Given as goal

abbrev pub invariant-loop-index : goal.invariant-loop-index
invariant-loop-index l = record {
  branch : IsBranch l.problem [] l.branch;
  followed : (k : ℕ) → Has (take l.index l.atoms) k → IsResting l.problem l.branch k;
  moved : Moved l.problem l.fn.branch l.branch;
  longer : IsLonger l.fn.branch l.branch;
  classes : l.branch.classes ≡ l.fn.branch.classes;
  head : l.branch.head ≡ l.fn.branch.head;
  decisions : l.branch.decisions.items ≡ l.fn.branch.decisions.items;
}
