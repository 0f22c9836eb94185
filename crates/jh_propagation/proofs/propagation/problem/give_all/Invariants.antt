use Rattle.std.proofs.Common.{◌≡◌, ℕ, List, Some, length, slice_get, take}
use Rattle.jh_form.specs.Tree.{ValueTree}
use Rattle.jh_closure.specs.congruence_closure.Nodes.{Has}
use Rattle.jh_propagation.specs.propagation.Problems.{IsNamed}
use Rattle.jh_propagation.proofs.propagation.problem.give_all.Given as goal

-- The first atoms have their names.
abbrev pub invariant-loop-index : goal.invariant-loop-index
invariant-loop-index l = record {
  long : length l.names.items ≡ length l.fn.names.items;
  named : (us ts : List ValueTree) → ((place k name : ℕ) → slice_get l.atoms place ≡ Some k → slice_get l.given place ≡ Some name → slice_get us name ≡ slice_get ts k) → (k : ℕ) → Has (take l.index l.atoms) k → IsNamed us ts l.names.items k;
}
