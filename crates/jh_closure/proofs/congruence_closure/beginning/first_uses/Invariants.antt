use Rattle.std.proofs.Common.{◌≡◌, ◌<◌, ℕ, Some, length, slice_get}
use Rattle.jh_closure.specs.declared.congruence_closure.node.Node.{Node}
use Rattle.jh_closure.specs.congruence_closure.Nodes.{EachPart, Has}
use Rattle.jh_closure.specs.congruence_closure.Uses.{row}
use Rattle.jh_closure.proofs.congruence_closure.beginning.first_uses.Given as goal

abbrev pub invariant-loop-number : goal.invariant-loop-number
invariant-loop-number l = record {
  covers : (k : ℕ) (x : Node) → k < l.number → slice_get l.nodes k ≡ Some x → EachPart (λ p. Has (row l.uses.items p) k) x;
  inside : (p k : ℕ) → Has (row l.uses.items p) k → k < length l.nodes;
  count : length l.uses.items ≡ length l.nodes;
}
