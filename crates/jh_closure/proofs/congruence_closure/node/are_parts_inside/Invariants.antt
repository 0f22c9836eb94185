use Rattle.std.proofs.Common.{◌≡◌, ◌<◌, ℕ, Some, length, slice_get}
use Rattle.jh_closure.specs.declared.congruence_closure.node.Node.{Node}
use Rattle.jh_closure.specs.congruence_closure.Nodes.{EachPart}
use Rattle.jh_closure.proofs.congruence_closure.node.are_parts_inside.Given as goal

abbrev pub invariant-loop-number : goal.invariant-loop-number
invariant-loop-number l = (k : ℕ) (x : Node) → k < l.number → slice_get l.nodes k ≡ Some x → EachPart (λ p. p < length l.nodes) x
