use Rattle.std.proofs.Common.{◌≡◌, ◌<◌, ℕ, false, Some, slice_get}
use Rattle.jh_closure.specs.congruence_closure.Nodes.{Follows}
use Rattle.jh_cong.specs.declared.classes.literal.Said.{Said}
use Rattle.jh_cong.proofs.classes.clashing.first_broken.Given as goal

abbrev pub invariant-loop-index : goal.invariant-loop-index
invariant-loop-index l = (i k : ℕ) → i < l.index → slice_get l.denied i ≡ Some k → (e : Said) → slice_get l.said k ≡ Some e → e.holds ≡ false → Follows l.closure.nodes l.closure.said e.left e.right → ⊥
