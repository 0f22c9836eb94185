use Rattle.std.proofs.Common.{◌≡◌, ◌<◌, ℕ, false, Some, slice_get}
use Rattle.jh_closure.specs.congruence_closure.Nodes.{Follows}
use Rattle.jh_cong.specs.declared.classes.literal.Said.{Said}
use Rattle.jh_cong.proofs.classes.clashing.first_new.Given as goal

abbrev pub invariant-loop-place : goal.invariant-loop-place
invariant-loop-place l = (i : ℕ) (e : Said) → i < l.place → slice_get l.said i ≡ Some e → e.holds ≡ false → Follows l.closure.nodes l.closure.said e.left e.right → ⊥
