use Rattle.std.proofs.Common.{◌≡◌, ◌<◌, ℕ, Some, slice_get}
use Rattle.jh_closure.specs.congruence_closure.Nodes.{Follows}
use Rattle.jh_closure.specs.declared.congruence_closure.equation.Equation.{Equation}
use Rattle.jh_cong.proofs.classes.clashing.first_apart.Given as goal

abbrev pub invariant-loop-place : goal.invariant-loop-place
invariant-loop-place l = (i : ℕ) (e : Equation) → i < l.place → slice_get l.pairs i ≡ Some e → Follows l.closure.nodes l.closure.said e.left e.right → ⊥
