use Rattle.std.proofs.Common.{◌≡◌, ◌<◌, ℕ, Some, slice_get}
use Rattle.jh_closure.specs.congruence_closure.Nodes.{Follows, Has}
use Rattle.jh_closure.specs.declared.congruence_closure.equation.Equation.{Equation}
use Rattle.jh_cong.proofs.classes.following.following.Given as goal

abbrev pub invariant-loop-place : goal.invariant-loop-place
invariant-loop-place l = record {
  all : (i : ℕ) (e : Equation) → i < l.place → slice_get l.asked i ≡ Some e → Follows l.closure.nodes l.closure.said e.left e.right → Has l.listed.items i;
  only : (i : ℕ) (e : Equation) → Has l.listed.items i → slice_get l.asked i ≡ Some e → Follows l.closure.nodes l.closure.said e.left e.right;
  inside : (i : ℕ) → Has l.listed.items i → i < l.place;
}
