use Rattle.std.proofs.Common.{◌≡◌, ◌⊎◌, ℕ, Some, slice_get}
use Rattle.jh_containers.specs.declared.transitive_closure.facts.Fact.{Fact}
use Rattle.jh_containers.specs.transitive_closure.Spreads.{IsIn}
use Rattle.jh_containers.proofs.transitive_closure.Places.{Added}
use Rattle.jh_containers.proofs.transitive_closure.spreading.pass_on.Given as goal

abbrev pub invariant-loop-of : goal.invariant-loop-of
invariant-loop-of l = record {
  added : Added l.to (λ m. record { of = m; what = l.what }) l.list l.of-index;
  keeps : (place : ℕ) (f : Fact) → slice_get l.initial.list place ≡ Some f → slice_get l.list place ≡ Some f;
  only : (f : Fact) → IsIn l.list f → (IsIn l.to f.of × (f.what ≡ l.what)) ⊎ IsIn l.initial.list f;
}
