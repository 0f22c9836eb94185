use Rattle.std.proofs.Common.{◌≡◌, ◌⊎◌, ℕ, Some, slice_get}
use Rattle.jh_containers.specs.declared.transitive_closure.facts.Fact.{Fact}
use Rattle.jh_containers.specs.transitive_closure.Spreads.{IsIn}
use Rattle.jh_containers.proofs.transitive_closure.Places.{Added}
use Rattle.jh_effects.proofs.written_state.reaching.add_row.Given as goal

abbrev pub invariant-loop-what : goal.invariant-loop-what
invariant-loop-what l = record {
  added : Added l.row (λ what. record { of = l.of; what = what }) l.list l.what-index;
  keeps : (place : ℕ) (f : Fact) → slice_get l.initial.list place ≡ Some f → slice_get l.list place ≡ Some f;
  only : (f : Fact) → IsIn l.list f → ((f.of ≡ l.of) × IsIn l.row f.what) ⊎ IsIn l.initial.list f;
}
