use Rattle.std.proofs.Common.{◌≡◌, ◌<◌, ◌⊎◌, ℕ, Some, slice_get}
use Rattle.jh_containers.specs.declared.transitive_closure.facts.Fact.{Fact}
use Rattle.jh_containers.specs.transitive_closure.Spreads.{IsIn, passed_to}
use Rattle.jh_effects.proofs.written_state.reaching.add_rows.Given as goal

abbrev pub invariant-loop-index : goal.invariant-loop-index
invariant-loop-index l = record {
  added : (i : ℕ) (f : Fact) (what : ℕ) → i < l.index → slice_get l.reached i ≡ Some f → IsIn (passed_to l.given f.of) what → IsIn l.list (record { of = l.of; what = what });
  keeps : (place : ℕ) (f : Fact) → slice_get l.initial.list place ≡ Some f → slice_get l.list place ≡ Some f;
  only : (f : Fact) → IsIn l.list f → ((f.of ≡ l.of) × ((g : Fact) × IsIn l.reached g × IsIn (passed_to l.given g.of) f.what)) ⊎ IsIn l.initial.list f;
}
