use Rattle.std.proofs.Common.{◌≡◌, refl, length}
use Rattle.jh_containers.specs.declared.transitive_closure.facts.Fact.{Fact}
use Rattle.jh_effects.proofs.written_state.Pairs.{AreAdded, AreOnly}
use Rattle.jh_effects.proofs.written_state.choosing.things_by_fact.Given as goal

abbrev pub invariant-loop-index : goal.invariant-loop-index
invariant-loop-index l = record {
  added : AreAdded (λ (f : Fact). f.what) (λ (f : Fact). f.of) (λ what of. record { of = of; what = what }) (λ f. refl) (λ r v. refl) (λ r v. refl) l.facts l.things l.index;
  only : AreOnly (λ (f : Fact). f.what) (λ (f : Fact). f.of) (λ what of. record { of = of; what = what }) (λ f. refl) (λ r v. refl) (λ r v. refl) l.facts l.things;
  count : length l.things ≡ l.kinds;
}
