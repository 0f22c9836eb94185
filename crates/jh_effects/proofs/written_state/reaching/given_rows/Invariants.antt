use Rattle.std.proofs.Common.{◌≡◌, refl, length}
use Rattle.jh_containers.specs.declared.transitive_closure.facts.Fact.{Fact}
use Rattle.jh_effects.proofs.written_state.Pairs.{AreAdded, AreOnly}
use Rattle.jh_effects.proofs.written_state.reaching.given_rows.Given as goal

abbrev pub invariant-loop-fact : goal.invariant-loop-fact
invariant-loop-fact l = record {
  added : AreAdded (λ (f : Fact). f.of) (λ (f : Fact). f.what) (λ of what. record { of = of; what = what }) (λ f. refl) (λ r v. refl) (λ r v. refl) l.facts l.given l.fact-index;
  only : AreOnly (λ (f : Fact). f.of) (λ (f : Fact). f.what) (λ of what. record { of = of; what = what }) (λ f. refl) (λ r v. refl) (λ r v. refl) l.facts l.given;
  count : length l.given ≡ l.things;
}
