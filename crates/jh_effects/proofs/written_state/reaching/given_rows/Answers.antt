use Rattle.std.proofs.Common.{◌≡◌, ◌<◌, ◌↔◌, refl, sym, subst, ◌∙◌, ℕ, List, Some, get_or, slice_get, arith}
use Rattle.std.proofs.lemmas.Result.{IfOk-weaker}
use Rattle.jh_containers.specs.transitive_closure.Spreads.{IsIn, passed_to}
use Rattle.jh_containers.proofs.transitive_closure.Places.{item-get, is-in-item}
use Rattle.jh_containers.specs.declared.transitive_closure.facts.Fact.{Fact}
use Rattle.jh_effects.proofs.written_state.Pairs.{added-next, only-next, exact-end}
use Rattle.jh_effects.proofs.written_state.reaching.given_rows.Goals as goal

-- src/reaching.rt
pub loop-fact-init : goal.loop-fact-init
loop-fact-init c = record {
  added = λ k f lt e. absurd (omega arith);
  only = λ of what h. absurd (c.in_ok-given.ensures.none of what h);
  count = c.in_ok-given.ensures.count;
}

-- src/reaching.rt
pub add-requires : goal.add-requires
add-requires c =
    let facts = c.args.facts.now in
    let fact : Fact = get_or facts c.loop-fact.fact-index (record { of = 0; what = 0 }) in
    subst (λ (n : ℕ). fact.of < n) (sym c.loop-fact.invariant.count) (c.requires fact (is-in-item facts c.loop-fact.fact-index (record { of = 0; what = 0 }) c.loop-fact-test.true))

-- src/reaching.rt
pub loop-fact-preserved : goal.loop-fact-preserved
loop-fact-preserved c =
    let facts = c.args.facts.now in
    let i = c.loop-fact.fact-index in
    let fact : Fact = get_or facts i (record { of = 0; what = 0 }) in
    let at : slice_get facts i ≡ Some fact = item-get facts i (record { of = 0; what = 0 }) c.loop-fact-test.true in
    let old = c.loop-fact.given in
    let new = c.add.new.self in
    record {
      added = added-next (λ (f : Fact). f.of) (λ (f : Fact). f.what) (λ of what. record { of = of; what = what }) (λ f. refl) (λ r v. refl) (λ r v. refl) facts old new i fact at c.in_ok-add.ensures.added c.in_ok-add.ensures.keeps c.loop-fact.invariant.added;
      only = only-next (λ (f : Fact). f.of) (λ (f : Fact). f.what) (λ of what. record { of = of; what = what }) (λ f. refl) (λ r v. refl) (λ r v. refl) facts old new i fact at c.in_ok-add.ensures.only c.loop-fact.invariant.only;
      count = c.in_ok-add.ensures.count ∙ c.loop-fact.invariant.count;
    }

-- src/reaching.rt
pub returns : goal.returns
returns c =
    let facts = c.args.facts.now in
    let all = exact-end (λ (f : Fact). f.of) (λ (f : Fact). f.what) (λ of what. record { of = of; what = what }) (λ f. refl) (λ r v. refl) (λ r v. refl) facts c.loop-fact.given c.loop-fact.fact-index (omega arith) c.loop-fact.invariant.added c.loop-fact.invariant.only in
    IfOk-weaker
    c.into_rows.result
    (λ made. made.items ≡ c.loop-fact.given)
    (λ made. (of what : ℕ) → IsIn (passed_to made.items of) what ↔ IsIn facts (record { of = of; what = what }))
    (λ made e. subst (λ (rs : List (List ℕ)). (of what : ℕ) → IsIn (passed_to rs of) what ↔ IsIn facts (record { of = of; what = what })) (sym e) all)
    c.into_rows.ensures
