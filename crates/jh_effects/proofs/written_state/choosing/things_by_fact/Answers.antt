use Rattle.std.proofs.Common.{◌≡◌, ◌<◌, ◌↔◌, refl, sym, subst, ◌∙◌, ℕ, List, arith}
use Rattle.std.proofs.lemmas.Result.{IfOk-weaker}
use Rattle.jh_containers.specs.declared.transitive_closure.facts.Fact.{Fact}
use Rattle.jh_containers.specs.transitive_closure.Spreads.{IsIn, passed_to}
use Rattle.jh_effects.proofs.written_state.Pairs.{added-next, only-next, exact-end}
use Rattle.jh_effects.proofs.written_state.choosing.things_by_fact.Goals as goal

-- src/choosing.rt
pub add-requires : goal.add-requires
add-requires c = subst (λ (n : ℕ). c.at-fact.result.what < n) (sym c.loop-index.invariant.count) (c.requires c.at-fact.result (c.loop-index.index, c.at-fact.ensures))

-- src/choosing.rt
pub loop-index-init : goal.loop-index-init
loop-index-init c = record {
  added = λ k f lt e. absurd (omega arith);
  only = λ what thing h. absurd (c.in_ok-things.ensures.none what thing h);
  count = c.in_ok-things.ensures.count;
}

-- src/choosing.rt
pub loop-index-preserved : goal.loop-index-preserved
loop-index-preserved c =
    let facts = c.args.facts.now in
    let old = c.loop-index.things in
    let new = c.add.new.self in
    record {
      added = added-next (λ (f : Fact). f.what) (λ (f : Fact). f.of) (λ what of. record { of = of; what = what }) (λ f. refl) (λ r v. refl) (λ r v. refl) facts old new c.loop-index.index c.at-fact.result c.at-fact.ensures c.in_ok-add.ensures.added c.in_ok-add.ensures.keeps c.loop-index.invariant.added;
      only = only-next (λ (f : Fact). f.what) (λ (f : Fact). f.of) (λ what of. record { of = of; what = what }) (λ f. refl) (λ r v. refl) (λ r v. refl) facts old new c.loop-index.index c.at-fact.result c.at-fact.ensures c.in_ok-add.ensures.only c.loop-index.invariant.only;
      count = c.in_ok-add.ensures.count ∙ c.loop-index.invariant.count;
    }

-- src/choosing.rt
pub returns : goal.returns
returns c =
    let facts = c.args.facts.now in
    let all = exact-end (λ (f : Fact). f.what) (λ (f : Fact). f.of) (λ what of. record { of = of; what = what }) (λ f. refl) (λ r v. refl) (λ r v. refl) facts c.loop-index.things c.loop-index.index (omega arith) c.loop-index.invariant.added c.loop-index.invariant.only in
    IfOk-weaker
    c.into_rows.result
    (λ made. made.items ≡ c.loop-index.things)
    (λ made. (thing what : ℕ) → IsIn (passed_to made.items what) thing ↔ IsIn facts (record { of = thing; what = what }))
    (λ made e thing what. subst (λ (rs : List (List ℕ)). IsIn (passed_to rs what) thing ↔ IsIn facts (record { of = thing; what = what })) (sym e) (all what thing))
    c.into_rows.ensures
