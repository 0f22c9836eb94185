use Rattle.std.proofs.Common.{subst, ◌≡◌, ◌⊎◌, inl, inr}
use Rattle.jh_closure.specs.congruence_closure.Nodes.{Has}
use Rattle.jh_closure.proofs.congruence_closure.Having.{has-at}
use Rattle.jh_propagation.specs.declared.trail.decided.Decided.{Decided}
use Rattle.jh_search.proofs.Lists.{take-has}
use Rattle.jh_search.proofs.returning.joined.Goals as goal

pub loop-place-preserved : goal.loop-place-preserved
loop-place-preserved c = record {
  only = λ k h. elim (c.in_ok-add.ensures.only k h) [
    | inl new ↦ inl (subst (Has c.args.needs.now) new.0 (has-at c.args.needs.now c.loop-place.place c.literal_at.result c.literal_at.ensures), new.1)
    | inr old ↦ c.loop-place.invariant.only k old
  ];
  first = λ k h. elim (take-has c.args.needs.now c.loop-place.place c.literal_at.result k c.literal_at.ensures h) [
    | inl old ↦ elim (c.loop-place.invariant.first k old) [ inl e ↦ inl e | inr g ↦ inr (c.in_ok-add.ensures.keeps k g) ]
    | inr e ↦ subst (λ (z : Decided). (c.args.literal ≡ z) ⊎ Has c.add.new.made.items z) e c.in_ok-add.ensures.first
  ];
  second = λ k h. c.in_ok-add.ensures.keeps k (c.loop-place.invariant.second k h);
}
