use Rattle.std.proofs.Common.{◌≡◌, sym, subst, inl, inr, true}
use Rattle.jh_closure.specs.congruence_closure.Nodes.{Has}
use Rattle.jh_closure.proofs.congruence_closure.Having.{has-at}
use Rattle.jh_explanations.specs.declared.step.Step.{Step}
use Rattle.jh_search.proofs.Lists.{take-has}
use Rattle.jh_search.proofs.closing.needs_of.Goals as goal

pub loop-place-preserved : goal.loop-place-preserved
loop-place-preserved c = record {
  only = λ d h. elim (c.in_ok-add_need.ensures.only d h) [
    | inl old ↦ c.loop-place.invariant.only d old
    | inr new ↦ (c.step_at.result, (has-at c.args.steps.now c.loop-place.place c.step_at.result c.step_at.ensures, (new.0, new.1)))
  ];
  all = λ s h yes_so. elim (take-has c.args.steps.now c.loop-place.place c.step_at.result s c.step_at.ensures h) [
    | inl old ↦ c.in_ok-add_need.ensures.keeps s.literal (c.loop-place.invariant.all s old yes_so)
    | inr e ↦ subst (λ (z : Step). Has c.add_need.new.needs.items z.literal) e (c.in_ok-add_need.ensures.here (subst (λ (z : Step). z.is_decision ≡ true) (sym e) yes_so))
  ];
}
