use Rattle.std.proofs.Common.{◌≡◌, ◌<◌, ◌+◌, ◌∙◌, sym, ap, ℕ, arith, ◌⊎◌, inl, inr, slice_get}
use Rattle.std.proofs.lemmas.Bool.{true≢false}
use Rattle.std.proofs.lemmas.Option.{same_Some}
use Rattle.jh_explanations.specs.declared.step.Step.{Step}
use Rattle.jh_explanations.proofs.rewinding.steps_before.Goals as goal

pub loop-index-init : goal.loop-index-init
loop-index-init c = λ n s lt. absurd (omega (arith, lt))

pub loop-index-preserved : goal.loop-index-preserved
loop-index-preserved c = λ n s lt here same. elim (before n c.loop-index.index lt) [
  | inl old ↦ c.loop-index.invariant n s old here same
  | inr e ↦ true≢false (sym (c.is_one.ensures.1 (ap (λ (z : Step). z.literal) (same_Some c.step_at.result s (sym c.step_at.ensures ∙ (ap (slice_get c.args.steps.now) (sym e) ∙ here))) ∙ same)) ∙ c.if-is_one.false)
]
  where
    before : (n k : ℕ) → n < k + 1 → (n < k) ⊎ (n ≡ k)
    before n k lt = grind (arith, lt)

pub returns-clause-before : goal.returns-clause-before
returns-clause-before c = λ n s lt. c.loop-index.invariant n s (let low = c.loop-index-test.false in omega (arith, low, lt))
