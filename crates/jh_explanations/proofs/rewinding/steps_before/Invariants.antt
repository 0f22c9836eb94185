use Rattle.std.proofs.Common.{◌≡◌, ◌<◌, ℕ, Some, slice_get}
use Rattle.jh_explanations.specs.declared.step.Step.{Step}
use Rattle.jh_explanations.proofs.rewinding.steps_before.Given as goal

-- None of the first steps is the literal.
abbrev pub invariant-loop-index : goal.invariant-loop-index
invariant-loop-index l = (n : ℕ) (s : Step) → n < l.index → slice_get l.steps n ≡ Some s → s.literal ≡ l.out → ⊥
