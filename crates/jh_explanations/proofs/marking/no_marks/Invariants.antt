use Rattle.std.proofs.Common.{◌≡◌, ℕ, length}
use Rattle.jh_explanations.specs.Marks.{IsMarkedAt}
use Rattle.jh_explanations.proofs.marking.no_marks.Given as goal

abbrev pub invariant-loop-place : goal.invariant-loop-place
invariant-loop-place l = record {
  long : length l.marks.items ≡ l._place;
  none : (n : ℕ) → IsMarkedAt l.marks.items n → ⊥;
}
