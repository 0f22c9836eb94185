use Rattle.std.proofs.Common.{◌≡◌, ℕ, false, length}
use Rattle.jh_outline.specs.outline.Framing.{mark_at}
use Rattle.jh_outline.proofs.outline.framing.no_marks.Given as goal

abbrev pub invariant-loop-place : goal.invariant-loop-place
invariant-loop-place l = ((j : ℕ) → mark_at l.marks.items j ≡ false) × (length l.marks.items ≡ l._place)
