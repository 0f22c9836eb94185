use Rattle.std.proofs.Common.{◌≡◌, ◌||◌, ◌<◌, ℕ, nat_eq, length, drop}
use Rattle.std.specs.List.{list_any}
use Rattle.jh_outline.specs.outline.Framing.{mark_at}
use Rattle.jh_outline.proofs.outline.framing.marks_of.Given as goal

abbrev pub invariant-loop-place : goal.invariant-loop-place
invariant-loop-place l = ((j : ℕ) → j < l.count → (list_any (nat_eq j) (drop l.place-index l.places) || mark_at l.marks.items j) ≡ list_any (nat_eq j) l.places) × (length l.marks.items ≡ l.count)
