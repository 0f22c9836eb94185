use Rattle.std.proofs.Common.{◌≡◌, ◌<◌, ℕ, length, get_or}
use Rattle.jh_digits.specs.solver.Cells.{mask_of}
use Rattle.jh_digits.proofs.solver.tables.masks_of.Given as goal

abbrev pub invariant-loop-column : goal.invariant-loop-column
invariant-loop-column l = record {
  count : length l.masks.items ≡ l.column;
  masks : (j : ℕ) → j < l.column → get_or l.masks.items j 0 ≡ mask_of l.system j;
}
