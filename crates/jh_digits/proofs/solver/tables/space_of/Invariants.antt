use Rattle.std.proofs.Common.{◌≡◌, ◌<◌, ℕ, length, get_or}
use Rattle.jh_digits.specs.solver.Cells.{radix, depth, stride}
use Rattle.jh_digits.proofs.solver.tables.space_of.Given as goal

abbrev pub invariant-loop-place : goal.invariant-loop-place
invariant-loop-place l = record {
  widths_count : length l.widths.items ≡ l.place;
  depths_count : length l.depths.items ≡ l.place;
  widths : (i : ℕ) → i < l.place → get_or l.widths.items i 0 ≡ radix l.system i;
  depths : (i : ℕ) → i < l.place → get_or l.depths.items i 0 ≡ depth l.system i;
  cells : l.cells ≡ stride (radix l.system) l.place;
}
