use Rattle.std.proofs.Common.{◌≡◌, ◌<◌, ◌≤◌, ℕ, length}
use Rattle.jh_digits.specs.solver.Cells.{coordinates, radix, stride, code, rest, next_of}
use Rattle.jh_digits.proofs.solver.space.cell_after.Given as goal

abbrev pub invariant-loop-place : goal.invariant-loop-place
invariant-loop-place l = record {
  rows : length l.system.needs ≤ l.place;
  within : l.place ≤ coordinates l.system;
  rest : l.rest ≡ rest (radix l.system) l.cell l.place;
  made : l.made ≡ code (radix l.system) (next_of l.system l.step l.cell) l.place;
  scale : l.scale ≡ stride (radix l.system) l.place;
  below : l.made < l.scale;
  range : (i : ℕ) → i < l.place → next_of l.system l.step l.cell i < radix l.system i;
}
