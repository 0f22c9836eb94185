use Rattle.std.proofs.Common.{◌≡◌, ◌≢◌, ◌<◌, ◌≤◌, ℕ, true, false}
use Rattle.jh_digits.specs.solver.Table.{mark_of, marks_left, IsTable}
use Rattle.jh_digits.proofs.solver.sweeping.sweep_column.Given as goal

abbrev pub invariant-loop-cell : goal.invariant-loop-cell
invariant-loop-cell l = record {
  table : IsTable l.system l.table;
  fewer : l.changed ≡ true → marks_left l.table < marks_left l.initial.table;
  same : l.changed ≡ false → l.table ≡ l.initial.table;
  followed : l.changed ≡ false → (c : ℕ) → c < l.cell → mark_of l.system l.initial.table l.column c ≢ 0 → 128 ≤ mark_of l.system l.initial.table l.column c;
}
