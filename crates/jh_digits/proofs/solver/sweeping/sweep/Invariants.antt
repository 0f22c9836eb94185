use Rattle.std.proofs.Common.{◌≡◌, ◌≢◌, ◌<◌, ◌≤◌, ℕ, true, false}
use Rattle.jh_digits.specs.solver.Cells.{cell_count}
use Rattle.jh_digits.specs.solver.Table.{mark_of, marks_left, IsTable}
use Rattle.jh_digits.proofs.solver.sweeping.sweep.Given as goal

abbrev pub invariant-loop-column : goal.invariant-loop-column
invariant-loop-column l = record {
  table : IsTable l.system l.table;
  fewer : l.changed ≡ true → marks_left l.table < marks_left l.initial.table;
  same : l.changed ≡ false → l.table ≡ l.initial.table;
  followed : l.changed ≡ false → (j c : ℕ) → j < l.column → c < cell_count l.system → mark_of l.system l.initial.table j c ≢ 0 → 128 ≤ mark_of l.system l.initial.table j c;
}
