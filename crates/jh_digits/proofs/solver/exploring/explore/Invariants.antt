use Rattle.std.proofs.Common.{◌≤◌}
use Rattle.jh_digits.specs.solver.Table.{marks_left, IsTable}
use Rattle.jh_digits.proofs.solver.exploring.explore.Given as goal

abbrev pub invariant-loop : goal.invariant-loop
invariant-loop l = record {
  table : IsTable l.system l.table;
  fewer : marks_left l.table ≤ marks_left l.initial.table;
}
