use Rattle.jh_digits.specs.solver.Table.{marks_left, IsTable}
use Rattle.jh_digits.proofs.solver.exploring.is_end_reached.Given as goal

abbrev pub invariant-loop-table : goal.invariant-loop-table
invariant-loop-table l = IsTable l.system l.table

abbrev pub decreases-loop-table : goal.decreases-loop-table
decreases-loop-table l = marks_left l.table
