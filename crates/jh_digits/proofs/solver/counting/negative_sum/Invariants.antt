use Rattle.std.proofs.Common.{◌≡◌, ◌≤◌, ◌*◌, ◌^◌}
use Rattle.jh_digits.specs.systems.Solution.{entry_of}
use Rattle.jh_digits.specs.systems.Nodes.{negative}
use Rattle.jh_digits.proofs.solver.counting.negative_sum.Given as goal

abbrev pub invariant-loop-column : goal.invariant-loop-column
invariant-loop-column l = record {
  value : l.sum ≡ negative (entry_of l.system l.row) l.column;
  bound : l.sum ≤ l.column * 2 ^ 63;
}
