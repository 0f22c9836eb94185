use Rattle.std.proofs.Common.{◌≡◌, ◌≤◌, ◌*◌, ◌^◌}
use Rattle.jh_digits.specs.systems.Solution.{entry_of}
use Rattle.jh_digits.specs.systems.Totals.{plus_total, digit}
use Rattle.jh_digits.proofs.systems.checking.plus_sum.Given as goal

abbrev pub invariant-loop-column : goal.invariant-loop-column
invariant-loop-column l = record {
  value : l.sum ≡ plus_total (entry_of l.system l.row) (digit l.layer) l.column;
  bound : l.sum ≤ l.column * 2 ^ 63;
}
