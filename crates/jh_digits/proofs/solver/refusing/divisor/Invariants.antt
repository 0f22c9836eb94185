use Rattle.std.proofs.Common.{◌<◌, ℕ}
use Prim.Native.Nat.{◌∣◌}
use Rattle.jh_digits.specs.systems.Solution.{entry_of}
use Rattle.jh_digits.specs.systems.Nodes.{plus, minus}
use Rattle.jh_digits.proofs.solver.refusing.divisor.Given as goal

abbrev pub invariant-loop-column : goal.invariant-loop-column
invariant-loop-column l = record {
  plus : (j : ℕ) → j < l.column → l.common ∣ plus (entry_of l.system l.row j);
  minus : (j : ℕ) → j < l.column → l.common ∣ minus (entry_of l.system l.row j);
}
