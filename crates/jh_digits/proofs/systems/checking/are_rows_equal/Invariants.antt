use Rattle.std.proofs.Common.{◌≡◌, ◌<◌, ℕ}
use Rattle.jh_digits.specs.systems.Solution.{entry_of, right_of, weighted, spelled}
use Rattle.jh_digits.proofs.systems.checking.are_rows_equal.Given as goal

abbrev pub invariant-loop-row : goal.invariant-loop-row
invariant-loop-row l = (i : ℕ) → i < l.row → weighted (entry_of l.system i) (spelled l.layers) l.system.columns ≡ right_of l.system i
