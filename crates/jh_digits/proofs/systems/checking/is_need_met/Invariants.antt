use Rattle.std.proofs.Common.{◌≡◌, ◌<◌, ℕ, get_or}
use Rattle.jh_digits.specs.systems.Solution.{spelled}
use Rattle.jh_digits.proofs.systems.checking.is_need_met.Given as goal

abbrev pub invariant-loop-column : goal.invariant-loop-column
invariant-loop-column l = (i : ℕ) → i < l.column-index → spelled l.layers (get_or l.need i 0) ≡ 0
