use Rattle.std.proofs.Common.{◌≡◌, ◌<◌, ℕ, [], length, get_or}
use Rattle.jh_digits.proofs.solver.tracing.has_columns.Given as goal

abbrev pub invariant-loop-layer : goal.invariant-loop-layer
invariant-loop-layer l = (i : ℕ) → i < l.layer-index → length (get_or l.layers i []) ≡ l.columns
