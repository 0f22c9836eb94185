use Rattle.std.proofs.Common.{◌≡◌, [], ℕ, Some, length, slice_get}
use Rattle.jh_effects.proofs.written_state.rows.Rows.none.Given as goal

abbrev pub invariant-loop-thing : goal.invariant-loop-thing
invariant-loop-thing l = record {
  empty : (i : ℕ) (row : _) → slice_get l.rows.items i ≡ Some row → row.items ≡ [];
  count : length l.rows.items ≡ l._thing;
}
