use Rattle.std.proofs.Common.{◌≡◌, [], ℕ, length}
use Rattle.jh_closure.specs.congruence_closure.Uses.{row}
use Rattle.jh_propagation.proofs.trail.occurring.no_places.Given as goal

abbrev pub invariant-loop-node : goal.invariant-loop-node
invariant-loop-node l = record {
  empty : (r : ℕ) → row l.rows.items r ≡ [];
  count : length l.rows.items ≡ l._node;
}
