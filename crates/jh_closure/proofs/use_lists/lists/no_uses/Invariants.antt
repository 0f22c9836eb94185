use Rattle.std.proofs.Common.{◌≡◌, [], ℕ, length}
use Rattle.jh_closure.specs.use_lists.Lists.{row}
use Rattle.jh_closure.proofs.use_lists.lists.no_uses.Given as goal

abbrev pub invariant-loop-node : goal.invariant-loop-node
invariant-loop-node l = record {
  empty : (r : ℕ) → row l.uses.items r ≡ [];
  count : length l.uses.items ≡ l._node;
}
