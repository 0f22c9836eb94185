use Rattle.std.proofs.Common.{◌≡◌, ◌<◌, ℕ, Some, length, slice_get}
use Rattle.jh_definitions.specs.declared.expansion.opening.Definition.{Definition}
use Rattle.jh_definitions.proofs.dependency_order.ordering.taken.Given as goal

abbrev pub invariant-loop-at : goal.invariant-loop-at
invariant-loop-at l = record {
  long : length l.made.items ≡ l.at;
  taken : (i k : ℕ) → i < l.at → slice_get l.places i ≡ Some k → (x : Definition) × (slice_get l.list k ≡ Some x) × (slice_get l.made.items i ≡ Some x);
}
