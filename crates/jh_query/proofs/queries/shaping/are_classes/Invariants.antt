use Rattle.std.proofs.Common.{◌≡◌, ◌<◌, ℕ, length}
use Rattle.jh_query.specs.queries.Truth.{spot_of}
use Rattle.jh_query.proofs.queries.shaping.are_classes.Given as goal

abbrev pub invariant-loop-element : goal.invariant-loop-element
invariant-loop-element l = (i : ℕ) → i < l.element → (j : ℕ) → j < length l.spots → (spot_of l.spots i).class ≡ (spot_of l.spots j).class → (spot_of l.spots i).region ≡ (spot_of l.spots j).region
