use Rattle.std.proofs.Common.{◌≡◌, ◌<◌, ℕ}
use Rattle.jh_query.specs.queries.Truth.{spot_of}
use Rattle.jh_query.proofs.queries.shaping.is_class.Given as goal

abbrev pub invariant-loop-other : goal.invariant-loop-other
invariant-loop-other l = (j : ℕ) → j < l.other → (spot_of l.spots l.element).class ≡ (spot_of l.spots j).class → (spot_of l.spots l.element).region ≡ (spot_of l.spots j).region
