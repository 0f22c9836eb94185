use Rattle.std.proofs.Common.{◌<◌, ◌^◌, ℕ}
use Rattle.jh_query.specs.queries.Truth.{spot_of}
use Rattle.jh_query.proofs.queries.shaping.are_regions.Given as goal

abbrev pub invariant-loop-element : goal.invariant-loop-element
invariant-loop-element l = (i : ℕ) → i < l.element → (spot_of l.spots i).region < 2 ^ l.sets
