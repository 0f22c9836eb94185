use Rattle.std.proofs.Common.{◌≡◌, ◌==◌}
use Rattle.jh_form.specs.Meaning.{any_below}
use Rattle.jh_query.specs.queries.Truth.{spot_of}
use Rattle.jh_query.proofs.queries.counting.is_first.Given as goal

abbrev pub invariant-loop-other : goal.invariant-loop-other
invariant-loop-other l = l.is_found ≡ any_below l.other (λ j. (spot_of l.spots j).class == (spot_of l.spots l.element).class)
