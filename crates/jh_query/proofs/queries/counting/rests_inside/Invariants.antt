use Rattle.std.proofs.Common.{◌≡◌, if◌then◌else◌, map, get_or}
use Rattle.jh_query.specs.queries.Bare.{set_tree}
use Rattle.jh_query.specs.queries.Sizing.{spelled}
use Rattle.jh_query.specs.queries.Truth.{rest_lies, sum_below}
use Rattle.jh_query.proofs.queries.counting.rests_inside.Given as goal

abbrev pub invariant-loop-region : goal.invariant-loop-region
invariant-loop-region l = l.sum ≡ sum_below l.region (λ r. if rest_lies r (set_tree l.set) then get_or (map spelled l.rest) r 0 else 0)
