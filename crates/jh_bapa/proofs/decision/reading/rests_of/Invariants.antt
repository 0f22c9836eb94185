use Rattle.std.proofs.Common.{◌≡◌, false, if◌then◌else◌, map, get_or}
use Rattle.jh_digits.specs.solver.Solution as system
use Rattle.jh_query.specs.queries.Sizing.{spelled}
use Rattle.jh_bapa.specs.decision.Lists.{listed}
use Rattle.jh_bapa.proofs.decision.reading.rests_of.Given as goal

abbrev pub invariant-loop-region : goal.invariant-loop-region
invariant-loop-region l = map spelled l.rests.items ≡ listed l.region (λ r. if get_or l.empty r false then 0 else system.spelled l.digits.layers r)
