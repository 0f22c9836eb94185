use Rattle.std.proofs.Common.{◌≡◌, ◌&&◌, false, not, get_or}
use Rattle.jh_query.specs.queries.Bare.{cond_tree}
use Rattle.jh_bapa.specs.decision.Lists.{picks}
use Rattle.jh_bapa.specs.decision.Cases.{rest_differs}
use Rattle.jh_bapa.proofs.decision.sets.need_of.Given as goal

abbrev pub invariant-loop-region : goal.invariant-loop-region
invariant-loop-region l = l.need.items ≡ picks l.region (λ r. not (get_or l.empty r false) && rest_differs r (cond_tree l.cond))
