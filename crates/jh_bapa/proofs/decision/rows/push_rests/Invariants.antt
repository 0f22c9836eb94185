use Rattle.std.proofs.Common.{◌≡◌, ◌++◌, false, get_or}
use Rattle.jh_query.specs.queries.Sides.{side_tree}
use Rattle.jh_bapa.specs.decision.Lists.{listed}
use Rattle.jh_bapa.specs.decision.Systems.{rest_entry}
use Rattle.jh_bapa.proofs.decision.rows.push_rests.Given as goal

abbrev pub invariant-loop-region : goal.invariant-loop-region
invariant-loop-region l = l.entries.items ≡ l.initial.entries.items ++ listed l.region (rest_entry (λ r. get_or l.empty r false) (side_tree l.side))
