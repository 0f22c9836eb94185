use Rattle.std.proofs.Common.{◌≡◌, ◌++◌}
use Rattle.jh_query.specs.queries.Sides.{side_tree}
use Rattle.jh_bapa.specs.decision.Lists.{pairs}
use Rattle.jh_bapa.specs.decision.Systems.{number_entry}
use Rattle.jh_bapa.proofs.decision.rows.push_numbers.Given as goal

abbrev pub invariant-loop-number : goal.invariant-loop-number
invariant-loop-number l = l.entries.items ≡ l.initial.entries.items ++ pairs l.number (number_entry (side_tree l.side))
