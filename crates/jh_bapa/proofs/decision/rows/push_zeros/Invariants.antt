use Rattle.std.proofs.Common.{◌≡◌, ◌++◌}
use Rattle.jh_bapa.specs.decision.Lists.{zeros}
use Rattle.jh_bapa.proofs.decision.rows.push_zeros.Given as goal

abbrev pub invariant-loop-column : goal.invariant-loop-column
invariant-loop-column l = l.entries.items ≡ l.initial.entries.items ++ zeros l._column
