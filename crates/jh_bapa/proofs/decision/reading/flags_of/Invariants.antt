use Rattle.std.proofs.Common.{◌≡◌}
use Rattle.jh_bapa.specs.decision.Lists.{listed}
use Rattle.jh_bapa.specs.decision.Cases.{flag_chosen}
use Rattle.jh_bapa.proofs.decision.reading.flags_of.Given as goal

abbrev pub invariant-loop-flag : goal.invariant-loop-flag
invariant-loop-flag l = l.row.items ≡ listed l.flag (flag_chosen l.atoms)
