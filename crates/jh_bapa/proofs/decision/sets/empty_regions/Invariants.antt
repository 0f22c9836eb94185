use Rattle.std.proofs.Common.{◌≡◌}
use Rattle.jh_bapa.specs.decision.Lists.{listed}
use Rattle.jh_bapa.specs.decision.Systems.{is_empty}
use Rattle.jh_bapa.proofs.decision.sets.empty_regions.Given as goal

abbrev pub invariant-loop-region : goal.invariant-loop-region
invariant-loop-region l = l.empty.items ≡ listed l.region (is_empty l.atoms)
