use Rattle.std.proofs.Common.{◌≡◌, ◌||◌, drop}
use Rattle.jh_bapa.specs.decision.Systems.{is_empty}
use Rattle.jh_bapa.proofs.decision.sets.is_empty.Given as goal

abbrev pub invariant-loop-atom : goal.invariant-loop-atom
invariant-loop-atom l = is_empty l.atoms l.region ≡ (l.any || is_empty (drop l.atom-index l.atoms) l.region)
