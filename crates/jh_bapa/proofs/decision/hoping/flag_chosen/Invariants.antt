use Rattle.std.proofs.Common.{◌≡◌, ◌||◌, drop}
use Rattle.jh_bapa.specs.decision.Cases.{flag_chosen}
use Rattle.jh_bapa.proofs.decision.hoping.flag_chosen.Given as goal

abbrev pub invariant-loop-atom : goal.invariant-loop-atom
invariant-loop-atom l = flag_chosen l.atoms l.flag ≡ (l.any || flag_chosen (drop l.atom-index l.atoms) l.flag)
