use Rattle.std.proofs.Common.{◌≡◌, ◌++◌, drop, false, length, get_or}
use Rattle.jh_bapa.specs.decision.Systems.{needs_of}
use Rattle.jh_bapa.proofs.decision.sets.needs_of.Given as goal

abbrev pub invariant-loop-atom : goal.invariant-loop-atom
invariant-loop-atom l = l.needs.items ++ needs_of (length l.empty) (λ r. get_or l.empty r false) l.spots (drop l.atom-index l.atoms) ≡ needs_of (length l.empty) (λ r. get_or l.empty r false) l.spots l.atoms
