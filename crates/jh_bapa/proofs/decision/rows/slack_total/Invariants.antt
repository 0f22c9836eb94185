use Rattle.std.proofs.Common.{◌≡◌, ◌+◌, drop}
use Rattle.jh_bapa.specs.decision.Systems.{slack_total}
use Rattle.jh_bapa.proofs.decision.rows.slack_total.Given as goal

abbrev pub invariant-loop-atom : goal.invariant-loop-atom
invariant-loop-atom l = l.total + slack_total (drop l.atom-index l.atoms) ≡ slack_total l.atoms
