use Rattle.std.proofs.Common.{◌≡◌, ◌≤◌, ◌+◌, ◌++◌, drop, length}
use Rattle.jh_bapa.specs.decision.Lining.{frame}
use Rattle.jh_bapa.specs.decision.Systems.{entries_of, rights_of, slack_total}
use Rattle.jh_bapa.proofs.decision.rows.rows_of.Given as goal

abbrev pub invariant-loop-atom : goal.invariant-loop-atom
invariant-loop-atom l = record {
  entries : l.entries.items ++ entries_of (frame l.layout) l.place (drop l.atom-index l.atoms) ≡ entries_of (frame l.layout) 0 l.atoms;
  right : l.right.items ++ rights_of (frame l.layout) (drop l.atom-index l.atoms) ≡ rights_of (frame l.layout) l.atoms;
  place : l.place + slack_total (drop l.atom-index l.atoms) ≡ slack_total l.atoms;
  few : length l.right.items ≤ l.place;
}
