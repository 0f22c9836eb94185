use Rattle.std.proofs.Common.{◌≡◌, drop}
use Rattle.jh_containers.specs.connected_component.Reaching.{passed}
use Rattle.jh_containers.proofs.connected_component.reaching.pass.Given as goal

-- with what is left the numbers come to those of the whole pass
abbrev pub invariant-loop-row : goal.invariant-loop-row
invariant-loop-row l = passed (drop l.row-index l.rows) l.known.numbers.keys ≡ passed l.rows l.initial.known.numbers.keys
