use Rattle.std.proofs.Common.{◌≡◌, drop}
use Rattle.jh_containers.specs.connected_component.Reaching.{with_row}
use Rattle.jh_containers.proofs.connected_component.reaching.add_all.Given as goal

-- with what is left the numbers come to those with the whole row
abbrev pub invariant-loop-number : goal.invariant-loop-number
invariant-loop-number l = with_row l.known.numbers.keys (drop l.number-index l.row) ≡ with_row l.initial.known.numbers.keys l.row
