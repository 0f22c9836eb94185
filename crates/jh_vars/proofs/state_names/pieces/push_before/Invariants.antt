use Rattle.std.proofs.Common.{◌≡◌, ◌≤◌, ◌++◌, ◌-◌, drop, length}
use Rattle.jh_vars.specs.Written.{front_before, rest_behind}
use Rattle.jh_vars.specs.state_names.Pieces.{piece_of, pieces_in}
use Rattle.jh_vars.proofs.state_names.pieces.push_before.Given as goal

abbrev pub invariant-loop-end : goal.invariant-loop-end
invariant-loop-end l = record {
  inside : l.end ≤ length l.others;
  pieces : pieces_in l.made.items ++ front_before (piece_of l.next) (pieces_in (drop l.end l.others)) ≡ pieces_in l.initial.made.items ++ front_before (piece_of l.next) (pieces_in (drop l.at l.others));
  rest : rest_behind (piece_of l.next) (pieces_in (drop l.end l.others)) ≡ rest_behind (piece_of l.next) (pieces_in (drop l.at l.others));
}

abbrev pub decreases-loop-end : goal.decreases-loop-end
decreases-loop-end l = length l.others - l.end
