use Rattle.std.proofs.Common.{◌≡◌, ◌++◌, map, drop}
use Rattle.jh_vars.specs.state_names.Pieces.{pieces_in}
use Rattle.jh_vars.specs.state_names.States.{member_state}
use Rattle.jh_vars.proofs.state_names.listing.push_pieces.Given as goal

abbrev pub invariant-loop-piece : goal.invariant-loop-piece
invariant-loop-piece l = l.list.items ++ map (member_state l.number l.class) (pieces_in (drop l.piece-index l.pieces)) ≡ l.initial.list.items ++ map (member_state l.number l.class) (pieces_in l.pieces)
