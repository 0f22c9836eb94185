use Rattle.std.proofs.Common.{◌≡◌, ◌≤◌, ◌++◌, drop, length}
use Rattle.jh_vars.specs.Written as written
use Rattle.jh_vars.specs.state_names.Pieces.{pieces_in}
use Rattle.jh_vars.proofs.state_names.pieces.merged.Given as goal

abbrev pub invariant-loop-piece : goal.invariant-loop-piece
invariant-loop-piece l = record {
  inside : l.at ≤ length l.right;
  whole : pieces_in l.made.items ++ written.merged (pieces_in (drop l.piece-index l.left)) (pieces_in (drop l.at l.right)) ≡ written.merged (pieces_in l.left) (pieces_in l.right);
}
