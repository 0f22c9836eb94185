use Rattle.std.proofs.Common.{arith}
use Rattle.jh_vars.specs.Written as written
use Rattle.jh_vars.specs.state_names.Pieces.{pieces_in}
use Rattle.jh_vars.proofs.state_names.Merges.{merge-step, merge-end}
use Rattle.jh_vars.proofs.state_names.pieces.merged.Goals as goal

pub loop-piece-preserved : goal.loop-piece-preserved
loop-piece-preserved c = record {
  inside = c.in_ok-at.ensures.inside;
  whole =
      merge-step c.args.left.now c.args.right.now c.loop-piece.made.items c.push_before.new.made.items c.push.new.self.items c.loop-piece.piece-index c.loop-piece.at c.in_ok-at.at c.piece-item.result
      (written.merged (pieces_in c.args.left.now) (pieces_in c.args.right.now)) c.loop-piece-test.true c.piece-item.is c.in_ok-at.ensures.pieces c.in_ok-at.ensures.rest c.in_ok-push.ensures.items c.loop-piece.invariant.whole;
}

pub returns : goal.returns
returns c =
    merge-end c.args.left.now c.args.right.now c.loop-piece.made.items c.push_rest.new.made.items c.loop-piece.piece-index c.loop-piece.at (written.merged (pieces_in c.args.left.now) (pieces_in c.args.right.now))
    (omega arith) c.in_ok-push_rest.ensures c.loop-piece.invariant.whole
