use Rattle.std.proofs.Common.{◌+◌, subst, List, drop}
use Rattle.jh_weakest.specs.declared.sequent_count.tally.Share.{Share}
use Rattle.jh_weakest.specs.sequent_count.Tallies.{IsTaken}
use Rattle.jh_weakest.proofs.sequent_count.Shares.{drop-get}
use Rattle.jh_weakest.proofs.sequent_count.Takings.{names-at}
use Rattle.jh_weakest.proofs.sequent_count.tally.take_out.Goals as goal

pub loop-index-preserved : goal.loop-index-preserved
loop-index-preserved c =
    let made = c.loop-index.made in
    record {
      names = λ t h. c.in_ok-sort_out.ensures.names t (c.loop-index.invariant.names t h) (names-at t c.args.shares.now c.loop-index.index c.share_at-share.result h c.share_at-share.ensures);
      lacks = c.in_ok-sort_out.ensures.lacks c.loop-index.invariant.lacks;
      goals = λ t w. c.in_ok-sort_out.ensures.goals t w c.args.shares.now (drop (c.loop-index.index + 1) c.args.shares.now)
          (subst (λ (ss : List Share). IsTaken t w c.args.leaf c.args.shares.now made.rest.items made.plain made.marked ss) (drop-get c.args.shares.now c.loop-index.index c.share_at-share.result c.share_at-share.ensures) (c.loop-index.invariant.goals t w));
    }
