use Rattle.std.proofs.Common.{◌∙◌, ◌+◌, ◌*◌, drop}
use Rattle.jh_seq.specs.counting.Goals.{capped}
use Rattle.jh_weakest.specs.sequent_count.Tallies.{name_at, shares_of, tally_of}
use Rattle.jh_weakest.proofs.sequent_count.Ceilings.{join-step}
use Rattle.jh_weakest.proofs.sequent_count.Shares.{drop-get}
use Rattle.jh_weakest.proofs.sequent_count.Takings.{names-at}
use Rattle.jh_weakest.proofs.sequent_count.tally.Tally.join.Goals as goal

pub loop-index-preserved : goal.loop-index-preserved
loop-index-preserved c =
    let items = c.args.shares.now in
    let j = c.loop-index.index in
    let share = c.share_at-share.result in
    let made = c.loop-index.made in
    let new = c.add.new.self in
    record {
      names = λ t h k. c.in_ok-add.ensures.names t (c.loop-index.invariant.names t h k) (names-at t items j share k c.share_at-share.ensures);
      goals = λ t w.
          c.loop-index.invariant.goals t w
          ∙ (λ i. capped (tally_of t made.fixed made.shares.items w + shares_of t (drop-get items j share c.share_at-share.ensures i) w))
          ∙ join-step (tally_of t made.fixed made.shares.items w) (tally_of t new.fixed new.shares.items w) (share.times * w (name_at t share.leaf) share.marked) (shares_of t (drop (j + 1) items) w) (c.in_ok-add.ensures.goals t w);
    }
