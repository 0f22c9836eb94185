use Rattle.std.proofs.Common.{◌≡◌, ◌∙◌, sym, ap, ◌+◌, ◌*◌, ◌≤◌, arith, Some, drop, length, slice_get}
use Rattle.std.proofs.lemmas.List.{drop_all}
use Rattle.jh_seq.specs.counting.Goals.{capped, ones}
use Rattle.jh_weakest.specs.sequent_count.Tallies.{shares_of, tally_of}
use Rattle.jh_weakest.proofs.sequent_count.Ceilings.{is-capped, join-step, total-end}
use Rattle.jh_weakest.proofs.sequent_count.Shares.{drop-get}
use Rattle.jh_weakest.proofs.sequent_count.tally.Tally.total.Goals as goal

pub loop-index-preserved : goal.loop-index-preserved
loop-index-preserved c =
    let items = c.args.self.now.shares.items in
    let j = c.loop-index.index in
    let share = c.share_at-share.result in
    let at : slice_get items j ≡ Some share = ap (λ ss. slice_get ss j) (sym c.as_slice.ensures.value) ∙ c.share_at-share.ensures in
    let once : c.loop-index.total + share.times ≡ c.loop-index.total + share.times * 1 = omega arith in
    record {
      fits = c.plus-total.type_inv;
      total = λ t.
          c.loop-index.invariant.total t
          ∙ (λ i. capped (c.loop-index.total + shares_of t (drop-get items j share at i) ones))
          ∙ join-step c.loop-index.total c.plus-total.result (share.times * 1) (shares_of t (drop (j + 1) items) ones) (is-capped c.plus-total.result (c.loop-index.total + share.times) c.plus-total.ensures ∙ ap capped once);
    }

pub returns : goal.returns
returns c = λ t.
    let items = c.args.self.now.shares.items in
    let far : length items ≤ c.loop-index.index = search arith in
    total-end c.loop-index.total (tally_of t c.args.self.now.fixed items ones) c.loop-index.invariant.fits (c.loop-index.invariant.total t ∙ (λ i. capped (c.loop-index.total + shares_of t (drop_all c.loop-index.index items far i) ones)))
