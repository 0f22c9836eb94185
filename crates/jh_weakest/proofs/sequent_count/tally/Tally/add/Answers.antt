use Rattle.std.proofs.Common.{◌≡◌, ◌∙◌, ap, refl, sym, ◌+◌, ◌*◌, ◌∷◌, [], ◌++◌, arith, slice_get, slice_set, Some}
use Rattle.jh_seq.specs.counting.Goals.{capped}
use Rattle.jh_weakest.specs.declared.sequent_count.tally.Share.{Share}
use Rattle.jh_weakest.specs.sequent_count.Tallies.{name_at, shares_of}
use Rattle.jh_weakest.proofs.sequent_count.Ceilings.{sum-capped}
use Rattle.jh_weakest.proofs.sequent_count.Shares.{shares-set, shares-push}
use Rattle.jh_weakest.proofs.sequent_count.tally.Tally.add.Goals as goal

pub returns-in-Some-clause-goals : goal.returns-in-Some-clause-goals
returns-in-Some-clause-goals c = λ t w.
    let fixed = c.args.self.now.fixed in
    let items = c.args.self.now.shares.items in
    let share = c.share_at-share.result in
    let new : Share = record { leaf = c.args.leaf; marked = c.args.marked; times = c.plus-times.result } in
    let o = c.args.often in
    let n = w (name_at t c.args.leaf) c.args.marked in
    let at : slice_get items c.in-Some.place ≡ Some share = ap (λ ss. slice_get ss c.in-Some.place) (sym c.as_slice-in-Some.ensures.value) ∙ c.share_at-share.ensures in
    let there = c.in-Some.ensures.there share (ap (λ ss. slice_get ss c.in-Some.place) c.as_slice.ensures.value ∙ at) in
    let grouped : fixed + (shares_of t items w + o * n) ≡ (fixed + shares_of t items w) + o * n = omega arith in
    sum-capped fixed fixed (shares_of t (slice_set items c.in-Some.place new) w) (shares_of t items w + o * n) refl
    (shares-set t items c.in-Some.place o new share w at there.0 there.1 c.plus-times.ensures)
    ∙ ap capped grouped

pub returns-in_ok-push-in-None-clause-goals : goal.returns-in_ok-push-in-None-clause-goals
returns-in_ok-push-in-None-clause-goals c = λ t w.
    let fixed = c.args.self.now.fixed in
    let items = c.args.self.now.shares.items in
    let new : Share = record { leaf = c.args.leaf; marked = c.args.marked; times = c.args.often } in
    let grouped : fixed + shares_of t (items ++ new ∷ []) w ≡ (fixed + shares_of t items w) + c.args.often * w (name_at t c.args.leaf) c.args.marked =
    omega (arith, shares-push t items new w) in
    (λ i. capped (fixed + shares_of t (c.in_ok-push-in-None.ensures.items i) w)) ∙ ap capped grouped
