use Rattle.std.proofs.Common.{◌≡◌, sym, subst, ◌∙◌, ap, ◌<◌, ◌≤◌, ℕ, length, slice_index, slice_get, Some, arith}
use Rattle.jh_closure.specs.union_find.Merges.{root}
use Rattle.jh_closure.proofs.union_find.Rooting.{root-still, root-up, one-merge}
use Rattle.jh_closure.proofs.union_find.climbing.root_at.Goals as goal

pub loop-at-preserved : goal.loop-at-preserved
loop-at-preserved c =
    let ms = c.args.merges.now in
    let stamps = c.args.stamps.now in
    let s = c.requires.stamped in
    let m = c.merge_in-at.result in
    let e = c.item.ensures in
    let f = c.item-in-loop-at.ensures in
    let t = c.loop-at-test.true in
    let early : c.item-in-loop-at.result < c.args.time = omega (arith, e, f, t) in
    let inside = c.requires.time in
    let leads = s.leads c.loop-at.at c.loop-at.invariant.inside (omega (arith, f, early, inside)) in
    let small : m.small ≡ c.loop-at.at = ap (λ x. x.small) (one-merge (slice_get ms c.item-in-loop-at.result) m leads.0 c.merge_in-at.ensures (ap (slice_get ms) f ∙ leads.1)) ∙ leads.2 in
    record {
      inside = s.large c.item-in-loop-at.result m c.merge_in-at.ensures;
      same = sym (root-up ms stamps s c.args.time c.item-in-loop-at.result m c.merge_in-at.ensures early) ∙ (ap (root ms c.args.time) small ∙ c.loop-at.invariant.same);
    }

pub returns-clause-root : goal.returns-clause-root
returns-clause-root c =
    let e = c.item.ensures in
    let f = c.loop-at-test.false in
    let late : c.args.time ≤ slice_index c.args.stamps.now c.loop-at.at = subst (λ k. c.args.time ≤ k) e f in
    sym (root-still c.args.merges.now c.args.stamps.now c.requires.stamped c.args.time c.loop-at.at late) ∙ c.loop-at.invariant.same
