use Rattle.std.proofs.Common.{◌≡◌, ◌<◌, ◌≤◌, ◌-◌, ◌+◌, sym, ap, ◌∙◌, ℕ, length, slice_index, arith}
use Rattle.jh_closure.proofs.union_find.Turning.{early, placed, left-meets, right-meets, above, above-one, above-later, left-turn, right-turn}
use Rattle.jh_closure.proofs.union_find.climbing.+turn_of.Goals as goal

pub returns-then-large-right-clause-before : goal.returns-then-large-right-clause-before
returns-then-large-right-clause-before t c = early c.args.merges.now c.args.stamps.now c.requires.stamped c.args.before c.args.left c.args.right c.requires.before c.requires.left c.requires.right c.requires.apart c.requires.same c.item-first.result c.item-second.result c.item-first.ensures c.item-second.ensures (let t = c.if-first-second.true in omega (arith, t))

pub returns-then-large-right-clause-turn : goal.returns-then-large-right-clause-turn
returns-then-large-right-clause-turn t c = left-meets c.args.merges.now c.args.stamps.now c.requires.stamped c.args.before c.args.left c.args.right c.requires.before c.requires.left c.requires.right c.requires.apart c.requires.same c.item-first.result c.item-second.result c.item-first.ensures c.item-second.ensures (let t = c.if-first-second.true in omega (arith, t)) c.merge_in-large.result c.merge_in-large.ensures c.if-large-right.true

pub turn_of-requires : goal.turn_of-requires
turn_of-requires t c =
    let e = early c.args.merges.now c.args.stamps.now c.requires.stamped c.args.before c.args.left c.args.right c.requires.before c.requires.left c.requires.right c.requires.apart c.requires.same c.item-first.result c.item-second.result c.item-first.ensures c.item-second.ensures (let t = c.if-first-second.true in omega (arith, t)) in
    let l = above-later c.args.merges.now c.args.stamps.now c.requires.stamped c.args.before c.args.left c.args.right c.requires.before c.requires.left c.requires.right c.requires.apart c.requires.same c.item-first.result c.item-second.result c.item-first.ensures c.item-second.ensures (let t = c.if-first-second.true in omega (arith, t)) c.merge_in-large.result c.merge_in-large.ensures in
    let f = c.item-first.ensures in (
      omega (arith, c.decreases, e, l, f),
      (c.requires.stamped, (c.requires.before, (above c.args.merges.now c.args.stamps.now c.requires.stamped c.args.before c.args.left c.args.right c.requires.before c.requires.left c.requires.right c.requires.apart c.requires.same c.item-first.result c.item-second.result c.item-first.ensures c.item-second.ensures (let t = c.if-first-second.true in omega (arith, t)) c.merge_in-large.result c.merge_in-large.ensures, (c.requires.right, (c.if-large-right.false, above-one c.args.merges.now c.args.stamps.now c.requires.stamped c.args.before c.args.left c.args.right c.requires.before c.requires.left c.requires.right c.requires.apart c.requires.same c.item-first.result c.item-second.result c.item-first.ensures c.item-second.ensures (let t = c.if-first-second.true in omega (arith, t)) c.merge_in-large.result c.merge_in-large.ensures))))),
    )

pub merge_in-large-requires-else-first-second : goal.merge_in-large-requires-else-first-second
merge_in-large-requires-else-first-second t c = placed c.args.merges.now c.args.stamps.now c.requires.stamped c.args.before c.args.right c.args.left c.requires.before c.requires.right c.requires.left (λ e. c.requires.apart (sym e)) (sym c.requires.same) c.item-second.result c.item-first.result c.item-second.ensures c.item-first.ensures (let t = c.if-first-second.false in omega (arith, t))

pub returns-then-large-left-clause-before : goal.returns-then-large-left-clause-before
returns-then-large-left-clause-before t c = early c.args.merges.now c.args.stamps.now c.requires.stamped c.args.before c.args.right c.args.left c.requires.before c.requires.right c.requires.left (λ e. c.requires.apart (sym e)) (sym c.requires.same) c.item-second.result c.item-first.result c.item-second.ensures c.item-first.ensures (let t = c.if-first-second.false in omega (arith, t))

pub returns-then-large-left-clause-turn : goal.returns-then-large-left-clause-turn
returns-then-large-left-clause-turn t c = right-meets c.args.merges.now c.args.stamps.now c.requires.stamped c.args.before c.args.right c.args.left c.requires.before c.requires.right c.requires.left (λ e. c.requires.apart (sym e)) (sym c.requires.same) c.item-second.result c.item-first.result c.item-second.ensures c.item-first.ensures (let t = c.if-first-second.false in omega (arith, t)) c.merge_in-large-else-first-second.result c.merge_in-large-else-first-second.ensures c.if-large-left.true

pub turn_of-requires-else-first-second : goal.turn_of-requires-else-first-second
turn_of-requires-else-first-second t c =
    let e = early c.args.merges.now c.args.stamps.now c.requires.stamped c.args.before c.args.right c.args.left c.requires.before c.requires.right c.requires.left (λ e. c.requires.apart (sym e)) (sym c.requires.same) c.item-second.result c.item-first.result c.item-second.ensures c.item-first.ensures (let t = c.if-first-second.false in omega (arith, t)) in
    let l = above-later c.args.merges.now c.args.stamps.now c.requires.stamped c.args.before c.args.right c.args.left c.requires.before c.requires.right c.requires.left (λ e. c.requires.apart (sym e)) (sym c.requires.same) c.item-second.result c.item-first.result c.item-second.ensures c.item-first.ensures (let t = c.if-first-second.false in omega (arith, t)) c.merge_in-large-else-first-second.result c.merge_in-large-else-first-second.ensures in
    let f = c.item-second.ensures in (
      omega (arith, c.decreases, e, l, f),
      (c.requires.stamped, (c.requires.before, (c.requires.left, (above c.args.merges.now c.args.stamps.now c.requires.stamped c.args.before c.args.right c.args.left c.requires.before c.requires.right c.requires.left (λ e. c.requires.apart (sym e)) (sym c.requires.same) c.item-second.result c.item-first.result c.item-second.ensures c.item-first.ensures (let t = c.if-first-second.false in omega (arith, t)) c.merge_in-large-else-first-second.result c.merge_in-large-else-first-second.ensures, ((λ q. c.if-large-left.false (sym q)), sym (above-one c.args.merges.now c.args.stamps.now c.requires.stamped c.args.before c.args.right c.args.left c.requires.before c.requires.right c.requires.left (λ e. c.requires.apart (sym e)) (sym c.requires.same) c.item-second.result c.item-first.result c.item-second.ensures c.item-first.ensures (let t = c.if-first-second.false in omega (arith, t)) c.merge_in-large-else-first-second.result c.merge_in-large-else-first-second.ensures)))))),
    )

pub returns-else-large-right-clause-turn : goal.returns-else-large-right-clause-turn
returns-else-large-right-clause-turn t c = left-turn c.args.merges.now c.args.stamps.now c.requires.stamped c.args.before c.args.left c.args.right c.requires.before c.requires.left c.requires.right c.requires.apart c.requires.same c.item-first.result c.item-second.result c.item-first.ensures c.item-second.ensures (let t = c.if-first-second.true in omega (arith, t)) c.merge_in-large.result c.merge_in-large.ensures c.turn_of.result c.turn_of.ensures.late c.turn_of.ensures.turn

pub returns-else-large-left-clause-turn : goal.returns-else-large-left-clause-turn
returns-else-large-left-clause-turn t c = right-turn c.args.merges.now c.args.stamps.now c.requires.stamped c.args.before c.args.right c.args.left c.requires.before c.requires.right c.requires.left (λ e. c.requires.apart (sym e)) (sym c.requires.same) c.item-second.result c.item-first.result c.item-second.ensures c.item-first.ensures (let t = c.if-first-second.false in omega (arith, t)) c.merge_in-large-else-first-second.result c.merge_in-large-else-first-second.ensures c.turn_of-else-first-second.result c.turn_of-else-first-second.ensures.late c.turn_of-else-first-second.ensures.turn
