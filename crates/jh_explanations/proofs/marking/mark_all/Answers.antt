use Rattle.std.proofs.Common.{sym, subst, ◌<◌, ◌+◌, ℕ, List, Bool, true, slice_set, length, take, take_all, arith}
use Rattle.jh_closure.proofs.congruence_closure.Having.{has-at}
use Rattle.jh_cong.proofs.classes.Looking.{take-next}
use Rattle.jh_explanations.specs.Marks.{AddsMarks}
use Rattle.jh_explanations.proofs.Gathered.{adds-none, adds-more}
use Rattle.jh_explanations.proofs.marking.mark_all.Goals as goal

pub loop-index-init : goal.loop-index-init
loop-index-init c = adds-none c.args.marks.now.items

pub set_mark-requires : goal.set_mark-requires
set_mark-requires c =
    let lt : c.place_at.result < length c.args.marks.now.items = c.requires c.place_at.result (has-at c.args.places.now c.loop-index.index c.place_at.result c.place_at.ensures) in
    omega (arith, lt, c.loop-index.invariant.long)

pub loop-index-preserved : goal.loop-index-preserved
loop-index-preserved c =
    let lt : c.place_at.result < length c.args.marks.now.items = c.requires c.place_at.result (has-at c.args.places.now c.loop-index.index c.place_at.result c.place_at.ensures) in
    subst (λ (xs : List Bool). AddsMarks c.args.marks.now.items xs (take (c.loop-index.index + 1) c.args.places.now)) (sym c.set_mark.ensures)
    (subst (λ (ns : List ℕ). AddsMarks c.args.marks.now.items (slice_set c.loop-index.marks.items c.place_at.result true) ns) (sym (take-next c.args.places.now c.loop-index.index c.place_at.result c.place_at.ensures))
    (adds-more c.args.marks.now.items c.loop-index.marks.items (take c.loop-index.index c.args.places.now) c.place_at.result c.loop-index.invariant (omega (arith, lt, c.loop-index.invariant.long))))

pub returns : goal.returns
returns c = subst (AddsMarks c.args.marks.now.items c.loop-index.marks.items) (take_all c.loop-index.index c.args.places.now (omega (arith, c.loop-index-test.false))) c.loop-index.invariant
