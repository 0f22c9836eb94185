use Rattle.std.proofs.Common.{◌≤◌, ◌<◌, refl, sym, subst, ◌∙◌, arith, List, [], ◌∷◌, ◌++◌, length}
use Rattle.jh_arena.specs.table.Nodes.{nodes}
use Rattle.jh_inst.specs.instances.Rounds.{AtHand, universals}
use Rattle.jh_instantiation.proofs.skolem_constants.Shapes.{formula-there}
use Rattle.jh_instantiation.specs.instances.Progressing.{AreAtHand}
use Rattle.jh_instantiation.proofs.instances.Growing.{entries-length}
use Rattle.jh_instantiation.proofs.instances.Lists.{item-there, universals-next, universals-end}
use Rattle.jh_instantiation.proofs.instances.beginning.add_universals.Goals as goal

pub loop-place-init : goal.loop-place-init
loop-place-init c = λ ts hs es hh hm. (hs, hh, refl)

pub add_universal-requires : goal.add_universal-requires
add_universal-requires c =
    let there = c.requires.there in
    let long = entries-length c.args.table.now c.args.entries.now.terms.items c.args.entries.now.items.items there.0 there.1 in
    let inside : c.loop-place.place < length there.0 = omega (arith, c.loop-place-test.true, long) in
    let e = item-there there.0 c.loop-place.place inside in
    record { there = formula-there (nodes c.args.table.now) c.formula.result _ (c.formula.ensures c.args.table.now there.0 e.0 there.1 e.1) }

pub loop-place-preserved : goal.loop-place-preserved
loop-place-preserved c = λ ts hs es hh hm.
    let r = c.loop-place.invariant ts hs es hh hm in
    let long = entries-length c.args.table.now c.args.entries.now.terms.items c.args.entries.now.items.items es hm in
    let inside : c.loop-place.place < length es = omega (arith, c.loop-place-test.true, long) in
    let e = item-there es c.loop-place.place inside in
    (r.0 ++ universals c.loop-place.place (e.0 ∷ []), c.in_ok-add_universal.ensures ts r.0 e.0 r.1 (c.formula.ensures c.args.table.now es e.0 hm e.1), sym (universals-next r.0 es c.loop-place.place e.0 e.1) ∙ r.2)

pub returns : goal.returns
returns c = λ ts hs es hh hm.
    let r = c.loop-place.invariant ts hs es hh hm in
    let long = entries-length c.args.table.now c.args.entries.now.terms.items c.args.entries.now.items.items es hm in
    let all : length es ≤ c.loop-place.place = omega (arith, c.loop-place-test.false, long) in
    subst (λ (us : List AtHand). AreAtHand c.args.table.now ts c.loop-place.at_hand.items us) (sym (universals-end r.0 es c.loop-place.place all) ∙ r.2) r.1
