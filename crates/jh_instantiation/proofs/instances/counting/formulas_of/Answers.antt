use Rattle.std.proofs.Common.{◌≤◌, ◌+◌, sym, subst, ℕ, arith, List, [], ◌∷◌, ◌++◌, length, map, take}
use Rattle.std.proofs.lemmas.List.{take_all}
use Rattle.jh_instantiation.specs.instance_count.Grouping.{AreFormulas}
use Rattle.jh_inst.specs.instances.Rounds.{AtHand}
use Rattle.jh_instantiation.proofs.instances.Lists.{take-next}
use Rattle.jh_instantiation.proofs.instances.Universals.{hand-at, hand-length, formulas-pushed}
use Rattle.jh_instantiation.proofs.instances.counting.formulas_of.Goals as goal

pub loop-place-init : goal.loop-place-init
loop-place-init c = λ ts hs h. subst (λ (ns : List ℕ). AreFormulas c.args.table.now ns []) (sym c.new-formulas.ensures.items) tt

pub loop-place-preserved : goal.loop-place-preserved
loop-place-preserved c = λ ts hs h.
    let r = hand-at c.args.table.now ts c.args.at_hand.now hs c.loop-place.place c.universal_at.result h c.universal_at.ensures in
    let t = c.args.table.now in
    let pushed = formulas-pushed t c.loop-place.formulas.items (take c.loop-place.place hs) c.universal_at.result.node r.0 (c.loop-place.invariant ts hs h) (r.2.formula, tt) in
    subst (λ (ns : List ℕ). AreFormulas t ns (map (λ (j : AtHand). j.formula) (take (c.loop-place.place + 1) hs))) (sym c.in_ok-push.ensures.items)
    (subst (λ (js : List AtHand). AreFormulas t (c.loop-place.formulas.items ++ c.universal_at.result.node ∷ []) (map (λ (j : AtHand). j.formula) js)) (sym (take-next hs c.loop-place.place r.0 r.1)) pushed)

pub returns : goal.returns
returns c = λ ts hs h.
    let long = hand-length c.args.table.now ts c.args.at_hand.now hs h in
    let all : length hs ≤ c.loop-place.place = omega (arith, c.loop-place-test.false, long) in
    subst (λ (js : List AtHand). AreFormulas c.args.table.now c.loop-place.formulas.items (map (λ (j : AtHand). j.formula) js)) (take_all c.loop-place.place hs all) (c.loop-place.invariant ts hs h)
