use Rattle.std.proofs.Common.{◌≡◌, sym, ap, ◌∙◌, subst, ◌<◌, ◌≤◌, length, take, arith, inr}
use Rattle.std.proofs.lemmas.List.{length-take-le}
use Rattle.std.proofs.lemmas.Option.{same_Some}
use Rattle.jh_closure.proofs.congruence_closure.Having.{has-at}
use Rattle.jh_cong.proofs.classes.Oks.{if-ok}
use Rattle.jh_cong.specs.classes.Saying.{Asserted}
use Rattle.jh_arena.specs.table.Nodes.{nodes}
use Rattle.jh_propagation.specs.declared.trail.decided.Decided.{Decided}
use Rattle.jh_explanations.specs.Resting.{IsToldBelow, RestsOn}
use Rattle.jh_explanations.proofs.Follows.{count-inside, first-spoken, first-told, fewer-told, rests-equal}
use Rattle.jh_explanations.proofs.places.places_of_equality.Goals as goal

pub numbers_of_equality-requires-clause-atom : goal.numbers_of_equality-requires-clause-atom
numbers_of_equality-requires-clause-atom c = c.requires.history.over_atoms c.literal.result (has-at c.args.trail.now c.args.place c.literal.result c.literal.ensures)

pub numbers_of_equality-requires-clause-inside : goal.numbers_of_equality-requires-clause-inside
numbers_of_equality-requires-clause-inside c = count-inside (nodes c.args.problem.now.table) c.args.problem.now c.args.trail.now (nodes c.args.classes.now.table) c.args.reasons.now c.args.classes.now.said c.args.place c.args.count c.requires.told c.requires.equality

pub numbers_of_equality-requires-clause-may : goal.numbers_of_equality-requires-clause-may
numbers_of_equality-requires-clause-may c = (c.requires.history.equalities c.args.place c.args.count c.literal.result c.literal.ensures c.requires.equality).may

pub numbers_of_equality-requires-clause-told : goal.numbers_of_equality-requires-clause-told
numbers_of_equality-requires-clause-told c =
    first-told (nodes c.args.problem.now.table) c.args.problem.now c.args.trail.now (nodes c.args.classes.now.table) c.args.reasons.now c.args.classes.now.said c.args.place c.args.count c.requires.told c.requires.equality c.literal.result
    (c.requires.history.equalities c.args.place c.args.count c.literal.result c.literal.ensures c.requires.equality) (omega (arith, c.requires.inside))

pub returns-clause-below : goal.returns-clause-below
returns-clause-below c =
    let trail = c.args.trail.now in
    let said = c.args.classes.now.said in
    let equal = c.requires.history.equalities c.args.place c.args.count c.literal.result c.literal.ensures c.requires.equality in
    let front : length (take c.args.place trail) ≡ c.args.place = length-take-le c.args.place trail (omega (arith, c.requires.inside)) in
    let inside = count-inside (nodes c.args.problem.now.table) c.args.problem.now trail (nodes c.args.classes.now.table) c.args.reasons.now said c.args.place c.args.count c.requires.told c.requires.equality in
    let long : length (take c.args.count said) ≡ c.args.count = length-take-le c.args.count said inside in
    let small : c.args.count ≤ length (take c.args.place trail) = equal.inside in
    if-ok c.numbers_of_equality.result (λ places f n h. let lt : n < length (take c.args.count said) = f n h in omega (arith, lt, long, small, front)) c.numbers_of_equality.ensures.below

pub returns-clause-rests : goal.returns-clause-rests
returns-clause-rests c =
    let ts = nodes c.args.problem.now.table in
    let p = c.args.problem.now in
    let trail = c.args.trail.now in
    let said = c.args.classes.now.said in
    let spoken = first-spoken ts p trail (nodes c.args.classes.now.table) c.args.reasons.now said c.args.place c.args.count c.requires.told c.requires.equality in
    if-ok c.numbers_of_equality.result (λ places f. inr (λ d at. subst (λ (z : Decided). RestsOn ts p trail z places) (same_Some c.literal.result d (sym c.literal.ensures ∙ at)) (rests-equal ts p trail (nodes c.args.classes.now.table) c.literal.result c.args.count (take c.args.count said) places spoken f))) c.numbers_of_equality.ensures.told

pub returns-clause-told : goal.returns-clause-told
returns-clause-told c =
    let ts = nodes c.args.problem.now.table in
    subst (λ (a : Asserted). IsToldBelow (nodes c.args.classes.now.table) ts c.args.trail.now c.args.reasons.now a.said c.args.place) (sym c.numbers_of_equality.ensures.classes)
    (fewer-told ts c.args.problem.now c.args.trail.now (nodes c.args.classes.now.table) c.args.reasons.now c.args.classes.now.said c.args.place c.args.count c.requires.told c.requires.equality c.requires.history.rising)

pub returns-clause-table : goal.returns-clause-table
returns-clause-table c = ap (λ (a : Asserted). a.table) c.numbers_of_equality.ensures.classes
