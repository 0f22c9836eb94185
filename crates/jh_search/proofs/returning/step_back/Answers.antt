use Rattle.std.proofs.Common.{◌≡◌, ◌<◌, refl, sym, ap, ◌∙◌, subst, arith, List, [], length, true}
use Rattle.std.proofs.lemmas.Bool.{true≢false}
use Rattle.jh_closure.specs.congruence_closure.Nodes.{Has}
use Rattle.jh_propagation.specs.declared.trail.decided.Decided.{Decided}
use Rattle.jh_search.specs.declared.turn.Turn.{Turn}
use Rattle.jh_search.specs.Joining.{AreJoined}
use Rattle.jh_search.specs.Searches.{IsTurned}
use Rattle.jh_search.proofs.Backs.{dropped, joined-back, spent-back, turned-back}
use Rattle.jh_search.proofs.returning.step_back.Goals as goal

pub returns-then-not-has-clause-back : goal.returns-then-not-has-clause-back
returns-then-not-has-clause-back c = λ ts p closed e h.
    dropped c.search_goes_back.ensures ts p c.args.path.now.items c.args.turn closed c.args.needs.now.items h
    (λ g. true≢false (sym (c.has.ensures.1 (subst (λ (xs : List Decided). Has xs c.args.turn.literal) (sym c.as_slice.ensures.value) g)) ∙ c.if-not-has.true))

pub returns-then-turn-clause-back : goal.returns-then-turn-clause-back
returns-then-turn-clause-back c = λ ts p closed e h.
    let here = subst (λ (xs : List Decided). Has xs c.args.turn.literal) c.as_slice.ensures.value (c.has.ensures.0 c.if-not-has.false) in
    let first = subst (λ (xs : List Decided). AreJoined xs c.args.turn.literal c.as_slice-then-turn-2.result.now c.in_ok-needs.field-0.items) c.as_slice-then-turn.ensures.value c.in_ok-needs.ensures in
    let joined = subst (λ (xs : List Decided). AreJoined c.args.needs.now.items c.args.turn.literal xs c.in_ok-needs.field-0.items) c.as_slice-then-turn-2.ensures.value first in
    joined-back c.search_goes_back.ensures ts p c.args.path.now.items c.args.turn closed c.args.needs.now.items h c.in_ok-needs.field-0.items here c.if-turn.true joined

pub returns-then-count-leaves-clause-back : goal.returns-then-count-leaves-clause-back
returns-then-count-leaves-clause-back c = λ ts p closed e h.
    let here = subst (λ (xs : List Decided). Has xs c.args.turn.literal) c.as_slice.ensures.value (c.has.ensures.0 c.if-not-has.false) in
    let many : length closed ≡ c.args.leaves = omega (arith, e, c.if-count-leaves.true, c.requires) in
    spent-back c.search_goes_back.ensures ts p c.args.path.now.items c.args.turn closed c.args.needs.now.items h here c.if-turn.false c.args.leaves many

pub returns-clause-back : goal.returns-clause-back
returns-clause-back c = λ ts p closed e h.
    let here = subst (λ (xs : List Decided). Has xs c.args.turn.literal) c.as_slice.ensures.value (c.has.ensures.0 c.if-not-has.false) in
    let u : Turn = record { literal = c.opposite.result; at = c.args.turn.at; is_second = true; needs = c.in_ok-rest.rest } in
    let joined = subst (λ (xs : List Decided). AreJoined xs c.args.turn.literal [] c.in_ok-rest.rest.items) c.as_slice-2.ensures.value c.in_ok-rest.ensures in
    let turned = turned-back c.search_goes_back.ensures ts p c.args.path.now.items c.args.turn closed c.args.needs.now.items h u c.opposite.ensures refl here c.if-turn.false joined in
    let few : length closed < c.args.leaves = omega (arith, e, c.if-count-leaves.false) in
    (subst (λ (xs : List Turn). IsTurned ts p xs closed) (sym c.in_ok-push.ensures.items) turned, few)

pub returns-clause-turned : goal.returns-clause-turned
returns-clause-turned c = λ e. (record { literal = c.opposite.result; at = c.args.turn.at; is_second = true; needs = c.in_ok-rest.rest }, (c.in_ok-push.ensures.items, (ap (λ (z : Decided). z.atom) c.opposite.ensures, refl)))
