use Rattle.std.proofs.Common.{◌≡◌, sym, ◌∙◌, ap, subst, List, [], ◌∷◌, ◌++◌, Some}
use Rattle.std.proofs.lemmas.List.{append_assoc}
use Rattle.jh_propagation.specs.trail.Saying.{literals_at}
use Rattle.jh_propagation.specs.propagation.Problems.{instances_in}
use Rattle.jh_search.specs.declared.turn.Turn.{Turn}
use Rattle.jh_search.specs.Paths.{all_closed}
use Rattle.jh_search.specs.Searches.{IsGoingBack, IsStepBack}
use Rattle.jh_search.proofs.Turning.{turned-from}
use Rattle.jh_search.proofs.Lists.{none-so}
use Rattle.jh_search.proofs.returning.go_back.Goals as goal

pub returns-in-Some-2-clause-retreat : goal.returns-in-Some-2-clause-retreat
returns-in-Some-2-clause-retreat c = λ ts p closed e h.
    let going = subst (λ (path : List Turn). IsGoingBack ts p path closed c.loop-turn.needs.items) c.in-Some.ensures.some (c.loop-turn.invariant.0 ts p closed e h) in
    subst (IsStepBack ts p c.step_back.new.path.items closed c.step_back.new.needs.items c.args.leaves) c.in-Some-2.is (c.in_ok-back.ensures.back ts p closed e going)

pub returns-in-Some-2-clause-turned : goal.returns-in-Some-2-clause-turned
returns-in-Some-2-clause-turned c = λ e.
    let turned = c.in_ok-back.ensures.turned (c.in-Some-2.is ∙ ap Some e) in
    let behind = c.loop-turn.invariant.1 in
    turned-from c.args.path.now.items c.loop-turn.path.items c.newest.new.path.items c.step_back.new.path.items behind.0 c.in-Some.turn turned.0 behind.1 c.in-Some.ensures.some turned.1.0 turned.1.1.0 turned.1.1.1

pub loop-turn-preserved : goal.loop-turn-preserved
loop-turn-preserved c = (
  (λ ts p closed e h.
      subst (IsStepBack ts p c.step_back.new.path.items closed c.step_back.new.needs.items c.args.leaves) c.in_default-2.is
      (c.in_ok-back.ensures.back ts p closed e (subst (λ (path : List Turn). IsGoingBack ts p path closed c.loop-turn.needs.items) c.in-Some.ensures.some (c.loop-turn.invariant.0 ts p closed e h)))),
  (c.in-Some.turn ∷ c.loop-turn.invariant.1.0, front),
)
  where
    same : c.step_back.new.path.items ≡ c.newest.new.path.items
    same = none-so c.in_ok-back.field-0 c.in_default-2.is c.in_ok-back.ensures.path

    front : c.args.path.now.items ≡ c.step_back.new.path.items ++ c.in-Some.turn ∷ c.loop-turn.invariant.1.0
    front =
        c.loop-turn.invariant.1.1 ∙ (ap (λ (xs : List Turn). xs ++ c.loop-turn.invariant.1.0) c.in-Some.ensures.some
        ∙ (append_assoc c.newest.new.path.items (c.in-Some.turn ∷ []) c.loop-turn.invariant.1.0
        ∙ ap (λ (xs : List Turn). xs ++ c.in-Some.turn ∷ c.loop-turn.invariant.1.0) (sym same)))

pub returns-clause-retreat : goal.returns-clause-retreat
returns-clause-retreat c = λ ts p closed e h.
    let going = subst (λ (path : List Turn). IsGoingBack ts p path closed c.loop-turn.needs.items) c.in_default.ensures.none (c.loop-turn.invariant.0 ts p closed e h) in
    c.search_goes_back.ensures.no_model (instances_in ts p) (all_closed ts closed) (literals_at ts c.loop-turn.needs.items) going.closing
