use Rattle.std.proofs.Common.{arith, map, subst, List, ◌+◌}
use Rattle.std.proofs.lemmas.List.{length-map}
use Rattle.jh_arena.proofs.table.Listed.{extends-refl, extends-trans}
use Rattle.jh_form.specs.Tree as tree
use Rattle.jh_semantics.specs.Code.{Text}
use Rattle.jh_semantics.specs.WellFormed.{set_of}
use Rattle.jh_state_facts.specs.well_formedness.Facts.{AddsFacts}
use Rattle.jh_state_facts.specs.well_formedness.States.{texts_in}
use Rattle.jh_state_facts.proofs.well_formedness.ClassSteps.{apart-more, apart-end, texts-behind}
use Rattle.jh_state_facts.proofs.well_formedness.classes.push_apart.Goals as goal

pub loop-place-preserved : goal.loop-place-preserved
loop-place-preserved c =
    let v = c.push_apart_from.new.table in
    record {
      grows = extends-trans c.args.table.now c.loop-place.table v c.loop-place.invariant.grows c.push_apart_from.ensures.grows;
      rest = λ u new g h.
          c.loop-place.invariant.rest u new (extends-trans c.loop-place.table v u c.push_apart_from.ensures.grows g)
          (apart-more v u c.loop-place.facts.items c.push_apart_from.new.facts.items new c.loop-place.place c.text_at.result.now (texts_in c.args.texts.now) c.text_at.ensures
          (subst (λ (xs : List Text). AddsFacts v c.loop-place.facts.items c.push_apart_from.new.facts.items (map (λ d. tree.eq_set (tree.inter (set_of c.text_at.result.now) (set_of d)) tree.empty) xs)) (texts-behind c.args.texts.now c.behind-others.result.now (c.loop-place.place + 1) c.behind-others.ensures) c.in_ok-push_apart_from.ensures.facts) g h);
    }

pub returns-clause-facts : goal.returns-clause-facts
returns-clause-facts c =
    c.loop-place.invariant.rest c.loop-place.table c.loop-place.facts.items (extends-refl c.loop-place.table)
    (apart-end c.loop-place.table c.loop-place.facts.items c.loop-place.place (texts_in c.args.texts.now) (omega (arith, c.loop-place-test.false, length-map c.args.texts.now (λ x. x.now))))
