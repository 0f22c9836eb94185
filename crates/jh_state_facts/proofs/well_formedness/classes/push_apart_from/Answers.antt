use Rattle.std.proofs.Common.{[], ◌∷◌, subst, arith}
use Rattle.jh_form.specs.Tree.{FormulaTree}
use Rattle.jh_form.specs.Tree as tree
use Rattle.std.proofs.lemmas.List.{length-map}
use Rattle.jh_arena.proofs.table.Listed.{extends-trans}
use Rattle.jh_semantics.specs.Code.{Text}
use Rattle.jh_semantics.specs.WellFormed.{set_of}
use Rattle.jh_state_facts.specs.well_formedness.Facts.{AddsFacts}
use Rattle.jh_state_facts.specs.well_formedness.States.{texts_in}
use Rattle.jh_state_facts.proofs.well_formedness.FactSteps.{adds-next, adds-all}
use Rattle.jh_state_facts.proofs.well_formedness.ClassSteps.{singles}
use Rattle.jh_state_facts.proofs.well_formedness.classes.push_apart_from.Goals as goal

pub loop-place-preserved : goal.loop-place-preserved
loop-place-preserved c = record {
  grows = extends-trans c.args.table.now c.loop-place.table c.push_two_apart.new.table c.loop-place.invariant.grows c.push_two_apart.ensures.grows;
  facts =
      adds-next (λ d. tree.eq_set (tree.inter (set_of c.args.class.now) (set_of d)) tree.empty ∷ []) (λ x. x) (texts_in c.args.others.now) c.text_at.result.now c.loop-place.place c.loop-place.table c.push_two_apart.new.table c.args.facts.now.items c.loop-place.facts.items c.push_two_apart.new.facts.items
      c.text_at.ensures c.push_two_apart.ensures.grows c.loop-place.invariant.facts c.in_ok-push_two_apart.ensures.facts;
}

pub returns-clause-facts : goal.returns-clause-facts
returns-clause-facts c =
    let f : Text → FormulaTree = λ d. tree.eq_set (tree.inter (set_of c.args.class.now) (set_of d)) tree.empty in
    let all = texts_in c.args.others.now in
    subst (λ fs. AddsFacts c.loop-place.table c.args.facts.now.items c.loop-place.facts.items fs) (singles f all)
    (adds-all (λ d. f d ∷ []) (λ x. x) all c.loop-place.place c.loop-place.table c.args.facts.now.items c.loop-place.facts.items (omega (arith, c.loop-place-test.false, length-map c.args.others.now (λ x. x.now))) c.loop-place.invariant.facts)
