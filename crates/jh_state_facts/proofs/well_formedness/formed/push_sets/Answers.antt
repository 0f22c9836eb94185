use Rattle.std.proofs.Common.{[], ◌∷◌, ◌++◌, ◌∙◌, ap, List, subst}
use Rattle.jh_form.specs.Tree as tree
use Rattle.jh_semantics.specs.Code.{Text}
use Rattle.jh_semantics.specs.WellFormed.{alloc, union_of, apart, all_classes}
use Rattle.jh_state_facts.specs.well_formedness.Facts.{AddsFacts}
use Rattle.jh_state_facts.specs.well_formedness.States.{texts_in}
use Rattle.jh_state_facts.proofs.well_formedness.FactSteps.{on-ok, adds-two}
use Rattle.jh_state_facts.proofs.well_formedness.formed.push_sets.Goals as goal

pub returns-clause-facts : goal.returns-clause-facts
returns-clause-facts c =
    let t1 = c.push_whole.new.table in
    let t2 = c.push_apart.new.table in
    let t3 = c.push_null_out.new.table in
    let f0 = c.args.facts.now.items in
    let f1 = c.push_whole.new.facts.items in
    let f2 = c.push_apart.new.facts.items in
    let f3 = c.push_null_out.new.facts.items in
    let all = all_classes c.args.classes.now in
    let whole = subst (λ (xs : List Text). AddsFacts t1 f0 f1 (tree.eq_set alloc (union_of xs) ∷ [])) (ap texts_in c.as_slice.ensures.value ∙ c.in_ok-texts.ensures) c.in_ok-push_whole.ensures.facts in
    let parts = subst (λ (xs : List Text). AddsFacts t2 f1 f2 (apart xs)) (ap texts_in c.as_slice-2.ensures.value ∙ c.in_ok-texts.ensures) c.in_ok-push_apart.ensures.facts in
    on-ok c.push_null_out.result
    (λ last. adds-two t2 t3 f0 f2 f3 ((tree.eq_set alloc (union_of all) ∷ []) ++ apart all) (tree.negation (tree.member tree.null alloc) ∷ []) (adds-two t1 t2 f0 f1 f2 (tree.eq_set alloc (union_of all) ∷ []) (apart all) whole c.push_apart.ensures.grows parts) c.push_null_out.ensures.grows last)
    c.push_null_out.ensures.facts
