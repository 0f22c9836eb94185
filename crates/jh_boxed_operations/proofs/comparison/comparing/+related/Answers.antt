use Rattle.std.proofs.Common.{◌≡◌, sym, ap, ◌∙◌, ◌&&◌, arith, rules}
use Rattle.jh_boxed_operations.proofs.comparison.FieldLists.{here-term, here-int, here-set, here-field, here-formula, related_lengths, related_step, related_end, reach_test, in_two, in_one, and_true, and_stops, divides_test, stop, go_on}
use Rattle.jh_form.specs.Bare.{list_tree, term_tree, formula_tree}
use Rattle.jh_boxed_operations.specs.comparison.Compared.{seen, related_fields, related_term}
use Rattle.jh_boxed_operations.proofs.comparison.comparing.+related.Goals.{related_formula-then-related_fields, related_formula-else-related_fields}
use Rattle.jh_boxed_operations.proofs.comparison.comparing.+related.Goals as goal

pub related_term-returns-then-terms : goal.related_term-returns-then-terms
related_term-returns-then-terms g t c = here-term _ _ _ _ (sym c.terms.ensures ∙ c.if-terms.true)

pub related_int-returns-then-ints : goal.related_int-returns-then-ints
related_int-returns-then-ints g t c = here-int _ _ _ _ (sym c.ints.ensures ∙ c.if-ints.true)

pub related_set-returns-then-sets : goal.related_set-returns-then-sets
related_set-returns-then-sets g t c = here-set _ _ _ _ (sym c.sets.ensures ∙ c.if-sets.true)

pub related_field-returns-then-fields : goal.related_field-returns-then-fields
related_field-returns-then-fields g t c = here-field _ _ _ _ (sym c.fields.ensures ∙ c.if-fields.true)

pub related_formula-returns-then-formulas : goal.related_formula-returns-then-formulas
related_formula-returns-then-formulas g t c = here-formula _ _ _ _ (sym c.formulas.ensures ∙ c.if-formulas.true)

pub related_formula-returns-then-numbers_are_one : goal.related_formula-returns-then-numbers_are_one
related_formula-returns-then-numbers_are_one g t c =
    and_true _ _ _ (sym c.numbers_are_one.ensures ∙ c.if-numbers_are_one.true) c.related_int-then-numbers_are_one.ensures
    ∙ divides_test _ _ _ _ _ _ _ _ _ c.in-Divides.is c.in-Divides-seen.is (c.seen_of-seen.ensures ∙ ap (λ w. seen w (formula_tree c.args.right.now)) c.labels.ensures) (sym c.formulas.ensures ∙ c.if-formulas.false)

pub related_formula-returns-then-related_term-3 : goal.related_formula-returns-then-related_term-3
related_formula-returns-then-related_term-3 g t c =
    let lists : c.related_fields.result ≡ related_fields (list_tree c.in-Reach.fields) (g.E.Exchange.labels c.args.exchange.now) (g.E.Exchange.pairs c.args.exchange.now) (list_tree c.in-Reach-seen.other_fields)
    = c.related_fields.ensures ∙ (λ i. related_fields (list_tree (c.items.ensures i)) (g.E.Exchange.labels c.args.exchange.now) (g.E.Exchange.pairs c.args.exchange.now) (list_tree (c.items-in-Reach-seen.ensures i))) in
    let both : c.if-related_fields.value ≡ (related_fields (list_tree c.in-Reach.fields) (g.E.Exchange.labels c.args.exchange.now) (g.E.Exchange.pairs c.args.exchange.now) (list_tree c.in-Reach-seen.other_fields) && related_term (term_tree c.in-Reach.a) (g.E.Exchange.labels c.args.exchange.now) (g.E.Exchange.pairs c.args.exchange.now) (term_tree c.in-Reach-seen.other_a))
    = elim c.if-related_fields.branch [
      | related_formula-then-related_fields w ↦ and_true (related_fields (list_tree c.in-Reach.fields) (g.E.Exchange.labels c.args.exchange.now) (g.E.Exchange.pairs c.args.exchange.now) (list_tree c.in-Reach-seen.other_fields)) (related_term (term_tree c.in-Reach.a) (g.E.Exchange.labels c.args.exchange.now) (g.E.Exchange.pairs c.args.exchange.now) (term_tree c.in-Reach-seen.other_a)) c.if-related_fields.value (sym lists ∙ w.if-related_fields.true) (w.value-is ∙ w.related_term-then-related_fields.ensures)
      | related_formula-else-related_fields w ↦ and_stops (related_fields (list_tree c.in-Reach.fields) (g.E.Exchange.labels c.args.exchange.now) (g.E.Exchange.pairs c.args.exchange.now) (list_tree c.in-Reach-seen.other_fields)) (related_term (term_tree c.in-Reach.a) (g.E.Exchange.labels c.args.exchange.now) (g.E.Exchange.pairs c.args.exchange.now) (term_tree c.in-Reach-seen.other_a)) c.if-related_fields.value (sym lists ∙ w.if-related_fields.false) (w.value-is ∙ w.if-related_fields.false)
    ] in
    in_two (related_fields (list_tree c.in-Reach.fields) (g.E.Exchange.labels c.args.exchange.now) (g.E.Exchange.pairs c.args.exchange.now) (list_tree c.in-Reach-seen.other_fields)) (related_term (term_tree c.in-Reach.a) (g.E.Exchange.labels c.args.exchange.now) (g.E.Exchange.pairs c.args.exchange.now) (term_tree c.in-Reach-seen.other_a)) (related_term (term_tree c.in-Reach.b) (g.E.Exchange.labels c.args.exchange.now) (g.E.Exchange.pairs c.args.exchange.now) (term_tree c.in-Reach-seen.other_b)) c.if-related_fields.value c.related_term-then-related_term-3.result both c.related_term-then-related_term-3.ensures c.if-related_term-3.true
    ∙ reach_test _ _ _ _ _ _ _ _ _ _ _ c.in-Reach.is c.in-Reach-seen.is (c.seen_of-seen.ensures ∙ ap (λ w. seen w (formula_tree c.args.right.now)) c.labels.ensures) (sym c.formulas.ensures ∙ c.if-formulas.false)

pub related_formula-returns-else-related_term-3 : goal.related_formula-returns-else-related_term-3
related_formula-returns-else-related_term-3 g t c =
    let lists : c.related_fields.result ≡ related_fields (list_tree c.in-Reach.fields) (g.E.Exchange.labels c.args.exchange.now) (g.E.Exchange.pairs c.args.exchange.now) (list_tree c.in-Reach-seen.other_fields)
    = c.related_fields.ensures ∙ (λ i. related_fields (list_tree (c.items.ensures i)) (g.E.Exchange.labels c.args.exchange.now) (g.E.Exchange.pairs c.args.exchange.now) (list_tree (c.items-in-Reach-seen.ensures i))) in
    let both : c.if-related_fields.value ≡ (related_fields (list_tree c.in-Reach.fields) (g.E.Exchange.labels c.args.exchange.now) (g.E.Exchange.pairs c.args.exchange.now) (list_tree c.in-Reach-seen.other_fields) && related_term (term_tree c.in-Reach.a) (g.E.Exchange.labels c.args.exchange.now) (g.E.Exchange.pairs c.args.exchange.now) (term_tree c.in-Reach-seen.other_a))
    = elim c.if-related_fields.branch [
      | related_formula-then-related_fields w ↦ and_true (related_fields (list_tree c.in-Reach.fields) (g.E.Exchange.labels c.args.exchange.now) (g.E.Exchange.pairs c.args.exchange.now) (list_tree c.in-Reach-seen.other_fields)) (related_term (term_tree c.in-Reach.a) (g.E.Exchange.labels c.args.exchange.now) (g.E.Exchange.pairs c.args.exchange.now) (term_tree c.in-Reach-seen.other_a)) c.if-related_fields.value (sym lists ∙ w.if-related_fields.true) (w.value-is ∙ w.related_term-then-related_fields.ensures)
      | related_formula-else-related_fields w ↦ and_stops (related_fields (list_tree c.in-Reach.fields) (g.E.Exchange.labels c.args.exchange.now) (g.E.Exchange.pairs c.args.exchange.now) (list_tree c.in-Reach-seen.other_fields)) (related_term (term_tree c.in-Reach.a) (g.E.Exchange.labels c.args.exchange.now) (g.E.Exchange.pairs c.args.exchange.now) (term_tree c.in-Reach-seen.other_a)) c.if-related_fields.value (sym lists ∙ w.if-related_fields.false) (w.value-is ∙ w.if-related_fields.false)
    ] in
    in_one (related_fields (list_tree c.in-Reach.fields) (g.E.Exchange.labels c.args.exchange.now) (g.E.Exchange.pairs c.args.exchange.now) (list_tree c.in-Reach-seen.other_fields)) (related_term (term_tree c.in-Reach.a) (g.E.Exchange.labels c.args.exchange.now) (g.E.Exchange.pairs c.args.exchange.now) (term_tree c.in-Reach-seen.other_a)) (related_term (term_tree c.in-Reach.b) (g.E.Exchange.labels c.args.exchange.now) (g.E.Exchange.pairs c.args.exchange.now) (term_tree c.in-Reach-seen.other_b)) c.if-related_fields.value both c.if-related_term-3.false
    ∙ reach_test _ _ _ _ _ _ _ _ _ _ _ c.in-Reach.is c.in-Reach-seen.is (c.seen_of-seen.ensures ∙ ap (λ w. seen w (formula_tree c.args.right.now)) c.labels.ensures) (sym c.formulas.ensures ∙ c.if-formulas.false)

pub related_fields-returns-then-left-right : goal.related_fields-returns-then-left-right
related_fields-returns-then-left-right g t c = related_lengths _ _ _ _ c.if-left-right.true

pub related_fields-returns-then-not-related_field : goal.related_fields-returns-then-not-related_field
related_fields-returns-then-not-related_field g t c =
    stop _ _ _ _ _ c.loop-place.invariant.rest (related_step _ _ _ _ _ _ _ c.loop-place-test.true (omega arith) c.index-left-place.is c.index-right-place.is) c.related_field.ensures (search rules)

pub related_fields-loop-place-preserved : goal.related_fields-loop-place-preserved
related_fields-loop-place-preserved g t c = record {
  lengths = c.loop-place.invariant.lengths;
  rest = go_on _ _ _ _ _ c.loop-place.invariant.rest (related_step _ _ _ _ _ _ _ c.loop-place-test.true (omega arith) c.index-left-place.is c.index-right-place.is) c.related_field.ensures (search rules);
}

pub related_fields-returns : goal.related_fields-returns
related_fields-returns g t c = sym (c.loop-place.invariant.rest ∙ related_end _ _ _ _ _ c.loop-place-test.false (omega arith))
