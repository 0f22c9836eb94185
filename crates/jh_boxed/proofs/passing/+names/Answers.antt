-- Written by tools/walk_code.py.
use Rattle.std.proofs.Common.{sym, ap, ◌∙◌, rules}
use Rattle.jh_form.specs.Bare.{term_tree, int_tree, set_tree, field_tree, value_tree, formula_tree}
use Rattle.jh_form.specs.Passing.{term_passes, int_passes, set_passes, field_passes, value_passes, formula_passes}
use Rattle.jh_boxed.proofs.Rows.{pass_step, pass_end}
use Rattle.jh_boxed.proofs.Tests.{stop, go_on, both, fails}
use Rattle.jh_boxed.proofs.passing.+names.Goals as goal

pub names_fields-returns-then-not-names_field : goal.names_fields-returns-then-not-names_field
names_fields-returns-then-not-names_field g t c =
    stop _ _ _ _ _ c.loop-field.invariant (pass_step _ _ _ _ c.loop-field-test.true c.field-item.is) c.names_field.ensures (search rules)

pub names_fields-loop-field-preserved : goal.names_fields-loop-field-preserved
names_fields-loop-field-preserved g t c =
    go_on _ _ _ _ _ c.loop-field.invariant (pass_step _ _ _ _ c.loop-field-test.true c.field-item.is) c.names_field.ensures (search rules)

pub names_fields-returns : goal.names_fields-returns
names_fields-returns g t c = sym (c.loop-field.invariant ∙ pass_end _ _ _ c.loop-field-test.false)

pub names_term-returns-in-Bound : goal.names_term-returns-in-Bound
unfolding term_tree term_passes
names_term-returns-in-Bound g t c =
    let whole = ap (λ x. term_passes (term_tree x) (g.T.NameTest.test c.args.test.now)) c.in-Bound.is in
    sym whole

pub names_term-returns-in-Free : goal.names_term-returns-in-Free
unfolding term_tree term_passes
names_term-returns-in-Free g t c =
    let whole = ap (λ x. term_passes (term_tree x) (g.T.NameTest.test c.args.test.now)) c.in-Free.is in
    c.passes.ensures ∙ sym whole

pub names_term-returns-in-Null : goal.names_term-returns-in-Null
unfolding term_tree term_passes
names_term-returns-in-Null g t c =
    let whole = ap (λ x. term_passes (term_tree x) (g.T.NameTest.test c.args.test.now)) c.in-Null.is in
    sym whole

pub names_term-returns-then-names_field : goal.names_term-returns-then-names_field
unfolding term_tree term_passes
names_term-returns-then-names_field g t c =
    let whole = ap (λ x. term_passes (term_tree x) (g.T.NameTest.test c.args.test.now)) c.in-Read.is in
    both _ _ _ _ _ c.if-names_field.true (c.names_field.ensures ∙ ap (λ x. field_passes (field_tree x) (g.T.NameTest.test c.args.test.now)) c.deref.ensures) (c.names_term.ensures ∙ ap (λ x. term_passes (term_tree x) (g.T.NameTest.test c.args.test.now)) c.deref-then-names_field.ensures) whole

pub names_term-returns-else-names_field : goal.names_term-returns-else-names_field
unfolding term_tree term_passes
names_term-returns-else-names_field g t c =
    let whole = ap (λ x. term_passes (term_tree x) (g.T.NameTest.test c.args.test.now)) c.in-Read.is in
    fails _ _ _ _ c.if-names_field.false (c.names_field.ensures ∙ ap (λ x. field_passes (field_tree x) (g.T.NameTest.test c.args.test.now)) c.deref.ensures) whole

pub names_int-returns-in-Const : goal.names_int-returns-in-Const
unfolding int_tree int_passes
names_int-returns-in-Const g t c =
    let whole = ap (λ x. int_passes (int_tree x) (g.T.NameTest.test c.args.test.now)) c.in-Const.is in
    sym whole

pub names_int-returns-in-Free : goal.names_int-returns-in-Free
unfolding int_tree int_passes
names_int-returns-in-Free g t c =
    let whole = ap (λ x. int_passes (int_tree x) (g.T.NameTest.test c.args.test.now)) c.in-Free.is in
    c.passes.ensures ∙ sym whole

pub names_int-returns-then-names_field : goal.names_int-returns-then-names_field
unfolding int_tree int_passes
names_int-returns-then-names_field g t c =
    let whole = ap (λ x. int_passes (int_tree x) (g.T.NameTest.test c.args.test.now)) c.in-Read.is in
    both _ _ _ _ _ c.if-names_field.true (c.names_field.ensures ∙ ap (λ x. field_passes (field_tree x) (g.T.NameTest.test c.args.test.now)) c.deref.ensures) (c.names_term.ensures ∙ ap (λ x. term_passes (term_tree x) (g.T.NameTest.test c.args.test.now)) c.deref-then-names_field.ensures) whole

pub names_int-returns-else-names_field : goal.names_int-returns-else-names_field
unfolding int_tree int_passes
names_int-returns-else-names_field g t c =
    let whole = ap (λ x. int_passes (int_tree x) (g.T.NameTest.test c.args.test.now)) c.in-Read.is in
    fails _ _ _ _ c.if-names_field.false (c.names_field.ensures ∙ ap (λ x. field_passes (field_tree x) (g.T.NameTest.test c.args.test.now)) c.deref.ensures) whole

pub names_int-returns-then-names_int : goal.names_int-returns-then-names_int
unfolding int_tree int_passes
names_int-returns-then-names_int g t c =
    let whole = ap (λ x. int_passes (int_tree x) (g.T.NameTest.test c.args.test.now)) c.in-Add.is in
    both _ _ _ _ _ c.if-names_int.true (c.names_int.ensures ∙ ap (λ x. int_passes (int_tree x) (g.T.NameTest.test c.args.test.now)) c.deref-in-Add.ensures) (c.names_int-then-names_int.ensures ∙ ap (λ x. int_passes (int_tree x) (g.T.NameTest.test c.args.test.now)) c.deref-then-names_int.ensures) whole

pub names_int-returns-else-names_int : goal.names_int-returns-else-names_int
unfolding int_tree int_passes
names_int-returns-else-names_int g t c =
    let whole = ap (λ x. int_passes (int_tree x) (g.T.NameTest.test c.args.test.now)) c.in-Add.is in
    fails _ _ _ _ c.if-names_int.false (c.names_int.ensures ∙ ap (λ x. int_passes (int_tree x) (g.T.NameTest.test c.args.test.now)) c.deref-in-Add.ensures) whole

pub names_int-returns-then-names_int-2 : goal.names_int-returns-then-names_int-2
unfolding int_tree int_passes
names_int-returns-then-names_int-2 g t c =
    let whole = ap (λ x. int_passes (int_tree x) (g.T.NameTest.test c.args.test.now)) c.in-Sub.is in
    both _ _ _ _ _ c.if-names_int-2.true (c.names_int-in-Sub.ensures ∙ ap (λ x. int_passes (int_tree x) (g.T.NameTest.test c.args.test.now)) c.deref-in-Sub.ensures) (c.names_int-then-names_int-2.ensures ∙ ap (λ x. int_passes (int_tree x) (g.T.NameTest.test c.args.test.now)) c.deref-then-names_int-2.ensures) whole

pub names_int-returns-else-names_int-2 : goal.names_int-returns-else-names_int-2
unfolding int_tree int_passes
names_int-returns-else-names_int-2 g t c =
    let whole = ap (λ x. int_passes (int_tree x) (g.T.NameTest.test c.args.test.now)) c.in-Sub.is in
    fails _ _ _ _ c.if-names_int-2.false (c.names_int-in-Sub.ensures ∙ ap (λ x. int_passes (int_tree x) (g.T.NameTest.test c.args.test.now)) c.deref-in-Sub.ensures) whole

pub names_int-returns-in-Neg : goal.names_int-returns-in-Neg
unfolding int_tree int_passes
names_int-returns-in-Neg g t c =
    let whole = ap (λ x. int_passes (int_tree x) (g.T.NameTest.test c.args.test.now)) c.in-Neg.is in
    (c.names_int-in-Neg.ensures ∙ ap (λ x. int_passes (int_tree x) (g.T.NameTest.test c.args.test.now)) c.deref-in-Neg.ensures) ∙ sym whole

pub names_int-returns-in-Scale : goal.names_int-returns-in-Scale
unfolding int_tree int_passes
names_int-returns-in-Scale g t c =
    let whole = ap (λ x. int_passes (int_tree x) (g.T.NameTest.test c.args.test.now)) c.in-Scale.is in
    (c.names_int-in-Scale.ensures ∙ ap (λ x. int_passes (int_tree x) (g.T.NameTest.test c.args.test.now)) c.deref-in-Scale.ensures) ∙ sym whole

pub names_int-returns-in-Card : goal.names_int-returns-in-Card
unfolding int_tree int_passes
names_int-returns-in-Card g t c =
    let whole = ap (λ x. int_passes (int_tree x) (g.T.NameTest.test c.args.test.now)) c.in-Card.is in
    (c.names_set.ensures ∙ ap (λ x. set_passes (set_tree x) (g.T.NameTest.test c.args.test.now)) c.deref-in-Card.ensures) ∙ sym whole

pub names_set-returns-in-Free : goal.names_set-returns-in-Free
unfolding set_tree set_passes
names_set-returns-in-Free g t c =
    let whole = ap (λ x. set_passes (set_tree x) (g.T.NameTest.test c.args.test.now)) c.in-Free.is in
    c.passes.ensures ∙ sym whole

pub names_set-returns-then-names_field : goal.names_set-returns-then-names_field
unfolding set_tree set_passes
names_set-returns-then-names_field g t c =
    let whole = ap (λ x. set_passes (set_tree x) (g.T.NameTest.test c.args.test.now)) c.in-Read.is in
    both _ _ _ _ _ c.if-names_field.true (c.names_field.ensures ∙ ap (λ x. field_passes (field_tree x) (g.T.NameTest.test c.args.test.now)) c.deref.ensures) (c.names_term.ensures ∙ ap (λ x. term_passes (term_tree x) (g.T.NameTest.test c.args.test.now)) c.deref-then-names_field.ensures) whole

pub names_set-returns-else-names_field : goal.names_set-returns-else-names_field
unfolding set_tree set_passes
names_set-returns-else-names_field g t c =
    let whole = ap (λ x. set_passes (set_tree x) (g.T.NameTest.test c.args.test.now)) c.in-Read.is in
    fails _ _ _ _ c.if-names_field.false (c.names_field.ensures ∙ ap (λ x. field_passes (field_tree x) (g.T.NameTest.test c.args.test.now)) c.deref.ensures) whole

pub names_set-returns-in-Empty : goal.names_set-returns-in-Empty
unfolding set_tree set_passes
names_set-returns-in-Empty g t c =
    let whole = ap (λ x. set_passes (set_tree x) (g.T.NameTest.test c.args.test.now)) c.in-Empty.is in
    sym whole

pub names_set-returns-in-Univ : goal.names_set-returns-in-Univ
unfolding set_tree set_passes
names_set-returns-in-Univ g t c =
    let whole = ap (λ x. set_passes (set_tree x) (g.T.NameTest.test c.args.test.now)) c.in-Univ.is in
    sym whole

pub names_set-returns-in-Single : goal.names_set-returns-in-Single
unfolding set_tree set_passes
names_set-returns-in-Single g t c =
    let whole = ap (λ x. set_passes (set_tree x) (g.T.NameTest.test c.args.test.now)) c.in-Single.is in
    (c.names_term-in-Single.ensures ∙ ap (λ x. term_passes (term_tree x) (g.T.NameTest.test c.args.test.now)) c.deref-in-Single.ensures) ∙ sym whole

pub names_set-returns-then-names_set : goal.names_set-returns-then-names_set
unfolding set_tree set_passes
names_set-returns-then-names_set g t c =
    let whole = ap (λ x. set_passes (set_tree x) (g.T.NameTest.test c.args.test.now)) c.in-Union.is in
    both _ _ _ _ _ c.if-names_set.true (c.names_set.ensures ∙ ap (λ x. set_passes (set_tree x) (g.T.NameTest.test c.args.test.now)) c.deref-in-Union.ensures) (c.names_set-then-names_set.ensures ∙ ap (λ x. set_passes (set_tree x) (g.T.NameTest.test c.args.test.now)) c.deref-then-names_set.ensures) whole

pub names_set-returns-else-names_set : goal.names_set-returns-else-names_set
unfolding set_tree set_passes
names_set-returns-else-names_set g t c =
    let whole = ap (λ x. set_passes (set_tree x) (g.T.NameTest.test c.args.test.now)) c.in-Union.is in
    fails _ _ _ _ c.if-names_set.false (c.names_set.ensures ∙ ap (λ x. set_passes (set_tree x) (g.T.NameTest.test c.args.test.now)) c.deref-in-Union.ensures) whole

pub names_set-returns-then-names_set-2 : goal.names_set-returns-then-names_set-2
unfolding set_tree set_passes
names_set-returns-then-names_set-2 g t c =
    let whole = ap (λ x. set_passes (set_tree x) (g.T.NameTest.test c.args.test.now)) c.in-Inter.is in
    both _ _ _ _ _ c.if-names_set-2.true (c.names_set-in-Inter.ensures ∙ ap (λ x. set_passes (set_tree x) (g.T.NameTest.test c.args.test.now)) c.deref-in-Inter.ensures) (c.names_set-then-names_set-2.ensures ∙ ap (λ x. set_passes (set_tree x) (g.T.NameTest.test c.args.test.now)) c.deref-then-names_set-2.ensures) whole

pub names_set-returns-else-names_set-2 : goal.names_set-returns-else-names_set-2
unfolding set_tree set_passes
names_set-returns-else-names_set-2 g t c =
    let whole = ap (λ x. set_passes (set_tree x) (g.T.NameTest.test c.args.test.now)) c.in-Inter.is in
    fails _ _ _ _ c.if-names_set-2.false (c.names_set-in-Inter.ensures ∙ ap (λ x. set_passes (set_tree x) (g.T.NameTest.test c.args.test.now)) c.deref-in-Inter.ensures) whole

pub names_set-returns-then-names_set-3 : goal.names_set-returns-then-names_set-3
unfolding set_tree set_passes
names_set-returns-then-names_set-3 g t c =
    let whole = ap (λ x. set_passes (set_tree x) (g.T.NameTest.test c.args.test.now)) c.in-Diff.is in
    both _ _ _ _ _ c.if-names_set-3.true (c.names_set-in-Diff.ensures ∙ ap (λ x. set_passes (set_tree x) (g.T.NameTest.test c.args.test.now)) c.deref-in-Diff.ensures) (c.names_set-then-names_set-3.ensures ∙ ap (λ x. set_passes (set_tree x) (g.T.NameTest.test c.args.test.now)) c.deref-then-names_set-3.ensures) whole

pub names_set-returns-else-names_set-3 : goal.names_set-returns-else-names_set-3
unfolding set_tree set_passes
names_set-returns-else-names_set-3 g t c =
    let whole = ap (λ x. set_passes (set_tree x) (g.T.NameTest.test c.args.test.now)) c.in-Diff.is in
    fails _ _ _ _ c.if-names_set-3.false (c.names_set-in-Diff.ensures ∙ ap (λ x. set_passes (set_tree x) (g.T.NameTest.test c.args.test.now)) c.deref-in-Diff.ensures) whole

pub names_set-returns-in-Compl : goal.names_set-returns-in-Compl
unfolding set_tree set_passes
names_set-returns-in-Compl g t c =
    let whole = ap (λ x. set_passes (set_tree x) (g.T.NameTest.test c.args.test.now)) c.in-Compl.is in
    (c.names_set-in-Compl.ensures ∙ ap (λ x. set_passes (set_tree x) (g.T.NameTest.test c.args.test.now)) c.deref-in-Compl.ensures) ∙ sym whole

pub names_set-returns-in-Compr : goal.names_set-returns-in-Compr
unfolding set_tree set_passes
names_set-returns-in-Compr g t c =
    let whole = ap (λ x. set_passes (set_tree x) (g.T.NameTest.test c.args.test.now)) c.in-Compr.is in
    (c.names_formula.ensures ∙ ap (λ x. formula_passes (formula_tree x) (g.T.NameTest.test c.args.test.now)) c.deref-in-Compr.ensures) ∙ sym whole

pub names_field-returns-in-Free : goal.names_field-returns-in-Free
unfolding field_tree field_passes
names_field-returns-in-Free g t c =
    let whole = ap (λ x. field_passes (field_tree x) (g.T.NameTest.test c.args.test.now)) c.in-Free.is in
    c.passes.ensures ∙ sym whole

pub names_value-returns-in-Obj : goal.names_value-returns-in-Obj
unfolding value_tree value_passes
names_value-returns-in-Obj g t c =
    let whole = ap (λ x. value_passes (value_tree x) (g.T.NameTest.test c.args.test.now)) c.in-Obj.is in
    c.names_term.ensures ∙ sym whole

pub names_value-returns-in-Int : goal.names_value-returns-in-Int
unfolding value_tree value_passes
names_value-returns-in-Int g t c =
    let whole = ap (λ x. value_passes (value_tree x) (g.T.NameTest.test c.args.test.now)) c.in-Int.is in
    c.names_int.ensures ∙ sym whole

pub names_value-returns-in-Bool : goal.names_value-returns-in-Bool
unfolding value_tree value_passes
names_value-returns-in-Bool g t c =
    let whole = ap (λ x. value_passes (value_tree x) (g.T.NameTest.test c.args.test.now)) c.in-Bool.is in
    c.names_formula.ensures ∙ sym whole

pub names_value-returns-in-Set : goal.names_value-returns-in-Set
unfolding value_tree value_passes
names_value-returns-in-Set g t c =
    let whole = ap (λ x. value_passes (value_tree x) (g.T.NameTest.test c.args.test.now)) c.in-Set.is in
    c.names_set.ensures ∙ sym whole

pub names_value-returns-in-Field : goal.names_value-returns-in-Field
unfolding value_tree value_passes
names_value-returns-in-Field g t c =
    let whole = ap (λ x. value_passes (value_tree x) (g.T.NameTest.test c.args.test.now)) c.in-Field.is in
    c.names_field.ensures ∙ sym whole

pub names_formula-returns-in-True : goal.names_formula-returns-in-True
unfolding formula_tree formula_passes
names_formula-returns-in-True g t c =
    let whole = ap (λ x. formula_passes (formula_tree x) (g.T.NameTest.test c.args.test.now)) c.in-True.is in
    sym whole

pub names_formula-returns-in-False : goal.names_formula-returns-in-False
unfolding formula_tree formula_passes
names_formula-returns-in-False g t c =
    let whole = ap (λ x. formula_passes (formula_tree x) (g.T.NameTest.test c.args.test.now)) c.in-False.is in
    sym whole

pub names_formula-returns-in-Free : goal.names_formula-returns-in-Free
unfolding formula_tree formula_passes
names_formula-returns-in-Free g t c =
    let whole = ap (λ x. formula_passes (formula_tree x) (g.T.NameTest.test c.args.test.now)) c.in-Free.is in
    c.passes.ensures ∙ sym whole

pub names_formula-returns-then-names_field : goal.names_formula-returns-then-names_field
unfolding formula_tree formula_passes
names_formula-returns-then-names_field g t c =
    let whole = ap (λ x. formula_passes (formula_tree x) (g.T.NameTest.test c.args.test.now)) c.in-Read.is in
    both _ _ _ _ _ c.if-names_field.true (c.names_field.ensures ∙ ap (λ x. field_passes (field_tree x) (g.T.NameTest.test c.args.test.now)) c.deref.ensures) (c.names_term.ensures ∙ ap (λ x. term_passes (term_tree x) (g.T.NameTest.test c.args.test.now)) c.deref-then-names_field.ensures) whole

pub names_formula-returns-else-names_field : goal.names_formula-returns-else-names_field
unfolding formula_tree formula_passes
names_formula-returns-else-names_field g t c =
    let whole = ap (λ x. formula_passes (formula_tree x) (g.T.NameTest.test c.args.test.now)) c.in-Read.is in
    fails _ _ _ _ c.if-names_field.false (c.names_field.ensures ∙ ap (λ x. field_passes (field_tree x) (g.T.NameTest.test c.args.test.now)) c.deref.ensures) whole

pub names_formula-returns-in-Not : goal.names_formula-returns-in-Not
unfolding formula_tree formula_passes
names_formula-returns-in-Not g t c =
    let whole = ap (λ x. formula_passes (formula_tree x) (g.T.NameTest.test c.args.test.now)) c.in-Not.is in
    (c.names_formula.ensures ∙ ap (λ x. formula_passes (formula_tree x) (g.T.NameTest.test c.args.test.now)) c.deref-in-Not.ensures) ∙ sym whole

pub names_formula-returns-then-names_formula : goal.names_formula-returns-then-names_formula
unfolding formula_tree formula_passes
names_formula-returns-then-names_formula g t c =
    let whole = ap (λ x. formula_passes (formula_tree x) (g.T.NameTest.test c.args.test.now)) c.in-And.is in
    both _ _ _ _ _ c.if-names_formula.true (c.names_formula-in-And.ensures ∙ ap (λ x. formula_passes (formula_tree x) (g.T.NameTest.test c.args.test.now)) c.deref-in-And.ensures) (c.names_formula-then-names_formula.ensures ∙ ap (λ x. formula_passes (formula_tree x) (g.T.NameTest.test c.args.test.now)) c.deref-then-names_formula.ensures) whole

pub names_formula-returns-else-names_formula : goal.names_formula-returns-else-names_formula
unfolding formula_tree formula_passes
names_formula-returns-else-names_formula g t c =
    let whole = ap (λ x. formula_passes (formula_tree x) (g.T.NameTest.test c.args.test.now)) c.in-And.is in
    fails _ _ _ _ c.if-names_formula.false (c.names_formula-in-And.ensures ∙ ap (λ x. formula_passes (formula_tree x) (g.T.NameTest.test c.args.test.now)) c.deref-in-And.ensures) whole

pub names_formula-returns-then-names_formula-2 : goal.names_formula-returns-then-names_formula-2
unfolding formula_tree formula_passes
names_formula-returns-then-names_formula-2 g t c =
    let whole = ap (λ x. formula_passes (formula_tree x) (g.T.NameTest.test c.args.test.now)) c.in-Or.is in
    both _ _ _ _ _ c.if-names_formula-2.true (c.names_formula-in-Or.ensures ∙ ap (λ x. formula_passes (formula_tree x) (g.T.NameTest.test c.args.test.now)) c.deref-in-Or.ensures) (c.names_formula-then-names_formula-2.ensures ∙ ap (λ x. formula_passes (formula_tree x) (g.T.NameTest.test c.args.test.now)) c.deref-then-names_formula-2.ensures) whole

pub names_formula-returns-else-names_formula-2 : goal.names_formula-returns-else-names_formula-2
unfolding formula_tree formula_passes
names_formula-returns-else-names_formula-2 g t c =
    let whole = ap (λ x. formula_passes (formula_tree x) (g.T.NameTest.test c.args.test.now)) c.in-Or.is in
    fails _ _ _ _ c.if-names_formula-2.false (c.names_formula-in-Or.ensures ∙ ap (λ x. formula_passes (formula_tree x) (g.T.NameTest.test c.args.test.now)) c.deref-in-Or.ensures) whole

pub names_formula-returns-then-names_formula-3 : goal.names_formula-returns-then-names_formula-3
unfolding formula_tree formula_passes
names_formula-returns-then-names_formula-3 g t c =
    let whole = ap (λ x. formula_passes (formula_tree x) (g.T.NameTest.test c.args.test.now)) c.in-Implies.is in
    both _ _ _ _ _ c.if-names_formula-3.true (c.names_formula-in-Implies.ensures ∙ ap (λ x. formula_passes (formula_tree x) (g.T.NameTest.test c.args.test.now)) c.deref-in-Implies.ensures) (c.names_formula-then-names_formula-3.ensures ∙ ap (λ x. formula_passes (formula_tree x) (g.T.NameTest.test c.args.test.now)) c.deref-then-names_formula-3.ensures) whole

pub names_formula-returns-else-names_formula-3 : goal.names_formula-returns-else-names_formula-3
unfolding formula_tree formula_passes
names_formula-returns-else-names_formula-3 g t c =
    let whole = ap (λ x. formula_passes (formula_tree x) (g.T.NameTest.test c.args.test.now)) c.in-Implies.is in
    fails _ _ _ _ c.if-names_formula-3.false (c.names_formula-in-Implies.ensures ∙ ap (λ x. formula_passes (formula_tree x) (g.T.NameTest.test c.args.test.now)) c.deref-in-Implies.ensures) whole

pub names_formula-returns-then-names_formula-4 : goal.names_formula-returns-then-names_formula-4
unfolding formula_tree formula_passes
names_formula-returns-then-names_formula-4 g t c =
    let whole = ap (λ x. formula_passes (formula_tree x) (g.T.NameTest.test c.args.test.now)) c.in-Iff.is in
    both _ _ _ _ _ c.if-names_formula-4.true (c.names_formula-in-Iff.ensures ∙ ap (λ x. formula_passes (formula_tree x) (g.T.NameTest.test c.args.test.now)) c.deref-in-Iff.ensures) (c.names_formula-then-names_formula-4.ensures ∙ ap (λ x. formula_passes (formula_tree x) (g.T.NameTest.test c.args.test.now)) c.deref-then-names_formula-4.ensures) whole

pub names_formula-returns-else-names_formula-4 : goal.names_formula-returns-else-names_formula-4
unfolding formula_tree formula_passes
names_formula-returns-else-names_formula-4 g t c =
    let whole = ap (λ x. formula_passes (formula_tree x) (g.T.NameTest.test c.args.test.now)) c.in-Iff.is in
    fails _ _ _ _ c.if-names_formula-4.false (c.names_formula-in-Iff.ensures ∙ ap (λ x. formula_passes (formula_tree x) (g.T.NameTest.test c.args.test.now)) c.deref-in-Iff.ensures) whole

pub names_formula-returns-in-All : goal.names_formula-returns-in-All
unfolding formula_tree formula_passes
names_formula-returns-in-All g t c =
    let whole = ap (λ x. formula_passes (formula_tree x) (g.T.NameTest.test c.args.test.now)) c.in-All.is in
    (c.names_formula-in-All.ensures ∙ ap (λ x. formula_passes (formula_tree x) (g.T.NameTest.test c.args.test.now)) c.deref-in-All.ensures) ∙ sym whole

pub names_formula-returns-in-Ex : goal.names_formula-returns-in-Ex
unfolding formula_tree formula_passes
names_formula-returns-in-Ex g t c =
    let whole = ap (λ x. formula_passes (formula_tree x) (g.T.NameTest.test c.args.test.now)) c.in-Ex.is in
    (c.names_formula-in-Ex.ensures ∙ ap (λ x. formula_passes (formula_tree x) (g.T.NameTest.test c.args.test.now)) c.deref-in-Ex.ensures) ∙ sym whole

pub names_formula-returns-then-names_term : goal.names_formula-returns-then-names_term
unfolding formula_tree formula_passes
names_formula-returns-then-names_term g t c =
    let whole = ap (λ x. formula_passes (formula_tree x) (g.T.NameTest.test c.args.test.now)) c.in-EqObj.is in
    both _ _ _ _ _ c.if-names_term.true c.names_term-in-EqObj.ensures c.names_term-then-names_term.ensures whole

pub names_formula-returns-else-names_term : goal.names_formula-returns-else-names_term
unfolding formula_tree formula_passes
names_formula-returns-else-names_term g t c =
    let whole = ap (λ x. formula_passes (formula_tree x) (g.T.NameTest.test c.args.test.now)) c.in-EqObj.is in
    fails _ _ _ _ c.if-names_term.false c.names_term-in-EqObj.ensures whole

pub names_formula-returns-then-names_int : goal.names_formula-returns-then-names_int
unfolding formula_tree formula_passes
names_formula-returns-then-names_int g t c =
    let whole = ap (λ x. formula_passes (formula_tree x) (g.T.NameTest.test c.args.test.now)) c.in-EqInt.is in
    both _ _ _ _ _ c.if-names_int.true c.names_int.ensures c.names_int-then-names_int.ensures whole

pub names_formula-returns-else-names_int : goal.names_formula-returns-else-names_int
unfolding formula_tree formula_passes
names_formula-returns-else-names_int g t c =
    let whole = ap (λ x. formula_passes (formula_tree x) (g.T.NameTest.test c.args.test.now)) c.in-EqInt.is in
    fails _ _ _ _ c.if-names_int.false c.names_int.ensures whole

pub names_formula-returns-then-names_set : goal.names_formula-returns-then-names_set
unfolding formula_tree formula_passes
names_formula-returns-then-names_set g t c =
    let whole = ap (λ x. formula_passes (formula_tree x) (g.T.NameTest.test c.args.test.now)) c.in-EqSet.is in
    both _ _ _ _ _ c.if-names_set.true c.names_set.ensures c.names_set-then-names_set.ensures whole

pub names_formula-returns-else-names_set : goal.names_formula-returns-else-names_set
unfolding formula_tree formula_passes
names_formula-returns-else-names_set g t c =
    let whole = ap (λ x. formula_passes (formula_tree x) (g.T.NameTest.test c.args.test.now)) c.in-EqSet.is in
    fails _ _ _ _ c.if-names_set.false c.names_set.ensures whole

pub names_formula-returns-then-names_int-2 : goal.names_formula-returns-then-names_int-2
unfolding formula_tree formula_passes
names_formula-returns-then-names_int-2 g t c =
    let whole = ap (λ x. formula_passes (formula_tree x) (g.T.NameTest.test c.args.test.now)) c.in-Less.is in
    both _ _ _ _ _ c.if-names_int-2.true c.names_int-in-Less.ensures c.names_int-then-names_int-2.ensures whole

pub names_formula-returns-else-names_int-2 : goal.names_formula-returns-else-names_int-2
unfolding formula_tree formula_passes
names_formula-returns-else-names_int-2 g t c =
    let whole = ap (λ x. formula_passes (formula_tree x) (g.T.NameTest.test c.args.test.now)) c.in-Less.is in
    fails _ _ _ _ c.if-names_int-2.false c.names_int-in-Less.ensures whole

pub names_formula-returns-then-names_int-3 : goal.names_formula-returns-then-names_int-3
unfolding formula_tree formula_passes
names_formula-returns-then-names_int-3 g t c =
    let whole = ap (λ x. formula_passes (formula_tree x) (g.T.NameTest.test c.args.test.now)) c.in-LessEq.is in
    both _ _ _ _ _ c.if-names_int-3.true c.names_int-in-LessEq.ensures c.names_int-then-names_int-3.ensures whole

pub names_formula-returns-else-names_int-3 : goal.names_formula-returns-else-names_int-3
unfolding formula_tree formula_passes
names_formula-returns-else-names_int-3 g t c =
    let whole = ap (λ x. formula_passes (formula_tree x) (g.T.NameTest.test c.args.test.now)) c.in-LessEq.is in
    fails _ _ _ _ c.if-names_int-3.false c.names_int-in-LessEq.ensures whole

pub names_formula-returns-in-Divides : goal.names_formula-returns-in-Divides
unfolding formula_tree formula_passes
names_formula-returns-in-Divides g t c =
    let whole = ap (λ x. formula_passes (formula_tree x) (g.T.NameTest.test c.args.test.now)) c.in-Divides.is in
    c.names_int-in-Divides.ensures ∙ sym whole

pub names_formula-returns-then-names_term-2 : goal.names_formula-returns-then-names_term-2
unfolding formula_tree formula_passes
names_formula-returns-then-names_term-2 g t c =
    let whole = ap (λ x. formula_passes (formula_tree x) (g.T.NameTest.test c.args.test.now)) c.in-Member.is in
    both _ _ _ _ _ c.if-names_term-2.true c.names_term-in-Member.ensures c.names_set-then-names_term-2.ensures whole

pub names_formula-returns-else-names_term-2 : goal.names_formula-returns-else-names_term-2
unfolding formula_tree formula_passes
names_formula-returns-else-names_term-2 g t c =
    let whole = ap (λ x. formula_passes (formula_tree x) (g.T.NameTest.test c.args.test.now)) c.in-Member.is in
    fails _ _ _ _ c.if-names_term-2.false c.names_term-in-Member.ensures whole

pub names_formula-returns-then-names_set-2 : goal.names_formula-returns-then-names_set-2
unfolding formula_tree formula_passes
names_formula-returns-then-names_set-2 g t c =
    let whole = ap (λ x. formula_passes (formula_tree x) (g.T.NameTest.test c.args.test.now)) c.in-Subset.is in
    both _ _ _ _ _ c.if-names_set-2.true c.names_set-in-Subset.ensures c.names_set-then-names_set-2.ensures whole

pub names_formula-returns-else-names_set-2 : goal.names_formula-returns-else-names_set-2
unfolding formula_tree formula_passes
names_formula-returns-else-names_set-2 g t c =
    let whole = ap (λ x. formula_passes (formula_tree x) (g.T.NameTest.test c.args.test.now)) c.in-Subset.is in
    fails _ _ _ _ c.if-names_set-2.false c.names_set-in-Subset.ensures whole

pub names_formula-returns-in-Mark : goal.names_formula-returns-in-Mark
unfolding formula_tree formula_passes
names_formula-returns-in-Mark g t c =
    let whole = ap (λ x. formula_passes (formula_tree x) (g.T.NameTest.test c.args.test.now)) c.in-Mark.is in
    (c.names_formula-in-Mark.ensures ∙ ap (λ x. formula_passes (formula_tree x) (g.T.NameTest.test c.args.test.now)) c.deref-in-Mark.ensures) ∙ sym whole
