-- Written by tools/walk_code.py.
use Rattle.std.proofs.Common.{ap, sym, ◌∙◌, min, arith}
use Rattle.jh_form.specs.Bare.{term_tree, int_tree, set_tree, field_tree, value_tree, formula_tree}
use Rattle.jh_boxed.specs.Sizes.{term_size, int_size, set_size, field_size, value_size, formula_size, term_depth, int_depth, set_depth, field_depth, value_depth, formula_depth}
use Rattle.jh_boxed.proofs.Extents.{most, leaf, sum_one, sum_two, sum_three, deep_one, deep_two, deep_three, sum_step, deep_step, sum_end, deep_end}
use Rattle.jh_boxed.proofs.Rows.{rest_size, rest_depth, end_size, end_depth}
use Rattle.jh_boxed.proofs.extent.+extent.Goals as goal

pub extent_fields-loop-field-preserved : goal.extent_fields-loop-field-preserved
extent_fields-loop-field-preserved t c = record {
  nodes_fit = omega arith;
  depth_fits = omega arith;
  nodes = sum_step _ _ _ _ _ _ _ _ c.loop-field.invariant.nodes (rest_size _ _ _ c.loop-field-test.true c.field-item.is) c.extent_field.ensures.nodes c.beside-all.ensures.nodes;
  depth = deep_step _ _ _ _ _ _ _ _ c.loop-field.invariant.depth (rest_depth _ _ _ c.loop-field-test.true c.field-item.is) c.extent_field.ensures.depth c.beside-all.ensures.depth;
}

pub extent_fields-returns-clause-nodes : goal.extent_fields-returns-clause-nodes
extent_fields-returns-clause-nodes t c =
    sum_end _ _ _ _ c.loop-field.invariant.nodes_fit c.loop-field.invariant.nodes (end_size _ _ c.loop-field-test.false)

pub extent_fields-returns-clause-depth : goal.extent_fields-returns-clause-depth
extent_fields-returns-clause-depth t c =
    deep_end _ _ _ _ c.loop-field.invariant.depth_fits c.loop-field.invariant.depth (end_depth _ _ c.loop-field-test.false)

pub extent_term-returns-in-Bound-clause-nodes : goal.extent_term-returns-in-Bound-clause-nodes
unfolding term_tree term_size
extent_term-returns-in-Bound-clause-nodes t c = leaf _ (ap (λ x. term_size (term_tree x)) c.in-Bound.is)

pub extent_term-returns-in-Bound-clause-depth : goal.extent_term-returns-in-Bound-clause-depth
unfolding term_tree term_depth
extent_term-returns-in-Bound-clause-depth t c = leaf _ (ap (λ x. term_depth (term_tree x)) c.in-Bound.is)

pub extent_term-returns-in-Free-clause-nodes : goal.extent_term-returns-in-Free-clause-nodes
unfolding term_tree term_size
extent_term-returns-in-Free-clause-nodes t c = leaf _ (ap (λ x. term_size (term_tree x)) c.in-Free.is)

pub extent_term-returns-in-Free-clause-depth : goal.extent_term-returns-in-Free-clause-depth
unfolding term_tree term_depth
extent_term-returns-in-Free-clause-depth t c = leaf _ (ap (λ x. term_depth (term_tree x)) c.in-Free.is)

pub extent_term-returns-in-Null-clause-nodes : goal.extent_term-returns-in-Null-clause-nodes
unfolding term_tree term_size
extent_term-returns-in-Null-clause-nodes t c = leaf _ (ap (λ x. term_size (term_tree x)) c.in-Null.is)

pub extent_term-returns-in-Null-clause-depth : goal.extent_term-returns-in-Null-clause-depth
unfolding term_tree term_depth
extent_term-returns-in-Null-clause-depth t c = leaf _ (ap (λ x. term_depth (term_tree x)) c.in-Null.is)

pub extent_term-returns-in-Read-clause-nodes : goal.extent_term-returns-in-Read-clause-nodes
unfolding term_tree term_size
extent_term-returns-in-Read-clause-nodes t c = sum_two _ _ _ _ _ _ _ c.over.ensures.nodes c.beside.ensures.nodes (c.extent_term.ensures.nodes ∙ ap (λ x. min (term_size (term_tree x)) most) c.deref-in-Read.ensures) (c.extent_field.ensures.nodes ∙ ap (λ x. min (field_size (field_tree x)) most) c.deref.ensures) (ap (λ x. term_size (term_tree x)) c.in-Read.is)

pub extent_term-returns-in-Read-clause-depth : goal.extent_term-returns-in-Read-clause-depth
unfolding term_tree term_depth
extent_term-returns-in-Read-clause-depth t c = deep_two _ _ _ _ _ _ _ c.over.ensures.depth c.beside.ensures.depth (c.extent_term.ensures.depth ∙ ap (λ x. min (term_depth (term_tree x)) most) c.deref-in-Read.ensures) (c.extent_field.ensures.depth ∙ ap (λ x. min (field_depth (field_tree x)) most) c.deref.ensures) (ap (λ x. term_depth (term_tree x)) c.in-Read.is)

pub extent_int-returns-in-Const-clause-nodes : goal.extent_int-returns-in-Const-clause-nodes
unfolding int_tree int_size
extent_int-returns-in-Const-clause-nodes t c = leaf _ (ap (λ x. int_size (int_tree x)) c.in-Const.is)

pub extent_int-returns-in-Const-clause-depth : goal.extent_int-returns-in-Const-clause-depth
unfolding int_tree int_depth
extent_int-returns-in-Const-clause-depth t c = leaf _ (ap (λ x. int_depth (int_tree x)) c.in-Const.is)

pub extent_int-returns-in-Free-clause-nodes : goal.extent_int-returns-in-Free-clause-nodes
unfolding int_tree int_size
extent_int-returns-in-Free-clause-nodes t c = leaf _ (ap (λ x. int_size (int_tree x)) c.in-Free.is)

pub extent_int-returns-in-Free-clause-depth : goal.extent_int-returns-in-Free-clause-depth
unfolding int_tree int_depth
extent_int-returns-in-Free-clause-depth t c = leaf _ (ap (λ x. int_depth (int_tree x)) c.in-Free.is)

pub extent_int-returns-in-Read-clause-nodes : goal.extent_int-returns-in-Read-clause-nodes
unfolding int_tree int_size
extent_int-returns-in-Read-clause-nodes t c = sum_two _ _ _ _ _ _ _ c.over.ensures.nodes c.beside.ensures.nodes (c.extent_term.ensures.nodes ∙ ap (λ x. min (term_size (term_tree x)) most) c.deref-in-Read.ensures) (c.extent_field.ensures.nodes ∙ ap (λ x. min (field_size (field_tree x)) most) c.deref.ensures) (ap (λ x. int_size (int_tree x)) c.in-Read.is)

pub extent_int-returns-in-Read-clause-depth : goal.extent_int-returns-in-Read-clause-depth
unfolding int_tree int_depth
extent_int-returns-in-Read-clause-depth t c = deep_two _ _ _ _ _ _ _ c.over.ensures.depth c.beside.ensures.depth (c.extent_term.ensures.depth ∙ ap (λ x. min (term_depth (term_tree x)) most) c.deref-in-Read.ensures) (c.extent_field.ensures.depth ∙ ap (λ x. min (field_depth (field_tree x)) most) c.deref.ensures) (ap (λ x. int_depth (int_tree x)) c.in-Read.is)

pub extent_int-returns-in-Add-clause-nodes : goal.extent_int-returns-in-Add-clause-nodes
unfolding int_tree int_size
extent_int-returns-in-Add-clause-nodes t c = sum_two _ _ _ _ _ _ _ c.over-in-Add.ensures.nodes c.beside-in-Add.ensures.nodes (c.extent_int-in-Add.ensures.nodes ∙ ap (λ x. min (int_size (int_tree x)) most) c.deref-in-Add-2.ensures) (c.extent_int.ensures.nodes ∙ ap (λ x. min (int_size (int_tree x)) most) c.deref-in-Add.ensures) (ap (λ x. int_size (int_tree x)) c.in-Add.is)

pub extent_int-returns-in-Add-clause-depth : goal.extent_int-returns-in-Add-clause-depth
unfolding int_tree int_depth
extent_int-returns-in-Add-clause-depth t c = deep_two _ _ _ _ _ _ _ c.over-in-Add.ensures.depth c.beside-in-Add.ensures.depth (c.extent_int-in-Add.ensures.depth ∙ ap (λ x. min (int_depth (int_tree x)) most) c.deref-in-Add-2.ensures) (c.extent_int.ensures.depth ∙ ap (λ x. min (int_depth (int_tree x)) most) c.deref-in-Add.ensures) (ap (λ x. int_depth (int_tree x)) c.in-Add.is)

pub extent_int-returns-in-Sub-clause-nodes : goal.extent_int-returns-in-Sub-clause-nodes
unfolding int_tree int_size
extent_int-returns-in-Sub-clause-nodes t c = sum_two _ _ _ _ _ _ _ c.over-in-Sub.ensures.nodes c.beside-in-Sub.ensures.nodes (c.extent_int-in-Sub-2.ensures.nodes ∙ ap (λ x. min (int_size (int_tree x)) most) c.deref-in-Sub-2.ensures) (c.extent_int-in-Sub.ensures.nodes ∙ ap (λ x. min (int_size (int_tree x)) most) c.deref-in-Sub.ensures) (ap (λ x. int_size (int_tree x)) c.in-Sub.is)

pub extent_int-returns-in-Sub-clause-depth : goal.extent_int-returns-in-Sub-clause-depth
unfolding int_tree int_depth
extent_int-returns-in-Sub-clause-depth t c = deep_two _ _ _ _ _ _ _ c.over-in-Sub.ensures.depth c.beside-in-Sub.ensures.depth (c.extent_int-in-Sub-2.ensures.depth ∙ ap (λ x. min (int_depth (int_tree x)) most) c.deref-in-Sub-2.ensures) (c.extent_int-in-Sub.ensures.depth ∙ ap (λ x. min (int_depth (int_tree x)) most) c.deref-in-Sub.ensures) (ap (λ x. int_depth (int_tree x)) c.in-Sub.is)

pub extent_int-returns-in-Neg-clause-nodes : goal.extent_int-returns-in-Neg-clause-nodes
unfolding int_tree int_size
extent_int-returns-in-Neg-clause-nodes t c = sum_one _ _ _ _ c.over-in-Neg.ensures.nodes (c.extent_int-in-Neg.ensures.nodes ∙ ap (λ x. min (int_size (int_tree x)) most) c.deref-in-Neg.ensures) (ap (λ x. int_size (int_tree x)) c.in-Neg.is)

pub extent_int-returns-in-Neg-clause-depth : goal.extent_int-returns-in-Neg-clause-depth
unfolding int_tree int_depth
extent_int-returns-in-Neg-clause-depth t c = deep_one _ _ _ _ c.over-in-Neg.ensures.depth (c.extent_int-in-Neg.ensures.depth ∙ ap (λ x. min (int_depth (int_tree x)) most) c.deref-in-Neg.ensures) (ap (λ x. int_depth (int_tree x)) c.in-Neg.is)

pub extent_int-returns-in-Scale-clause-nodes : goal.extent_int-returns-in-Scale-clause-nodes
unfolding int_tree int_size
extent_int-returns-in-Scale-clause-nodes t c = sum_one _ _ _ _ c.over-in-Scale.ensures.nodes (c.extent_int-in-Scale.ensures.nodes ∙ ap (λ x. min (int_size (int_tree x)) most) c.deref-in-Scale.ensures) (ap (λ x. int_size (int_tree x)) c.in-Scale.is)

pub extent_int-returns-in-Scale-clause-depth : goal.extent_int-returns-in-Scale-clause-depth
unfolding int_tree int_depth
extent_int-returns-in-Scale-clause-depth t c = deep_one _ _ _ _ c.over-in-Scale.ensures.depth (c.extent_int-in-Scale.ensures.depth ∙ ap (λ x. min (int_depth (int_tree x)) most) c.deref-in-Scale.ensures) (ap (λ x. int_depth (int_tree x)) c.in-Scale.is)

pub extent_int-returns-in-Card-clause-nodes : goal.extent_int-returns-in-Card-clause-nodes
unfolding int_tree int_size
extent_int-returns-in-Card-clause-nodes t c = sum_one _ _ _ _ c.over-in-Card.ensures.nodes (c.extent_set.ensures.nodes ∙ ap (λ x. min (set_size (set_tree x)) most) c.deref-in-Card.ensures) (ap (λ x. int_size (int_tree x)) c.in-Card.is)

pub extent_int-returns-in-Card-clause-depth : goal.extent_int-returns-in-Card-clause-depth
unfolding int_tree int_depth
extent_int-returns-in-Card-clause-depth t c = deep_one _ _ _ _ c.over-in-Card.ensures.depth (c.extent_set.ensures.depth ∙ ap (λ x. min (set_depth (set_tree x)) most) c.deref-in-Card.ensures) (ap (λ x. int_depth (int_tree x)) c.in-Card.is)

pub extent_set-returns-in-Free-clause-nodes : goal.extent_set-returns-in-Free-clause-nodes
unfolding set_tree set_size
extent_set-returns-in-Free-clause-nodes t c = leaf _ (ap (λ x. set_size (set_tree x)) c.in-Free.is)

pub extent_set-returns-in-Free-clause-depth : goal.extent_set-returns-in-Free-clause-depth
unfolding set_tree set_depth
extent_set-returns-in-Free-clause-depth t c = leaf _ (ap (λ x. set_depth (set_tree x)) c.in-Free.is)

pub extent_set-returns-in-Read-clause-nodes : goal.extent_set-returns-in-Read-clause-nodes
unfolding set_tree set_size
extent_set-returns-in-Read-clause-nodes t c = sum_two _ _ _ _ _ _ _ c.over.ensures.nodes c.beside.ensures.nodes (c.extent_term.ensures.nodes ∙ ap (λ x. min (term_size (term_tree x)) most) c.deref-in-Read.ensures) (c.extent_field.ensures.nodes ∙ ap (λ x. min (field_size (field_tree x)) most) c.deref.ensures) (ap (λ x. set_size (set_tree x)) c.in-Read.is)

pub extent_set-returns-in-Read-clause-depth : goal.extent_set-returns-in-Read-clause-depth
unfolding set_tree set_depth
extent_set-returns-in-Read-clause-depth t c = deep_two _ _ _ _ _ _ _ c.over.ensures.depth c.beside.ensures.depth (c.extent_term.ensures.depth ∙ ap (λ x. min (term_depth (term_tree x)) most) c.deref-in-Read.ensures) (c.extent_field.ensures.depth ∙ ap (λ x. min (field_depth (field_tree x)) most) c.deref.ensures) (ap (λ x. set_depth (set_tree x)) c.in-Read.is)

pub extent_set-returns-in-Empty-clause-nodes : goal.extent_set-returns-in-Empty-clause-nodes
unfolding set_tree set_size
extent_set-returns-in-Empty-clause-nodes t c = leaf _ (ap (λ x. set_size (set_tree x)) c.in-Empty.is)

pub extent_set-returns-in-Empty-clause-depth : goal.extent_set-returns-in-Empty-clause-depth
unfolding set_tree set_depth
extent_set-returns-in-Empty-clause-depth t c = leaf _ (ap (λ x. set_depth (set_tree x)) c.in-Empty.is)

pub extent_set-returns-in-Univ-clause-nodes : goal.extent_set-returns-in-Univ-clause-nodes
unfolding set_tree set_size
extent_set-returns-in-Univ-clause-nodes t c = leaf _ (ap (λ x. set_size (set_tree x)) c.in-Univ.is)

pub extent_set-returns-in-Univ-clause-depth : goal.extent_set-returns-in-Univ-clause-depth
unfolding set_tree set_depth
extent_set-returns-in-Univ-clause-depth t c = leaf _ (ap (λ x. set_depth (set_tree x)) c.in-Univ.is)

pub extent_set-returns-in-Single-clause-nodes : goal.extent_set-returns-in-Single-clause-nodes
unfolding set_tree set_size
extent_set-returns-in-Single-clause-nodes t c = sum_one _ _ _ _ c.over-in-Single.ensures.nodes (c.extent_term-in-Single.ensures.nodes ∙ ap (λ x. min (term_size (term_tree x)) most) c.deref-in-Single.ensures) (ap (λ x. set_size (set_tree x)) c.in-Single.is)

pub extent_set-returns-in-Single-clause-depth : goal.extent_set-returns-in-Single-clause-depth
unfolding set_tree set_depth
extent_set-returns-in-Single-clause-depth t c = deep_one _ _ _ _ c.over-in-Single.ensures.depth (c.extent_term-in-Single.ensures.depth ∙ ap (λ x. min (term_depth (term_tree x)) most) c.deref-in-Single.ensures) (ap (λ x. set_depth (set_tree x)) c.in-Single.is)

pub extent_set-returns-in-Union-clause-nodes : goal.extent_set-returns-in-Union-clause-nodes
unfolding set_tree set_size
extent_set-returns-in-Union-clause-nodes t c = sum_two _ _ _ _ _ _ _ c.over-in-Union.ensures.nodes c.beside-in-Union.ensures.nodes (c.extent_set-in-Union.ensures.nodes ∙ ap (λ x. min (set_size (set_tree x)) most) c.deref-in-Union-2.ensures) (c.extent_set.ensures.nodes ∙ ap (λ x. min (set_size (set_tree x)) most) c.deref-in-Union.ensures) (ap (λ x. set_size (set_tree x)) c.in-Union.is)

pub extent_set-returns-in-Union-clause-depth : goal.extent_set-returns-in-Union-clause-depth
unfolding set_tree set_depth
extent_set-returns-in-Union-clause-depth t c = deep_two _ _ _ _ _ _ _ c.over-in-Union.ensures.depth c.beside-in-Union.ensures.depth (c.extent_set-in-Union.ensures.depth ∙ ap (λ x. min (set_depth (set_tree x)) most) c.deref-in-Union-2.ensures) (c.extent_set.ensures.depth ∙ ap (λ x. min (set_depth (set_tree x)) most) c.deref-in-Union.ensures) (ap (λ x. set_depth (set_tree x)) c.in-Union.is)

pub extent_set-returns-in-Inter-clause-nodes : goal.extent_set-returns-in-Inter-clause-nodes
unfolding set_tree set_size
extent_set-returns-in-Inter-clause-nodes t c = sum_two _ _ _ _ _ _ _ c.over-in-Inter.ensures.nodes c.beside-in-Inter.ensures.nodes (c.extent_set-in-Inter-2.ensures.nodes ∙ ap (λ x. min (set_size (set_tree x)) most) c.deref-in-Inter-2.ensures) (c.extent_set-in-Inter.ensures.nodes ∙ ap (λ x. min (set_size (set_tree x)) most) c.deref-in-Inter.ensures) (ap (λ x. set_size (set_tree x)) c.in-Inter.is)

pub extent_set-returns-in-Inter-clause-depth : goal.extent_set-returns-in-Inter-clause-depth
unfolding set_tree set_depth
extent_set-returns-in-Inter-clause-depth t c = deep_two _ _ _ _ _ _ _ c.over-in-Inter.ensures.depth c.beside-in-Inter.ensures.depth (c.extent_set-in-Inter-2.ensures.depth ∙ ap (λ x. min (set_depth (set_tree x)) most) c.deref-in-Inter-2.ensures) (c.extent_set-in-Inter.ensures.depth ∙ ap (λ x. min (set_depth (set_tree x)) most) c.deref-in-Inter.ensures) (ap (λ x. set_depth (set_tree x)) c.in-Inter.is)

pub extent_set-returns-in-Diff-clause-nodes : goal.extent_set-returns-in-Diff-clause-nodes
unfolding set_tree set_size
extent_set-returns-in-Diff-clause-nodes t c = sum_two _ _ _ _ _ _ _ c.over-in-Diff.ensures.nodes c.beside-in-Diff.ensures.nodes (c.extent_set-in-Diff-2.ensures.nodes ∙ ap (λ x. min (set_size (set_tree x)) most) c.deref-in-Diff-2.ensures) (c.extent_set-in-Diff.ensures.nodes ∙ ap (λ x. min (set_size (set_tree x)) most) c.deref-in-Diff.ensures) (ap (λ x. set_size (set_tree x)) c.in-Diff.is)

pub extent_set-returns-in-Diff-clause-depth : goal.extent_set-returns-in-Diff-clause-depth
unfolding set_tree set_depth
extent_set-returns-in-Diff-clause-depth t c = deep_two _ _ _ _ _ _ _ c.over-in-Diff.ensures.depth c.beside-in-Diff.ensures.depth (c.extent_set-in-Diff-2.ensures.depth ∙ ap (λ x. min (set_depth (set_tree x)) most) c.deref-in-Diff-2.ensures) (c.extent_set-in-Diff.ensures.depth ∙ ap (λ x. min (set_depth (set_tree x)) most) c.deref-in-Diff.ensures) (ap (λ x. set_depth (set_tree x)) c.in-Diff.is)

pub extent_set-returns-in-Compl-clause-nodes : goal.extent_set-returns-in-Compl-clause-nodes
unfolding set_tree set_size
extent_set-returns-in-Compl-clause-nodes t c = sum_one _ _ _ _ c.over-in-Compl.ensures.nodes (c.extent_set-in-Compl.ensures.nodes ∙ ap (λ x. min (set_size (set_tree x)) most) c.deref-in-Compl.ensures) (ap (λ x. set_size (set_tree x)) c.in-Compl.is)

pub extent_set-returns-in-Compl-clause-depth : goal.extent_set-returns-in-Compl-clause-depth
unfolding set_tree set_depth
extent_set-returns-in-Compl-clause-depth t c = deep_one _ _ _ _ c.over-in-Compl.ensures.depth (c.extent_set-in-Compl.ensures.depth ∙ ap (λ x. min (set_depth (set_tree x)) most) c.deref-in-Compl.ensures) (ap (λ x. set_depth (set_tree x)) c.in-Compl.is)

pub extent_set-returns-in-Compr-clause-nodes : goal.extent_set-returns-in-Compr-clause-nodes
unfolding set_tree set_size
extent_set-returns-in-Compr-clause-nodes t c = sum_one _ _ _ _ c.over-in-Compr.ensures.nodes (c.extent_formula.ensures.nodes ∙ ap (λ x. min (formula_size (formula_tree x)) most) c.deref-in-Compr.ensures) (ap (λ x. set_size (set_tree x)) c.in-Compr.is)

pub extent_set-returns-in-Compr-clause-depth : goal.extent_set-returns-in-Compr-clause-depth
unfolding set_tree set_depth
extent_set-returns-in-Compr-clause-depth t c = deep_one _ _ _ _ c.over-in-Compr.ensures.depth (c.extent_formula.ensures.depth ∙ ap (λ x. min (formula_depth (formula_tree x)) most) c.deref-in-Compr.ensures) (ap (λ x. set_depth (set_tree x)) c.in-Compr.is)

pub extent_field-returns-in-Free-clause-nodes : goal.extent_field-returns-in-Free-clause-nodes
unfolding field_tree field_size
extent_field-returns-in-Free-clause-nodes t c = leaf _ (ap (λ x. field_size (field_tree x)) c.in-Free.is)

pub extent_field-returns-in-Free-clause-depth : goal.extent_field-returns-in-Free-clause-depth
unfolding field_tree field_depth
extent_field-returns-in-Free-clause-depth t c = leaf _ (ap (λ x. field_depth (field_tree x)) c.in-Free.is)

pub extent_field-returns-in-Update-clause-nodes : goal.extent_field-returns-in-Update-clause-nodes
unfolding field_tree field_size
extent_field-returns-in-Update-clause-nodes t c = sum_three _ _ _ _ _ _ _ _ _ _ c.over.ensures.nodes c.beside-in-Update.ensures.nodes (c.extent_value.ensures.nodes ∙ ap (λ x. min (value_size (value_tree x)) most) c.deref-in-Update-2.ensures) c.beside.ensures.nodes (c.extent_term.ensures.nodes ∙ ap (λ x. min (term_size (term_tree x)) most) c.deref-in-Update.ensures) (c.extent_field.ensures.nodes ∙ ap (λ x. min (field_size (field_tree x)) most) c.deref.ensures) (ap (λ x. field_size (field_tree x)) c.in-Update.is)

pub extent_field-returns-in-Update-clause-depth : goal.extent_field-returns-in-Update-clause-depth
unfolding field_tree field_depth
extent_field-returns-in-Update-clause-depth t c = deep_three _ _ _ _ _ _ _ _ _ _ c.over.ensures.depth c.beside-in-Update.ensures.depth (c.extent_value.ensures.depth ∙ ap (λ x. min (value_depth (value_tree x)) most) c.deref-in-Update-2.ensures) c.beside.ensures.depth (c.extent_term.ensures.depth ∙ ap (λ x. min (term_depth (term_tree x)) most) c.deref-in-Update.ensures) (c.extent_field.ensures.depth ∙ ap (λ x. min (field_depth (field_tree x)) most) c.deref.ensures) (ap (λ x. field_depth (field_tree x)) c.in-Update.is)

pub extent_value-returns-in-Obj-clause-nodes : goal.extent_value-returns-in-Obj-clause-nodes
unfolding value_tree value_size
extent_value-returns-in-Obj-clause-nodes t c = c.extent_term.ensures.nodes ∙ ap (λ n. min n most) (sym (ap (λ x. value_size (value_tree x)) c.in-Obj.is))

pub extent_value-returns-in-Obj-clause-depth : goal.extent_value-returns-in-Obj-clause-depth
unfolding value_tree value_depth
extent_value-returns-in-Obj-clause-depth t c = c.extent_term.ensures.depth ∙ ap (λ n. min n most) (sym (ap (λ x. value_depth (value_tree x)) c.in-Obj.is))

pub extent_value-returns-in-Int-clause-nodes : goal.extent_value-returns-in-Int-clause-nodes
unfolding value_tree value_size
extent_value-returns-in-Int-clause-nodes t c = c.extent_int.ensures.nodes ∙ ap (λ n. min n most) (sym (ap (λ x. value_size (value_tree x)) c.in-Int.is))

pub extent_value-returns-in-Int-clause-depth : goal.extent_value-returns-in-Int-clause-depth
unfolding value_tree value_depth
extent_value-returns-in-Int-clause-depth t c = c.extent_int.ensures.depth ∙ ap (λ n. min n most) (sym (ap (λ x. value_depth (value_tree x)) c.in-Int.is))

pub extent_value-returns-in-Bool-clause-nodes : goal.extent_value-returns-in-Bool-clause-nodes
unfolding value_tree value_size
extent_value-returns-in-Bool-clause-nodes t c = c.extent_formula.ensures.nodes ∙ ap (λ n. min n most) (sym (ap (λ x. value_size (value_tree x)) c.in-Bool.is))

pub extent_value-returns-in-Bool-clause-depth : goal.extent_value-returns-in-Bool-clause-depth
unfolding value_tree value_depth
extent_value-returns-in-Bool-clause-depth t c = c.extent_formula.ensures.depth ∙ ap (λ n. min n most) (sym (ap (λ x. value_depth (value_tree x)) c.in-Bool.is))

pub extent_value-returns-in-Set-clause-nodes : goal.extent_value-returns-in-Set-clause-nodes
unfolding value_tree value_size
extent_value-returns-in-Set-clause-nodes t c = c.extent_set.ensures.nodes ∙ ap (λ n. min n most) (sym (ap (λ x. value_size (value_tree x)) c.in-Set.is))

pub extent_value-returns-in-Set-clause-depth : goal.extent_value-returns-in-Set-clause-depth
unfolding value_tree value_depth
extent_value-returns-in-Set-clause-depth t c = c.extent_set.ensures.depth ∙ ap (λ n. min n most) (sym (ap (λ x. value_depth (value_tree x)) c.in-Set.is))

pub extent_value-returns-in-Field-clause-nodes : goal.extent_value-returns-in-Field-clause-nodes
unfolding value_tree value_size
extent_value-returns-in-Field-clause-nodes t c = c.extent_field.ensures.nodes ∙ ap (λ n. min n most) (sym (ap (λ x. value_size (value_tree x)) c.in-Field.is))

pub extent_value-returns-in-Field-clause-depth : goal.extent_value-returns-in-Field-clause-depth
unfolding value_tree value_depth
extent_value-returns-in-Field-clause-depth t c = c.extent_field.ensures.depth ∙ ap (λ n. min n most) (sym (ap (λ x. value_depth (value_tree x)) c.in-Field.is))

pub extent_formula-returns-in-True-clause-nodes : goal.extent_formula-returns-in-True-clause-nodes
unfolding formula_tree formula_size
extent_formula-returns-in-True-clause-nodes t c = leaf _ (ap (λ x. formula_size (formula_tree x)) c.in-True.is)

pub extent_formula-returns-in-True-clause-depth : goal.extent_formula-returns-in-True-clause-depth
unfolding formula_tree formula_depth
extent_formula-returns-in-True-clause-depth t c = leaf _ (ap (λ x. formula_depth (formula_tree x)) c.in-True.is)

pub extent_formula-returns-in-False-clause-nodes : goal.extent_formula-returns-in-False-clause-nodes
unfolding formula_tree formula_size
extent_formula-returns-in-False-clause-nodes t c = leaf _ (ap (λ x. formula_size (formula_tree x)) c.in-False.is)

pub extent_formula-returns-in-False-clause-depth : goal.extent_formula-returns-in-False-clause-depth
unfolding formula_tree formula_depth
extent_formula-returns-in-False-clause-depth t c = leaf _ (ap (λ x. formula_depth (formula_tree x)) c.in-False.is)

pub extent_formula-returns-in-Free-clause-nodes : goal.extent_formula-returns-in-Free-clause-nodes
unfolding formula_tree formula_size
extent_formula-returns-in-Free-clause-nodes t c = leaf _ (ap (λ x. formula_size (formula_tree x)) c.in-Free.is)

pub extent_formula-returns-in-Free-clause-depth : goal.extent_formula-returns-in-Free-clause-depth
unfolding formula_tree formula_depth
extent_formula-returns-in-Free-clause-depth t c = leaf _ (ap (λ x. formula_depth (formula_tree x)) c.in-Free.is)

pub extent_formula-returns-in-Read-clause-nodes : goal.extent_formula-returns-in-Read-clause-nodes
unfolding formula_tree formula_size
extent_formula-returns-in-Read-clause-nodes t c = sum_two _ _ _ _ _ _ _ c.over.ensures.nodes c.beside.ensures.nodes (c.extent_term.ensures.nodes ∙ ap (λ x. min (term_size (term_tree x)) most) c.deref-in-Read.ensures) (c.extent_field.ensures.nodes ∙ ap (λ x. min (field_size (field_tree x)) most) c.deref.ensures) (ap (λ x. formula_size (formula_tree x)) c.in-Read.is)

pub extent_formula-returns-in-Read-clause-depth : goal.extent_formula-returns-in-Read-clause-depth
unfolding formula_tree formula_depth
extent_formula-returns-in-Read-clause-depth t c = deep_two _ _ _ _ _ _ _ c.over.ensures.depth c.beside.ensures.depth (c.extent_term.ensures.depth ∙ ap (λ x. min (term_depth (term_tree x)) most) c.deref-in-Read.ensures) (c.extent_field.ensures.depth ∙ ap (λ x. min (field_depth (field_tree x)) most) c.deref.ensures) (ap (λ x. formula_depth (formula_tree x)) c.in-Read.is)

pub extent_formula-returns-in-Not-clause-nodes : goal.extent_formula-returns-in-Not-clause-nodes
unfolding formula_tree formula_size
extent_formula-returns-in-Not-clause-nodes t c = sum_one _ _ _ _ c.over-in-Not.ensures.nodes (c.extent_formula.ensures.nodes ∙ ap (λ x. min (formula_size (formula_tree x)) most) c.deref-in-Not.ensures) (ap (λ x. formula_size (formula_tree x)) c.in-Not.is)

pub extent_formula-returns-in-Not-clause-depth : goal.extent_formula-returns-in-Not-clause-depth
unfolding formula_tree formula_depth
extent_formula-returns-in-Not-clause-depth t c = deep_one _ _ _ _ c.over-in-Not.ensures.depth (c.extent_formula.ensures.depth ∙ ap (λ x. min (formula_depth (formula_tree x)) most) c.deref-in-Not.ensures) (ap (λ x. formula_depth (formula_tree x)) c.in-Not.is)

pub extent_formula-returns-in-And-clause-nodes : goal.extent_formula-returns-in-And-clause-nodes
unfolding formula_tree formula_size
extent_formula-returns-in-And-clause-nodes t c = sum_two _ _ _ _ _ _ _ c.over-in-And.ensures.nodes c.beside-in-And.ensures.nodes (c.extent_formula-in-And-2.ensures.nodes ∙ ap (λ x. min (formula_size (formula_tree x)) most) c.deref-in-And-2.ensures) (c.extent_formula-in-And.ensures.nodes ∙ ap (λ x. min (formula_size (formula_tree x)) most) c.deref-in-And.ensures) (ap (λ x. formula_size (formula_tree x)) c.in-And.is)

pub extent_formula-returns-in-And-clause-depth : goal.extent_formula-returns-in-And-clause-depth
unfolding formula_tree formula_depth
extent_formula-returns-in-And-clause-depth t c = deep_two _ _ _ _ _ _ _ c.over-in-And.ensures.depth c.beside-in-And.ensures.depth (c.extent_formula-in-And-2.ensures.depth ∙ ap (λ x. min (formula_depth (formula_tree x)) most) c.deref-in-And-2.ensures) (c.extent_formula-in-And.ensures.depth ∙ ap (λ x. min (formula_depth (formula_tree x)) most) c.deref-in-And.ensures) (ap (λ x. formula_depth (formula_tree x)) c.in-And.is)

pub extent_formula-returns-in-Or-clause-nodes : goal.extent_formula-returns-in-Or-clause-nodes
unfolding formula_tree formula_size
extent_formula-returns-in-Or-clause-nodes t c = sum_two _ _ _ _ _ _ _ c.over-in-Or.ensures.nodes c.beside-in-Or.ensures.nodes (c.extent_formula-in-Or-2.ensures.nodes ∙ ap (λ x. min (formula_size (formula_tree x)) most) c.deref-in-Or-2.ensures) (c.extent_formula-in-Or.ensures.nodes ∙ ap (λ x. min (formula_size (formula_tree x)) most) c.deref-in-Or.ensures) (ap (λ x. formula_size (formula_tree x)) c.in-Or.is)

pub extent_formula-returns-in-Or-clause-depth : goal.extent_formula-returns-in-Or-clause-depth
unfolding formula_tree formula_depth
extent_formula-returns-in-Or-clause-depth t c = deep_two _ _ _ _ _ _ _ c.over-in-Or.ensures.depth c.beside-in-Or.ensures.depth (c.extent_formula-in-Or-2.ensures.depth ∙ ap (λ x. min (formula_depth (formula_tree x)) most) c.deref-in-Or-2.ensures) (c.extent_formula-in-Or.ensures.depth ∙ ap (λ x. min (formula_depth (formula_tree x)) most) c.deref-in-Or.ensures) (ap (λ x. formula_depth (formula_tree x)) c.in-Or.is)

pub extent_formula-returns-in-Implies-clause-nodes : goal.extent_formula-returns-in-Implies-clause-nodes
unfolding formula_tree formula_size
extent_formula-returns-in-Implies-clause-nodes t c = sum_two _ _ _ _ _ _ _ c.over-in-Implies.ensures.nodes c.beside-in-Implies.ensures.nodes (c.extent_formula-in-Implies-2.ensures.nodes ∙ ap (λ x. min (formula_size (formula_tree x)) most) c.deref-in-Implies-2.ensures) (c.extent_formula-in-Implies.ensures.nodes ∙ ap (λ x. min (formula_size (formula_tree x)) most) c.deref-in-Implies.ensures) (ap (λ x. formula_size (formula_tree x)) c.in-Implies.is)

pub extent_formula-returns-in-Implies-clause-depth : goal.extent_formula-returns-in-Implies-clause-depth
unfolding formula_tree formula_depth
extent_formula-returns-in-Implies-clause-depth t c = deep_two _ _ _ _ _ _ _ c.over-in-Implies.ensures.depth c.beside-in-Implies.ensures.depth (c.extent_formula-in-Implies-2.ensures.depth ∙ ap (λ x. min (formula_depth (formula_tree x)) most) c.deref-in-Implies-2.ensures) (c.extent_formula-in-Implies.ensures.depth ∙ ap (λ x. min (formula_depth (formula_tree x)) most) c.deref-in-Implies.ensures) (ap (λ x. formula_depth (formula_tree x)) c.in-Implies.is)

pub extent_formula-returns-in-Iff-clause-nodes : goal.extent_formula-returns-in-Iff-clause-nodes
unfolding formula_tree formula_size
extent_formula-returns-in-Iff-clause-nodes t c = sum_two _ _ _ _ _ _ _ c.over-in-Iff.ensures.nodes c.beside-in-Iff.ensures.nodes (c.extent_formula-in-Iff-2.ensures.nodes ∙ ap (λ x. min (formula_size (formula_tree x)) most) c.deref-in-Iff-2.ensures) (c.extent_formula-in-Iff.ensures.nodes ∙ ap (λ x. min (formula_size (formula_tree x)) most) c.deref-in-Iff.ensures) (ap (λ x. formula_size (formula_tree x)) c.in-Iff.is)

pub extent_formula-returns-in-Iff-clause-depth : goal.extent_formula-returns-in-Iff-clause-depth
unfolding formula_tree formula_depth
extent_formula-returns-in-Iff-clause-depth t c = deep_two _ _ _ _ _ _ _ c.over-in-Iff.ensures.depth c.beside-in-Iff.ensures.depth (c.extent_formula-in-Iff-2.ensures.depth ∙ ap (λ x. min (formula_depth (formula_tree x)) most) c.deref-in-Iff-2.ensures) (c.extent_formula-in-Iff.ensures.depth ∙ ap (λ x. min (formula_depth (formula_tree x)) most) c.deref-in-Iff.ensures) (ap (λ x. formula_depth (formula_tree x)) c.in-Iff.is)

pub extent_formula-returns-in-All-clause-nodes : goal.extent_formula-returns-in-All-clause-nodes
unfolding formula_tree formula_size
extent_formula-returns-in-All-clause-nodes t c = sum_one _ _ _ _ c.over-in-All.ensures.nodes (c.extent_formula-in-All.ensures.nodes ∙ ap (λ x. min (formula_size (formula_tree x)) most) c.deref-in-All.ensures) (ap (λ x. formula_size (formula_tree x)) c.in-All.is)

pub extent_formula-returns-in-All-clause-depth : goal.extent_formula-returns-in-All-clause-depth
unfolding formula_tree formula_depth
extent_formula-returns-in-All-clause-depth t c = deep_one _ _ _ _ c.over-in-All.ensures.depth (c.extent_formula-in-All.ensures.depth ∙ ap (λ x. min (formula_depth (formula_tree x)) most) c.deref-in-All.ensures) (ap (λ x. formula_depth (formula_tree x)) c.in-All.is)

pub extent_formula-returns-in-Ex-clause-nodes : goal.extent_formula-returns-in-Ex-clause-nodes
unfolding formula_tree formula_size
extent_formula-returns-in-Ex-clause-nodes t c = sum_one _ _ _ _ c.over-in-Ex.ensures.nodes (c.extent_formula-in-Ex.ensures.nodes ∙ ap (λ x. min (formula_size (formula_tree x)) most) c.deref-in-Ex.ensures) (ap (λ x. formula_size (formula_tree x)) c.in-Ex.is)

pub extent_formula-returns-in-Ex-clause-depth : goal.extent_formula-returns-in-Ex-clause-depth
unfolding formula_tree formula_depth
extent_formula-returns-in-Ex-clause-depth t c = deep_one _ _ _ _ c.over-in-Ex.ensures.depth (c.extent_formula-in-Ex.ensures.depth ∙ ap (λ x. min (formula_depth (formula_tree x)) most) c.deref-in-Ex.ensures) (ap (λ x. formula_depth (formula_tree x)) c.in-Ex.is)

pub extent_formula-returns-in-EqObj-clause-nodes : goal.extent_formula-returns-in-EqObj-clause-nodes
unfolding formula_tree formula_size
extent_formula-returns-in-EqObj-clause-nodes t c = sum_two _ _ _ _ _ _ _ c.over-in-EqObj.ensures.nodes c.beside-in-EqObj.ensures.nodes c.extent_term-in-EqObj-2.ensures.nodes c.extent_term-in-EqObj.ensures.nodes (ap (λ x. formula_size (formula_tree x)) c.in-EqObj.is)

pub extent_formula-returns-in-EqObj-clause-depth : goal.extent_formula-returns-in-EqObj-clause-depth
unfolding formula_tree formula_depth
extent_formula-returns-in-EqObj-clause-depth t c = deep_two _ _ _ _ _ _ _ c.over-in-EqObj.ensures.depth c.beside-in-EqObj.ensures.depth c.extent_term-in-EqObj-2.ensures.depth c.extent_term-in-EqObj.ensures.depth (ap (λ x. formula_depth (formula_tree x)) c.in-EqObj.is)

pub extent_formula-returns-in-EqInt-clause-nodes : goal.extent_formula-returns-in-EqInt-clause-nodes
unfolding formula_tree formula_size
extent_formula-returns-in-EqInt-clause-nodes t c = sum_two _ _ _ _ _ _ _ c.over-in-EqInt.ensures.nodes c.beside-in-EqInt.ensures.nodes c.extent_int-in-EqInt.ensures.nodes c.extent_int.ensures.nodes (ap (λ x. formula_size (formula_tree x)) c.in-EqInt.is)

pub extent_formula-returns-in-EqInt-clause-depth : goal.extent_formula-returns-in-EqInt-clause-depth
unfolding formula_tree formula_depth
extent_formula-returns-in-EqInt-clause-depth t c = deep_two _ _ _ _ _ _ _ c.over-in-EqInt.ensures.depth c.beside-in-EqInt.ensures.depth c.extent_int-in-EqInt.ensures.depth c.extent_int.ensures.depth (ap (λ x. formula_depth (formula_tree x)) c.in-EqInt.is)

pub extent_formula-returns-in-EqSet-clause-nodes : goal.extent_formula-returns-in-EqSet-clause-nodes
unfolding formula_tree formula_size
extent_formula-returns-in-EqSet-clause-nodes t c = sum_two _ _ _ _ _ _ _ c.over-in-EqSet.ensures.nodes c.beside-in-EqSet.ensures.nodes c.extent_set-in-EqSet.ensures.nodes c.extent_set.ensures.nodes (ap (λ x. formula_size (formula_tree x)) c.in-EqSet.is)

pub extent_formula-returns-in-EqSet-clause-depth : goal.extent_formula-returns-in-EqSet-clause-depth
unfolding formula_tree formula_depth
extent_formula-returns-in-EqSet-clause-depth t c = deep_two _ _ _ _ _ _ _ c.over-in-EqSet.ensures.depth c.beside-in-EqSet.ensures.depth c.extent_set-in-EqSet.ensures.depth c.extent_set.ensures.depth (ap (λ x. formula_depth (formula_tree x)) c.in-EqSet.is)

pub extent_formula-returns-in-Less-clause-nodes : goal.extent_formula-returns-in-Less-clause-nodes
unfolding formula_tree formula_size
extent_formula-returns-in-Less-clause-nodes t c = sum_two _ _ _ _ _ _ _ c.over-in-Less.ensures.nodes c.beside-in-Less.ensures.nodes c.extent_int-in-Less-2.ensures.nodes c.extent_int-in-Less.ensures.nodes (ap (λ x. formula_size (formula_tree x)) c.in-Less.is)

pub extent_formula-returns-in-Less-clause-depth : goal.extent_formula-returns-in-Less-clause-depth
unfolding formula_tree formula_depth
extent_formula-returns-in-Less-clause-depth t c = deep_two _ _ _ _ _ _ _ c.over-in-Less.ensures.depth c.beside-in-Less.ensures.depth c.extent_int-in-Less-2.ensures.depth c.extent_int-in-Less.ensures.depth (ap (λ x. formula_depth (formula_tree x)) c.in-Less.is)

pub extent_formula-returns-in-LessEq-clause-nodes : goal.extent_formula-returns-in-LessEq-clause-nodes
unfolding formula_tree formula_size
extent_formula-returns-in-LessEq-clause-nodes t c = sum_two _ _ _ _ _ _ _ c.over-in-LessEq.ensures.nodes c.beside-in-LessEq.ensures.nodes c.extent_int-in-LessEq-2.ensures.nodes c.extent_int-in-LessEq.ensures.nodes (ap (λ x. formula_size (formula_tree x)) c.in-LessEq.is)

pub extent_formula-returns-in-LessEq-clause-depth : goal.extent_formula-returns-in-LessEq-clause-depth
unfolding formula_tree formula_depth
extent_formula-returns-in-LessEq-clause-depth t c = deep_two _ _ _ _ _ _ _ c.over-in-LessEq.ensures.depth c.beside-in-LessEq.ensures.depth c.extent_int-in-LessEq-2.ensures.depth c.extent_int-in-LessEq.ensures.depth (ap (λ x. formula_depth (formula_tree x)) c.in-LessEq.is)

pub extent_formula-returns-in-Divides-clause-nodes : goal.extent_formula-returns-in-Divides-clause-nodes
unfolding formula_tree formula_size
extent_formula-returns-in-Divides-clause-nodes t c = sum_one _ _ _ _ c.over-in-Divides.ensures.nodes c.extent_int-in-Divides.ensures.nodes (ap (λ x. formula_size (formula_tree x)) c.in-Divides.is)

pub extent_formula-returns-in-Divides-clause-depth : goal.extent_formula-returns-in-Divides-clause-depth
unfolding formula_tree formula_depth
extent_formula-returns-in-Divides-clause-depth t c = deep_one _ _ _ _ c.over-in-Divides.ensures.depth c.extent_int-in-Divides.ensures.depth (ap (λ x. formula_depth (formula_tree x)) c.in-Divides.is)

pub extent_formula-returns-in-Member-clause-nodes : goal.extent_formula-returns-in-Member-clause-nodes
unfolding formula_tree formula_size
extent_formula-returns-in-Member-clause-nodes t c = sum_two _ _ _ _ _ _ _ c.over-in-Member.ensures.nodes c.beside-in-Member.ensures.nodes c.extent_set-in-Member.ensures.nodes c.extent_term-in-Member.ensures.nodes (ap (λ x. formula_size (formula_tree x)) c.in-Member.is)

pub extent_formula-returns-in-Member-clause-depth : goal.extent_formula-returns-in-Member-clause-depth
unfolding formula_tree formula_depth
extent_formula-returns-in-Member-clause-depth t c = deep_two _ _ _ _ _ _ _ c.over-in-Member.ensures.depth c.beside-in-Member.ensures.depth c.extent_set-in-Member.ensures.depth c.extent_term-in-Member.ensures.depth (ap (λ x. formula_depth (formula_tree x)) c.in-Member.is)

pub extent_formula-returns-in-Subset-clause-nodes : goal.extent_formula-returns-in-Subset-clause-nodes
unfolding formula_tree formula_size
extent_formula-returns-in-Subset-clause-nodes t c = sum_two _ _ _ _ _ _ _ c.over-in-Subset.ensures.nodes c.beside-in-Subset.ensures.nodes c.extent_set-in-Subset-2.ensures.nodes c.extent_set-in-Subset.ensures.nodes (ap (λ x. formula_size (formula_tree x)) c.in-Subset.is)

pub extent_formula-returns-in-Subset-clause-depth : goal.extent_formula-returns-in-Subset-clause-depth
unfolding formula_tree formula_depth
extent_formula-returns-in-Subset-clause-depth t c = deep_two _ _ _ _ _ _ _ c.over-in-Subset.ensures.depth c.beside-in-Subset.ensures.depth c.extent_set-in-Subset-2.ensures.depth c.extent_set-in-Subset.ensures.depth (ap (λ x. formula_depth (formula_tree x)) c.in-Subset.is)

pub extent_formula-returns-in-Mark-clause-nodes : goal.extent_formula-returns-in-Mark-clause-nodes
unfolding formula_tree formula_size
extent_formula-returns-in-Mark-clause-nodes t c = sum_one _ _ _ _ c.over-in-Mark.ensures.nodes (c.extent_formula-in-Mark.ensures.nodes ∙ ap (λ x. min (formula_size (formula_tree x)) most) c.deref-in-Mark.ensures) (ap (λ x. formula_size (formula_tree x)) c.in-Mark.is)

pub extent_formula-returns-in-Mark-clause-depth : goal.extent_formula-returns-in-Mark-clause-depth
unfolding formula_tree formula_depth
extent_formula-returns-in-Mark-clause-depth t c = deep_one _ _ _ _ c.over-in-Mark.ensures.depth (c.extent_formula-in-Mark.ensures.depth ∙ ap (λ x. min (formula_depth (formula_tree x)) most) c.deref-in-Mark.ensures) (ap (λ x. formula_depth (formula_tree x)) c.in-Mark.is)
