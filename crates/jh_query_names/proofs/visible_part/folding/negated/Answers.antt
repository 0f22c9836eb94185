use Rattle.std.proofs.Common.{◌≡◌, sym, ap, ◌∙◌, Some, slice_get}
use Rattle.std.proofs.lemmas.Result.{IfOk-weaker}
use Rattle.jh_form.specs.Tree.{of_truth}
use Rattle.jh_form.specs.Tree as t
use Rattle.jh_arena.specs.table.Entries.{the_truth}
use Rattle.jh_arena.specs.table.Nodes.{nodes}
use Rattle.jh_approx.specs.definition.Shown.{negation_of}
use Rattle.jh_query_names.proofs.visible_part.Foldings.{negation-true, negation-false, negation-none}
use Rattle.jh_query_names.proofs.visible_part.folding.negated.Goals as goal

pub returns-in-Some-true-clause-node : goal.returns-in-Some-true-clause-node
returns-in-Some-true-clause-node c =
    let a = the_truth (slice_get (nodes c.args.table.now) c.args.a) in
    IfOk-weaker
    c.falsehood.result
    (λ made. slice_get (nodes c.falsehood.new.table) made ≡ Some (of_truth t.false_formula))
    (λ made. slice_get (nodes c.falsehood.new.table) made ≡ Some (of_truth (negation_of a)))
    (λ made at. at ∙ ap (λ f. Some (of_truth f)) (sym (negation-true a (sym c.constant.ensures ∙ c.in-Some-true.is ∙ ap (λ b. Some b) c.in-Some-true.field-0-test))))
    c.falsehood.ensures.node

pub returns-in-Some-false-clause-node : goal.returns-in-Some-false-clause-node
returns-in-Some-false-clause-node c =
    let a = the_truth (slice_get (nodes c.args.table.now) c.args.a) in
    IfOk-weaker
    c.truth.result
    (λ made. slice_get (nodes c.truth.new.table) made ≡ Some (of_truth t.true_formula))
    (λ made. slice_get (nodes c.truth.new.table) made ≡ Some (of_truth (negation_of a)))
    (λ made at. at ∙ ap (λ f. Some (of_truth f)) (sym (negation-false a (sym c.constant.ensures ∙ c.in-Some-false.is ∙ ap (λ b. Some b) c.in-Some-false.field-0-test))))
    c.truth.ensures.node

pub returns-in-None-clause-node : goal.returns-in-None-clause-node
returns-in-None-clause-node c =
    let a = the_truth (slice_get (nodes c.args.table.now) c.args.a) in
    IfOk-weaker
    c.negation.result
    (λ made. slice_get (nodes c.negation.new.table) made ≡ Some (of_truth (t.negation a)))
    (λ made. slice_get (nodes c.negation.new.table) made ≡ Some (of_truth (negation_of a)))
    (λ made at. at ∙ ap (λ f. Some (of_truth f)) (sym (negation-none a (sym c.constant.ensures ∙ c.in-None.is))))
    c.negation.ensures.node
