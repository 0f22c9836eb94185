use Rattle.std.proofs.Common.{◌≡◌, sym, ap, ◌∙◌, Some, slice_get}
use Rattle.std.proofs.lemmas.Result.{IfOk-weaker}
use Rattle.jh_form.specs.Tree.{of_truth}
use Rattle.jh_form.specs.Tree as t
use Rattle.jh_arena.specs.table.Entries.{the_truth}
use Rattle.jh_arena.specs.table.Nodes.{nodes}
use Rattle.jh_approx.specs.definition.Shown.{negation_of}
use Rattle.jh_fca.proofs.cutting.Foldings.{is-true, is-false, negation-neither}
use Rattle.jh_fca.proofs.cutting.folding.negation_of.Goals as goal

pub returns-in-Some-true-clause-node : goal.returns-in-Some-true-clause-node
unfolding negation_of
returns-in-Some-true-clause-node c =
    IfOk-weaker
    c.falsehood.result
    (λ made. slice_get (nodes c.falsehood.new.table) made ≡ Some (of_truth t.false_formula))
    (λ made. slice_get (nodes c.falsehood.new.table) made ≡ Some (of_truth (negation_of (the_truth (slice_get (nodes c.args.table.now) c.args.a)))))
    (λ made at. at ∙ ap (λ f. Some (of_truth f)) (ap negation_of (sym (is-true (the_truth (slice_get (nodes c.args.table.now) c.args.a)) (sym c.constant.ensures ∙ c.in-Some-true.is ∙ ap (λ b. Some b) c.in-Some-true.field-0-test)))))
    c.falsehood.ensures.node

pub returns-in-Some-false-clause-node : goal.returns-in-Some-false-clause-node
unfolding negation_of
returns-in-Some-false-clause-node c =
    IfOk-weaker
    c.truth.result
    (λ made. slice_get (nodes c.truth.new.table) made ≡ Some (of_truth t.true_formula))
    (λ made. slice_get (nodes c.truth.new.table) made ≡ Some (of_truth (negation_of (the_truth (slice_get (nodes c.args.table.now) c.args.a)))))
    (λ made at. at ∙ ap (λ f. Some (of_truth f)) (ap negation_of (sym (is-false (the_truth (slice_get (nodes c.args.table.now) c.args.a)) (sym c.constant.ensures ∙ c.in-Some-false.is ∙ ap (λ b. Some b) c.in-Some-false.field-0-test)))))
    c.truth.ensures.node

pub returns-in-None-clause-node : goal.returns-in-None-clause-node
returns-in-None-clause-node c =
    IfOk-weaker
    c.negation.result
    (λ made. slice_get (nodes c.negation.new.table) made ≡ Some (of_truth (t.negation (the_truth (slice_get (nodes c.args.table.now) c.args.a)))))
    (λ made. slice_get (nodes c.negation.new.table) made ≡ Some (of_truth (negation_of (the_truth (slice_get (nodes c.args.table.now) c.args.a)))))
    (λ made at. at ∙ ap (λ f. Some (of_truth f)) (negation-neither (the_truth (slice_get (nodes c.args.table.now) c.args.a)) (sym c.constant.ensures ∙ c.in-None.is)))
    c.negation.ensures.node
