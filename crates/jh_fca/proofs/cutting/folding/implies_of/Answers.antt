use Rattle.std.proofs.Common.{◌≡◌, sym, ap, ◌∙◌, Some, slice_get}
use Rattle.std.proofs.lemmas.Result.{IfOk-weaker}
use Rattle.jh_form.specs.Tree.{of_truth}
use Rattle.jh_form.specs.Tree as t
use Rattle.jh_arena.specs.table.Entries.{the_truth}
use Rattle.jh_arena.specs.table.Nodes.{nodes}
use Rattle.jh_approx.specs.definition.Shown.{implies_before, implies_of}
use Rattle.jh_fca.proofs.cutting.Foldings.{is-true, is-false, implies-neither}
use Rattle.jh_fca.proofs.cutting.Standing.{truth-of}
use Rattle.jh_fca.proofs.cutting.folding.implies_of.Goals as goal

pub returns-in-Some-true-clause-node : goal.returns-in-Some-true-clause-node
unfolding implies_of
returns-in-Some-true-clause-node c =
    truth-of (slice_get (nodes c.args.table.now) c.args.b) c.requires.b ∙ ap (λ f. Some (of_truth f)) (ap (λ z. implies_of z (the_truth (slice_get (nodes c.args.table.now) c.args.b))) (sym (is-true (the_truth (slice_get (nodes c.args.table.now) c.args.a)) (sym c.constant.ensures ∙ c.in-Some-true.is ∙ ap (λ b. Some b) c.in-Some-true.field-0-test))))

pub returns-in-Some-false-clause-node : goal.returns-in-Some-false-clause-node
unfolding implies_of
returns-in-Some-false-clause-node c =
    IfOk-weaker
    c.truth.result
    (λ made. slice_get (nodes c.truth.new.table) made ≡ Some (of_truth t.true_formula))
    (λ made. slice_get (nodes c.truth.new.table) made ≡ Some (of_truth (implies_of (the_truth (slice_get (nodes c.args.table.now) c.args.a)) (the_truth (slice_get (nodes c.args.table.now) c.args.b)))))
    (λ made at. at ∙ ap (λ f. Some (of_truth f)) (ap (λ z. implies_of z (the_truth (slice_get (nodes c.args.table.now) c.args.b))) (sym (is-false (the_truth (slice_get (nodes c.args.table.now) c.args.a)) (sym c.constant.ensures ∙ c.in-Some-false.is ∙ ap (λ b. Some b) c.in-Some-false.field-0-test)))))
    c.truth.ensures.node

pub returns-in-None-clause-node : goal.returns-in-None-clause-node
returns-in-None-clause-node c =
    IfOk-weaker
    c.implies_before.result
    (λ made. slice_get (nodes c.implies_before.new.table) made ≡ Some (of_truth (implies_before (the_truth (slice_get (nodes c.args.table.now) c.args.a)) (the_truth (slice_get (nodes c.args.table.now) c.args.b)))))
    (λ made. slice_get (nodes c.implies_before.new.table) made ≡ Some (of_truth (implies_of (the_truth (slice_get (nodes c.args.table.now) c.args.a)) (the_truth (slice_get (nodes c.args.table.now) c.args.b)))))
    (λ made at. at ∙ ap (λ f. Some (of_truth f)) (implies-neither (the_truth (slice_get (nodes c.args.table.now) c.args.a)) (the_truth (slice_get (nodes c.args.table.now) c.args.b)) (sym c.constant.ensures ∙ c.in-None.is)))
    c.implies_before.ensures.node
