use Rattle.std.proofs.Common.{◌≡◌, sym, ap, ◌∙◌, Some, slice_get}
use Rattle.std.proofs.lemmas.Result.{IfOk-weaker}
use Rattle.jh_form.specs.Tree.{of_truth}
use Rattle.jh_form.specs.Tree as t
use Rattle.jh_arena.specs.table.Entries.{the_truth}
use Rattle.jh_arena.specs.table.Nodes.{nodes}
use Rattle.jh_approx.specs.definition.Shown.{negation_of, iff_before}
use Rattle.jh_fca.proofs.cutting.Foldings.{is-true, is-false, iff-both}
use Rattle.jh_fca.proofs.cutting.Standing.{truth-of}
use Rattle.jh_fca.proofs.cutting.folding.iff_before.Goals as goal

pub returns-in-Some-true-clause-node : goal.returns-in-Some-true-clause-node
unfolding iff_before
returns-in-Some-true-clause-node c =
    truth-of (slice_get (nodes c.args.table.now) c.args.a) c.requires.a ∙ ap (λ f. Some (of_truth f)) (ap (λ z. iff_before (the_truth (slice_get (nodes c.args.table.now) c.args.a)) z) (sym (is-true (the_truth (slice_get (nodes c.args.table.now) c.args.b)) (sym c.constant.ensures ∙ c.in-Some-true.is ∙ ap (λ b. Some b) c.in-Some-true.field-0-test))))

pub returns-in-Some-false-clause-node : goal.returns-in-Some-false-clause-node
unfolding iff_before
returns-in-Some-false-clause-node c =
    IfOk-weaker
    c.negation_of.result
    (λ made. slice_get (nodes c.negation_of.new.table) made ≡ Some (of_truth (negation_of (the_truth (slice_get (nodes c.args.table.now) c.args.a)))))
    (λ made. slice_get (nodes c.negation_of.new.table) made ≡ Some (of_truth (iff_before (the_truth (slice_get (nodes c.args.table.now) c.args.a)) (the_truth (slice_get (nodes c.args.table.now) c.args.b)))))
    (λ made at. at ∙ ap (λ f. Some (of_truth f)) (ap (λ z. iff_before (the_truth (slice_get (nodes c.args.table.now) c.args.a)) z) (sym (is-false (the_truth (slice_get (nodes c.args.table.now) c.args.b)) (sym c.constant.ensures ∙ c.in-Some-false.is ∙ ap (λ b. Some b) c.in-Some-false.field-0-test)))))
    c.negation_of.ensures.node

pub returns-in-None-clause-node : goal.returns-in-None-clause-node
returns-in-None-clause-node c =
    IfOk-weaker
    c.equivalence.result
    (λ made. slice_get (nodes c.equivalence.new.table) made ≡ Some (of_truth (t.iff (the_truth (slice_get (nodes c.args.table.now) c.args.a)) (the_truth (slice_get (nodes c.args.table.now) c.args.b)))))
    (λ made. slice_get (nodes c.equivalence.new.table) made ≡ Some (of_truth (iff_before (the_truth (slice_get (nodes c.args.table.now) c.args.a)) (the_truth (slice_get (nodes c.args.table.now) c.args.b)))))
    (λ made at. at ∙ ap (λ f. Some (of_truth f)) (iff-both (the_truth (slice_get (nodes c.args.table.now) c.args.a)) (the_truth (slice_get (nodes c.args.table.now) c.args.b)) (sym c.constant.ensures ∙ c.in-None.is)))
    c.equivalence.ensures.node
