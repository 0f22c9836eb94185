use Rattle.std.proofs.Common.{◌≡◌, ◌∙◌, Some, slice_get}
use Rattle.std.proofs.lemmas.Result.{IfOk-weaker}
use Rattle.jh_form.specs.Tree.{of_object, of_set, of_truth}
use Rattle.jh_form.specs.Tree as t
use Rattle.jh_arena.specs.table.Entries.{the_truth}
use Rattle.jh_arena.specs.table.Nodes.{nodes}
use Rattle.jh_normal_forms.proofs.set_opening.Arms.{truth-there, truth-at, truth-stays}
use Rattle.jh_normal_forms.proofs.set_opening.joining.and_not.Goals as goal

pub conjunction-requires-clause-a : goal.conjunction-requires-clause-a
conjunction-requires-clause-a c = truth-there (slice_get (nodes c.negation.new.table) c.args.a) _ (truth-stays c.args.table.now c.negation.new.table c.args.a c.negation.ensures.grows c.requires.a)

pub conjunction-requires-clause-b : goal.conjunction-requires-clause-b
conjunction-requires-clause-b c = truth-there (slice_get (nodes c.negation.new.table) c.in_ok-negated.negated) _ c.in_ok-negated.ensures.node

pub returns-clause-node : goal.returns-clause-node
returns-clause-node c =
    let us = nodes c.negation.new.table in
    let p = the_truth (slice_get (nodes c.args.table.now) c.args.a) in
    let q = the_truth (slice_get (nodes c.args.table.now) c.args.b) in
    let left : the_truth (slice_get us c.args.a) ≡ p = truth-at (slice_get us c.args.a) p (truth-stays c.args.table.now c.negation.new.table c.args.a c.negation.ensures.grows c.requires.a) in
    let right : the_truth (slice_get us c.in_ok-negated.negated) ≡ t.negation q = truth-at (slice_get us c.in_ok-negated.negated) (t.negation q) c.in_ok-negated.ensures.node in
    IfOk-weaker
    c.conjunction.result
    (λ made. slice_get (nodes c.conjunction.new.table) made ≡ Some (of_truth (t.and (the_truth (slice_get us c.args.a)) (the_truth (slice_get us c.in_ok-negated.negated)))))
    (λ made. slice_get (nodes c.conjunction.new.table) made ≡ Some (of_truth (t.and p (t.negation q))))
    (λ made at. at ∙ (λ i. Some (of_truth (t.and (left i) (right i)))))
    c.conjunction.ensures.node
