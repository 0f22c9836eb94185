use Rattle.std.proofs.Common.{◌≡◌, ap, ◌∙◌, Some, slice_get}
use Rattle.std.proofs.lemmas.Result.{IfOk-weaker}
use Rattle.jh_form.specs.Tree.{of_object, of_set, of_truth}
use Rattle.jh_form.specs.Tree as t
use Rattle.jh_arena.specs.table.Entries.{the_set, the_truth}
use Rattle.jh_arena.specs.table.Nodes.{nodes}
use Rattle.jh_normal_forms.specs.set_opening.Joining.{joined}
use Rattle.jh_normal_forms.specs.set_opening.SetsOpened.{body}
use Rattle.jh_normal_forms.proofs.set_opening.Arms.{truth-there, truth-at}
use Rattle.jh_normal_forms.proofs.set_opening.saying.said_of_each.Goals as goal

pub for_all-requires : goal.for_all-requires
for_all-requires c = record { a = truth-there (slice_get (nodes c.said.new.table) c.in_ok-formula.formula) _ c.in_ok-formula.ensures.node }

pub returns-clause-node : goal.returns-clause-node
returns-clause-node c =
    let us = nodes c.said.new.table in
    let p = joined c.args.how (body (the_set (slice_get (nodes c.args.table.now) c.args.a))) (body (the_set (slice_get (nodes c.args.table.now) c.args.b))) in
    IfOk-weaker
    c.for_all.result
    (λ made. slice_get (nodes c.for_all.new.table) made ≡ Some (of_truth (t.all (the_truth (slice_get us c.in_ok-formula.formula)))))
    (λ made. slice_get (nodes c.for_all.new.table) made ≡ Some (of_truth (t.all p)))
    (λ made at. at ∙ ap (λ f. Some (of_truth (t.all f))) (truth-at (slice_get us c.in_ok-formula.formula) p c.in_ok-formula.ensures.node))
    c.for_all.ensures.node
