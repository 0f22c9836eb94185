use Rattle.std.proofs.Common.{◌≡◌, ap, ◌∙◌, Some, slice_get}
use Rattle.std.proofs.lemmas.Result.{IfOk-weaker}
use Rattle.jh_form.specs.Tree.{of_object, of_set, of_truth}
use Rattle.jh_form.specs.Tree as t
use Rattle.jh_boxed.specs.Mapped.{mapped_term}
use Rattle.jh_arena.specs.table.Entries.{the_object, the_truth}
use Rattle.jh_arena.specs.table.Nodes.{nodes}
use Rattle.jh_substitution.specs.simultaneous.Lifted.{lifting}
use Rattle.jh_normal_forms.proofs.set_opening.Arms.{object-there, truth-there, object-at, truth-at, object-inside, raised-object}
use Rattle.jh_normal_forms.proofs.set_opening.saying.only.Goals as goal

pub lift-requires : goal.lift-requires
lift-requires c = object-inside (nodes c.args.table.now) c.args.object c.requires.object

pub same_object-requires-clause-a : goal.same_object-requires-clause-a
same_object-requires-clause-a c = object-there (slice_get (nodes c.bound.new.table) c.in_ok-variable.variable) _ c.in_ok-variable.ensures.node

pub same_object-requires-clause-b : goal.same_object-requires-clause-b
same_object-requires-clause-b c =
    object-there (slice_get (nodes c.bound.new.table) c.in_ok-risen.risen) _
    (c.bound.ensures.grows.nodes.keeps c.in_ok-risen.risen _ (c.in_ok-risen.ensures.tree ∙ ap (λ v. Some v) (raised-object (slice_get (nodes c.args.table.now) c.args.object) c.requires.object)))

pub comprehension-requires : goal.comprehension-requires
comprehension-requires c = record { a = truth-there (slice_get (nodes c.same_object.new.table) c.in_ok-same.same) _ c.in_ok-same.ensures.node }

pub returns-clause-node : goal.returns-clause-node
returns-clause-node c =
    let us = nodes c.bound.new.table in
    let a = mapped_term (the_object (slice_get (nodes c.args.table.now) c.args.object)) (lifting 1) 0 in
    let variable : the_object (slice_get us c.in_ok-variable.variable) ≡ t.bound 0 = object-at (slice_get us c.in_ok-variable.variable) (t.bound 0) c.in_ok-variable.ensures.node in
    let risen : the_object (slice_get us c.in_ok-risen.risen) ≡ a =
    object-at (slice_get us c.in_ok-risen.risen) a (c.bound.ensures.grows.nodes.keeps c.in_ok-risen.risen _ (c.in_ok-risen.ensures.tree ∙ ap (λ v. Some v) (raised-object (slice_get (nodes c.args.table.now) c.args.object) c.requires.object))) in
    let same : the_truth (slice_get (nodes c.same_object.new.table) c.in_ok-same.same) ≡ t.eq_object (t.bound 0) a =
    truth-at (slice_get (nodes c.same_object.new.table) c.in_ok-same.same) _ c.in_ok-same.ensures.node ∙ (λ i. t.eq_object (variable i) (risen i)) in
    IfOk-weaker
    c.comprehension.result
    (λ made. slice_get (nodes c.comprehension.new.table) made ≡ Some (of_set (t.compr (the_truth (slice_get (nodes c.same_object.new.table) c.in_ok-same.same)))))
    (λ made. slice_get (nodes c.comprehension.new.table) made ≡ Some (of_set (t.compr (t.eq_object (t.bound 0) a))))
    (λ made at. at ∙ ap (λ f. Some (of_set (t.compr f))) same)
    c.comprehension.ensures.node
