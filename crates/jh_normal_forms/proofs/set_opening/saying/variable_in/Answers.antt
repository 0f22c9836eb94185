use Rattle.std.proofs.Common.{◌≡◌, ap, ◌∙◌, Some, slice_get}
use Rattle.std.proofs.lemmas.Result.{IfOk-weaker}
use Rattle.jh_form.specs.Tree.{of_object, of_set, of_truth}
use Rattle.jh_form.specs.Tree as t
use Rattle.jh_boxed.specs.Mapped.{mapped_set}
use Rattle.jh_arena.specs.table.Entries.{the_object, the_set}
use Rattle.jh_arena.specs.table.Nodes.{nodes}
use Rattle.jh_substitution.specs.simultaneous.Lifted.{lifting}
use Rattle.jh_normal_forms.proofs.set_opening.Arms.{object-there, set-there, object-at, set-at, set-inside, raised-set}
use Rattle.jh_normal_forms.proofs.set_opening.saying.variable_in.Goals as goal

pub lift-requires : goal.lift-requires
lift-requires c = set-inside (nodes c.args.table.now) c.args.set c.requires.set

pub member-requires-clause-a : goal.member-requires-clause-a
member-requires-clause-a c = object-there (slice_get (nodes c.bound.new.table) c.in_ok-variable.variable) _ c.in_ok-variable.ensures.node

pub member-requires-clause-b : goal.member-requires-clause-b
member-requires-clause-b c =
    set-there (slice_get (nodes c.bound.new.table) c.in_ok-risen.risen) _
    (c.bound.ensures.grows.nodes.keeps c.in_ok-risen.risen _ (c.in_ok-risen.ensures.tree ∙ ap (λ v. Some v) (raised-set (slice_get (nodes c.args.table.now) c.args.set) c.requires.set)))

pub returns-clause-node : goal.returns-clause-node
returns-clause-node c =
    let us = nodes c.bound.new.table in
    let a = mapped_set (the_set (slice_get (nodes c.args.table.now) c.args.set)) (lifting 1) 0 in
    let variable : the_object (slice_get us c.in_ok-variable.variable) ≡ t.bound 0 = object-at (slice_get us c.in_ok-variable.variable) (t.bound 0) c.in_ok-variable.ensures.node in
    let risen : the_set (slice_get us c.in_ok-risen.risen) ≡ a =
    set-at (slice_get us c.in_ok-risen.risen) a (c.bound.ensures.grows.nodes.keeps c.in_ok-risen.risen _ (c.in_ok-risen.ensures.tree ∙ ap (λ v. Some v) (raised-set (slice_get (nodes c.args.table.now) c.args.set) c.requires.set))) in
    IfOk-weaker
    c.member.result
    (λ made. slice_get (nodes c.member.new.table) made ≡ Some (of_truth (t.member (the_object (slice_get us c.in_ok-variable.variable)) (the_set (slice_get us c.in_ok-risen.risen)))))
    (λ made. slice_get (nodes c.member.new.table) made ≡ Some (of_truth (t.member (t.bound 0) a)))
    (λ made at. at ∙ (λ i. Some (of_truth (t.member (variable i) (risen i)))))
    c.member.ensures.node
