use Rattle.std.proofs.Common.{◌≡◌, ap, ◌∙◌, Some, slice_get}
use Rattle.std.proofs.lemmas.Result.{IfOk-weaker}
use Rattle.jh_form.specs.Tree.{of_truth}
use Rattle.jh_arena.specs.table.Entries.{the_set, the_truth}
use Rattle.jh_arena.specs.table.Nodes.{nodes}
use Rattle.jh_normal_forms.specs.set_opening.Joining.{joined}
use Rattle.jh_normal_forms.specs.set_opening.SetsOpened.{body}
use Rattle.jh_normal_forms.proofs.set_opening.Arms.{set-there, truth-there, set-at, truth-at, set-stays}
use Rattle.jh_normal_forms.proofs.set_opening.saying.said.Goals as goal

pub body-requires-2 : goal.body-requires-2
body-requires-2 c = record { set = set-there (slice_get (nodes c.body.new.table) c.args.b) _ (set-stays c.args.table.now c.body.new.table c.args.b c.body.ensures.grows c.requires.b) }

pub join_two-requires-clause-a : goal.join_two-requires-clause-a
join_two-requires-clause-a c = truth-there (slice_get (nodes c.body-2.new.table) c.in_ok-left.left) _ (c.body-2.ensures.grows.nodes.keeps c.in_ok-left.left _ c.in_ok-left.ensures.node)

pub join_two-requires-clause-b : goal.join_two-requires-clause-b
join_two-requires-clause-b c = truth-there (slice_get (nodes c.body-2.new.table) c.in_ok-right.right) _ c.in_ok-right.ensures.node

pub returns-clause-node : goal.returns-clause-node
returns-clause-node c =
    let us = nodes c.body-2.new.table in
    let p = body (the_set (slice_get (nodes c.args.table.now) c.args.a)) in
    let q = body (the_set (slice_get (nodes c.args.table.now) c.args.b)) in
    let left : the_truth (slice_get us c.in_ok-left.left) ≡ p = truth-at (slice_get us c.in_ok-left.left) p (c.body-2.ensures.grows.nodes.keeps c.in_ok-left.left _ c.in_ok-left.ensures.node) in
    let right : the_truth (slice_get us c.in_ok-right.right) ≡ q =
    truth-at (slice_get us c.in_ok-right.right) _ c.in_ok-right.ensures.node
    ∙ ap body (set-at (slice_get (nodes c.body.new.table) c.args.b) (the_set (slice_get (nodes c.args.table.now) c.args.b)) (set-stays c.args.table.now c.body.new.table c.args.b c.body.ensures.grows c.requires.b)) in
    IfOk-weaker
    c.join_two.result
    (λ made. slice_get (nodes c.join_two.new.table) made ≡ Some (of_truth (joined c.args.how (the_truth (slice_get us c.in_ok-left.left)) (the_truth (slice_get us c.in_ok-right.right)))))
    (λ made. slice_get (nodes c.join_two.new.table) made ≡ Some (of_truth (joined c.args.how p q)))
    (λ made at. at ∙ (λ i. Some (of_truth (joined c.args.how (left i) (right i)))))
    c.join_two.ensures.node
