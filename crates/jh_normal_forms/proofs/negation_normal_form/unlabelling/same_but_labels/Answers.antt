use Rattle.std.proofs.Common.{◌≡◌, ap, ◌∙◌, Some, slice_get}
use Rattle.jh_substitution.specs.jh_boxed_operations.comparison.Unmarked.{unmarked_value}
use Rattle.jh_arena.specs.table.Entries.{the_value}
use Rattle.jh_arena.specs.table.Nodes.{nodes}
use Rattle.jh_normal_forms.proofs.negation_normal_form.Arms.{inside-stays, value-stays, same-nodes}
use Rattle.jh_normal_forms.proofs.negation_normal_form.unlabelling.same_but_labels.Goals as goal

pub unlabelled-requires-2 : goal.unlabelled-requires-2
unlabelled-requires-2 c = record {
  inside = inside-stays (nodes c.args.table.now) (nodes c.unlabelled.new.table) c.args.b c.unlabelled.ensures.grows.nodes c.requires.b;
}

pub returns-clause-same : goal.returns-clause-same
returns-clause-same c =
    let v = unmarked_value (the_value (slice_get (nodes c.args.table.now) c.args.a)) in
    let w = unmarked_value (the_value (slice_get (nodes c.args.table.now) c.args.b)) in
    let us = nodes c.unlabelled-2.new.table in
    let there : slice_get us c.in_ok-left.left ≡ Some v = c.unlabelled-2.ensures.grows.nodes.keeps c.in_ok-left.left v c.in_ok-left.ensures.tree in
    let here : slice_get us c.in_ok-right.right ≡ Some w =
    c.in_ok-right.ensures.tree ∙ ap (λ o. Some (unmarked_value (the_value o))) (value-stays (nodes c.args.table.now) (nodes c.unlabelled.new.table) c.args.b c.unlabelled.ensures.grows.nodes c.requires.b) in
    same-nodes us c.in_ok-left.left c.in_ok-right.right v w c.nodes_differ.ensures.different there here
