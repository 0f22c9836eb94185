use Rattle.std.proofs.Common.{◌≡◌, ap, ◌∙◌, Some, slice_get}
use Rattle.std.proofs.lemmas.Result.{IfOk-weaker}
use Rattle.jh_ast.specs.Bare.{form_tree}
use Rattle.jh_form.specs.Tree.{of_object, of_truth}
use Rattle.jh_form.specs.Tree as t
use Rattle.jh_arena.specs.table.Entries.{the_value, the_object, fields_at}
use Rattle.jh_arena.specs.table.Nodes.{nodes}
use Rattle.jh_vars.specs.Resolved as r
use Rattle.jh_resolution.specs.Spots.{path_in}
use Rattle.jh_resolution.proofs.Members.{is-object-at, object-of}
use Rattle.jh_resolution.proofs.fields.reach_of.Goals as goal

-- src/fields.rt
pub reach-requires-clause-a : goal.reach-requires-clause-a
reach-requires-clause-a c = is-object-at (slice_get (nodes c.path_nodes.new.table) c.in_ok-two.two.left) (r.as_object (the_value (slice_get (nodes c.args.table.now) c.args.left))) (c.in_ok-fields.ensures.grows.nodes.keeps c.in_ok-two.two.left _ c.in_ok-two.ensures.left)

-- src/fields.rt
pub reach-requires-clause-b : goal.reach-requires-clause-b
reach-requires-clause-b c = is-object-at (slice_get (nodes c.path_nodes.new.table) c.in_ok-two.two.right) (r.as_object (the_value (slice_get (nodes c.args.table.now) c.args.right))) (c.in_ok-fields.ensures.grows.nodes.keeps c.in_ok-two.two.right _ c.in_ok-two.ensures.right)

-- src/fields.rt
pub returns-clause-node : goal.returns-clause-node
returns-clause-node c =
    let old = nodes c.args.table.now in
    let mid = nodes c.path_nodes.new.table in
    let new = nodes c.reach.new.table in
    let a = r.as_object (the_value (slice_get old c.args.left)) in
    let b = r.as_object (the_value (slice_get old c.args.right)) in
    let path = path_in c.args.context.now c.args.at.now c.args.path.now.first.now c.args.path.now.second.now (form_tree c.args.path.now.body.now) in
    IfOk-weaker
    c.reach.result
    (λ made. slice_get new made ≡ Some (of_truth (t.reach (fields_at mid c.as_slice.result.now) (the_object (slice_get mid c.in_ok-two.two.left)) (the_object (slice_get mid c.in_ok-two.two.right)))))
    (λ made. slice_get new made ≡ Some (of_truth (t.reach path a b)))
    (λ made e. e ∙ (λ i. Some (of_truth (t.reach ((ap (fields_at mid) c.as_slice.ensures.value ∙ c.in_ok-fields.ensures.trees) i)
    (object-of (slice_get mid c.in_ok-two.two.left) a (c.in_ok-fields.ensures.grows.nodes.keeps c.in_ok-two.two.left _ c.in_ok-two.ensures.left) i)
    (object-of (slice_get mid c.in_ok-two.two.right) b (c.in_ok-fields.ensures.grows.nodes.keeps c.in_ok-two.two.right _ c.in_ok-two.ensures.right) i)))))
    c.reach.ensures.node
