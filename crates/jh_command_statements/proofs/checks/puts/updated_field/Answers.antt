use Rattle.std.proofs.Common.{◌≡◌, ◌∙◌, ap, Some, slice_get}
use Rattle.jh_form.specs.Tree.{of_object, of_field}
use Rattle.jh_form.specs.Tree as tree
use Rattle.jh_arena.specs.table.Nodes.{nodes}
use Rattle.jh_semantics.specs.State.{named}
use Rattle.jh_command_statements.proofs.checks.StepSteps.{if-ok, field-there, field-is, object-is, object-stays, value-is}
use Rattle.jh_command_statements.proofs.checks.puts.updated_field.Goals as goal

pub update-requires-clause-a : goal.update-requires-clause-a
update-requires-clause-a c = field-there c.free_field.new.table c.in_ok-old.old (tree.free_field c.in_ok-plain.plain) c.in_ok-old.ensures.node

pub update-requires-clause-b : goal.update-requires-clause-b
update-requires-clause-b c = object-stays c.args.table.now c.free_field.new.table c.args.object c.free_field.ensures.grows c.requires.object

pub returns-clause-node : goal.returns-clause-node
returns-clause-node c =
    let t = c.free_field.new.table in
    let keeps = c.free_field.ensures.grows.nodes.keeps in
    let field : slice_get (nodes t) c.in_ok-old.old ≡ Some (of_field (tree.free_field (named c.args.field.now))) = c.in_ok-old.ensures.node ∙ ap (λ x. Some (of_field (tree.free_field x))) c.in_ok-plain.ensures in
    if-ok c.update.result
    (λ made node a v h k.
    node ∙ (λ i. Some (of_field (tree.update (field-is t c.in_ok-old.old (tree.free_field (named c.args.field.now)) field i) (object-is t c.args.object a (keeps c.args.object (of_object a) h) i) (value-is t c.args.value v (keeps c.args.value v k) i)))))
    c.update.ensures.node
