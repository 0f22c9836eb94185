use Rattle.std.proofs.Common.{[], ◌∷◌, subst}
use Rattle.jh_form.specs.Tree.{of_object}
use Rattle.jh_form.specs.Tree as tree
use Rattle.jh_semantics.specs.Code.{Text}
use Rattle.jh_guard.specs.Steps.{fresh, put_field}
use Rattle.jh_guard.specs.Calls.{target_text}
use Rattle.jh_state_facts.specs.changes.Added.{AddsCommands}
use Rattle.jh_state_facts.proofs.changes.AddedSteps.{on-ok, adds-two}
use Rattle.jh_havoc.proofs.of_jh_command_statements.checks.StepSteps.{object-there}
use Rattle.jh_call_commands.proofs.calls.results.put_kept.Goals as goal

pub put_field-requires-clause-object : goal.put_field-requires-clause-object
put_field-requires-clause-object c =
    let a = tree.free_object (fresh target_text c.args.turn) in
    object-there c.assert_kept.new.table c.in_ok-node.node a (c.assert_kept.ensures.grows.nodes.keeps c.in_ok-node.node (of_object a) c.in_ok-node.ensures.node)

pub returns-clause-commands : goal.returns-clause-commands
returns-clause-commands c =
    let a = tree.free_object (fresh target_text c.args.turn) in
    let keeps = c.assert_kept.ensures.grows.nodes.keeps in
    on-ok c.put_field.result
    (λ told v h.
    adds-two c.assert_kept.new.table c.put_field.new.table c.args.commands.now.items c.assert_kept.new.commands.items c.put_field.new.commands.items _ _ c.in_ok-assert_kept.ensures.commands c.put_field.ensures.grows
    (subst (λ (x : Text). AddsCommands c.put_field.new.table c.assert_kept.new.commands.items c.put_field.new.commands.items (put_field x a v ∷ [])) c.text.ensures
    (told a v (keeps c.in_ok-node.node (of_object a) c.in_ok-node.ensures.node) (keeps c.args.value v (c.target_node.ensures.grows.nodes.keeps c.args.value v h)))))
    c.put_field.ensures.commands
