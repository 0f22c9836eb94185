use Rattle.std.proofs.Common.{[], ◌∷◌, subst}
use Rattle.jh_form.specs.Tree.{of_object}
use Rattle.jh_semantics.specs.Code.{Text}
use Rattle.jh_guard.specs.Steps.{put_field}
use Rattle.jh_state_facts.specs.changes.Added.{AddsCommands}
use Rattle.jh_guard.specs.Terms.{object_term}
use Rattle.jh_semantics.specs.typed_code.Codes.{object_code}
use Rattle.jh_state_facts.proofs.changes.AddedSteps.{adds-two}
use Rattle.jh_command_statements.proofs.checks.StepSteps.{on-ok, object-there}
use Rattle.jh_command_statements.proofs.checks.puts.put_at.Goals as goal

pub put_field-requires-clause-object : goal.put_field-requires-clause-object
put_field-requires-clause-object c =
    let a = object_term (object_code c.args.receiver.now) in
    object-there c.assert_receiver.new.table c.args.node a (c.assert_receiver.ensures.grows.nodes.keeps c.args.node (of_object a) c.requires.node)

pub returns-clause-commands : goal.returns-clause-commands
returns-clause-commands c =
    let a = object_term (object_code c.args.receiver.now) in
    let keeps = c.assert_receiver.ensures.grows.nodes.keeps in
    on-ok c.put_field.result
    (λ told v h.
    adds-two c.assert_receiver.new.table c.put_field.new.table c.args.commands.now.items c.assert_receiver.new.commands.items c.put_field.new.commands.items _ _ c.in_ok-assert_receiver.ensures.commands c.put_field.ensures.grows
    (subst (λ (x : Text). AddsCommands c.put_field.new.table c.assert_receiver.new.commands.items c.put_field.new.commands.items (put_field x a v ∷ [])) c.text.ensures (told a v (keeps c.args.node (of_object a) c.requires.node) (keeps c.args.value v h))))
    c.put_field.ensures.commands
