use Rattle.std.proofs.Common.{[], ◌∷◌, slice_get, ap, subst}
use Rattle.jh_form.specs.Tree.{of_object}
use Rattle.jh_form.specs.Tree as tree
use Rattle.jh_form.specs.declared.mark.MarkKind.TheVariants as kind
use Rattle.jh_wp.specs.Command as w
use Rattle.jh_semantics.specs.Code.{Text}
use Rattle.jh_semantics.specs.State.{named}
use Rattle.jh_semantics.specs.LoweredStmts.{class_before_dot}
use Rattle.jh_guard.specs.Steps.{mark_without_name, put_field}
use Rattle.jh_arena.specs.table.Entries.{the_object}
use Rattle.jh_arena.specs.table.Nodes.{nodes}
use Rattle.jh_arena.proofs.table.Children.{it-is-object}
use Rattle.jh_state_facts.specs.changes.Added.{AddsCommands}
use Rattle.jh_state_facts.proofs.changes.AddedSteps.{adds-two, on-ok}
use Rattle.jh_command_statements.proofs.simple_statements.CheckedSteps.{object-there}
use Rattle.jh_command_statements.proofs.simple_statements.setting.push_read.Goals as goal

pub put_field-requires-clause-object : goal.put_field-requires-clause-object
put_field-requires-clause-object c =
    let a = the_object (slice_get (nodes c.args.table.now) c.args.object) in
    object-there c.push_member.new.table c.args.object a (c.push_member.ensures.grows.nodes.keeps c.args.object (of_object a) (it-is-object (slice_get (nodes c.args.table.now) c.args.object) c.requires.object))

pub returns-clause-commands : goal.returns-clause-commands
returns-clause-commands c =
    let t = c.push_member.new.table in
    let old = c.args.commands.now.items in
    let mid = c.push_member.new.commands.items in
    on-ok c.put_field.result
    (λ h a v e f.
    adds-two t c.put_field.new.table old mid c.put_field.new.commands.items (w.assert (tree.mark (mark_without_name kind.Assert c.args.place) (tree.member a (tree.free_set (named (class_before_dot c.args.field.now))))) ∷ []) (put_field c.args.field.now a v ∷ [])
    (subst (λ (x : Text). AddsCommands t old mid (w.assert (tree.mark (mark_without_name kind.Assert c.args.place) (tree.member a (tree.free_set (named x)))) ∷ [])) c.class_before_dot.ensures (c.in_ok-push_member.ensures.commands a e)) c.put_field.ensures.grows
    (h a v (c.push_member.ensures.grows.nodes.keeps c.args.object (of_object a) e) (c.push_member.ensures.grows.nodes.keeps c.args.value v f)))
    c.put_field.ensures.commands
