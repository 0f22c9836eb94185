use Rattle.std.proofs.Common.{[], ◌∷◌, ◌∙◌, ap, sym, subst, slice_get}
use Rattle.jh_form.specs.Tree.{of_object}
use Rattle.jh_form.specs.Tree as tree
use Rattle.jh_form.specs.declared.mark.MarkKind.TheVariants as kind
use Rattle.jh_wp.specs.Command as w
use Rattle.jh_semantics.specs.Code.{Text}
use Rattle.jh_semantics.specs.State.{named}
use Rattle.jh_guard.specs.Steps.{mark_without_name, put_field}
use Rattle.jh_arena.specs.table.Entries.{the_object}
use Rattle.jh_arena.specs.table.Nodes.{nodes}
use Rattle.jh_arena.proofs.table.Children.{it-is-object}
use Rattle.jh_semantics.specs.LoweredStmts.{of_kind, class_before_dot}
use Rattle.jh_semantics.specs.typed_code.Statements.{value_of}
use Rattle.jh_state_facts.specs.changes.Added.{AddsCommands}
use Rattle.jh_state_facts.proofs.changes.AddedSteps.{on-ok}
use Rattle.jh_command_statements.specs.declared.simple_statements.ghosts.Left.{Left}
use Rattle.jh_command_statements.specs.simple_statements.Ghosts.{ghost_commands, left_in, object_stands}
use Rattle.jh_command_statements.proofs.simple_statements.CheckedSteps.{object-there}
use Rattle.jh_command_statements.proofs.simple_statements.setting.push_left.Goals as goal

pub push_read-requires-clause-object : goal.push_read-requires-clause-object
push_read-requires-clause-object c =
    let t = c.args.table.now in
    let n = c.in-Read.object in
    let a = the_object (slice_get (nodes t) n) in
    object-there c.kind_value-in-Read.new.table n a
    (c.kind_value-in-Read.ensures.grows.nodes.keeps n (of_object a) (it-is-object (slice_get (nodes t) n) (sym (ap (object_stands t) c.in-Read.is) ∙ c.requires)))

pub returns-in_ok-value-in-Read-clause-commands : goal.returns-in_ok-value-in-Read-clause-commands
returns-in_ok-value-in-Read-clause-commands c =
    let t = c.args.table.now in
    let n = c.in-Read.object in
    let a = the_object (slice_get (nodes t) n) in
    on-ok c.push_read.result
    (λ h p told.
    subst (λ (x : Left). AddsCommands c.push_read.new.table c.args.commands.now.items c.push_read.new.commands.items (ghost_commands c.args.place (left_in t x) (value_of p c.args.number))) (sym c.in-Read.is)
    (subst (λ (z : Text). AddsCommands c.push_read.new.table c.args.commands.now.items c.push_read.new.commands.items (w.assert (tree.mark (mark_without_name kind.Assert c.args.place) (tree.member a (tree.free_set (named (class_before_dot z))))) ∷ put_field z a (of_kind c.in-Read.kind (value_of p c.args.number)) ∷ [])) c.text-in-Read.ensures
    (h a (of_kind c.in-Read.kind (value_of p c.args.number)) (c.kind_value-in-Read.ensures.grows.nodes.keeps n (of_object a) (it-is-object (slice_get (nodes t) n) (sym (ap (object_stands t) c.in-Read.is) ∙ c.requires))) (c.in_ok-value-in-Read.ensures.node p told))))
    c.push_read.ensures.commands
