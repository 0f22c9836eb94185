use Rattle.std.proofs.Common.{[], ◌∷◌, codes, slice_get}
use Rattle.jh_form.specs.Tree.{of_object}
use Rattle.jh_arena.specs.table.Entries.{the_object}
use Rattle.jh_arena.specs.table.Nodes.{nodes}
use Rattle.jh_arena.proofs.table.Children.{it-is-object}
use Rattle.jh_semantics.specs.State.{named}
use Rattle.jh_guard.specs.Statements.{joins}
use Rattle.jh_state_facts.proofs.changes.AddedSteps.{adds-two, on-ok}
use Rattle.jh_command_statements.proofs.simple_statements.CheckedSteps.{object-there}
use Rattle.jh_command_statements.proofs.simple_statements.creating.push_both.Goals as goal

pub push_joins-requires-2 : goal.push_joins-requires-2
push_joins-requires-2 c =
    let a = the_object (slice_get (nodes c.args.table.now) c.args.object) in
    object-there c.push_joins.new.table c.args.object a (c.push_joins.ensures.grows.nodes.keeps c.args.object (of_object a) (it-is-object (slice_get (nodes c.args.table.now) c.args.object) c.requires))

pub returns-clause-commands : goal.returns-clause-commands
returns-clause-commands c =
    on-ok c.push_joins-2.result
    (λ h a e.
    adds-two c.push_joins.new.table c.push_joins-2.new.table c.args.commands.now.items c.push_joins.new.commands.items c.push_joins-2.new.commands.items (joins (named (codes "alloc")) a ∷ []) (joins (named c.args.class.now) a ∷ []) (c.in_ok-push_joins.ensures.commands a e) c.push_joins-2.ensures.grows
    (h a (c.push_joins.ensures.grows.nodes.keeps c.args.object (of_object a) e)))
    c.push_joins-2.ensures.commands
