use Rattle.std.proofs.Common.{[], ◌∷◌, codes}
use Rattle.jh_form.specs.Tree as tree
use Rattle.jh_wp.specs.Command as w
use Rattle.jh_semantics.specs.State.{named}
use Rattle.jh_guard.specs.Steps.{fresh}
use Rattle.jh_guard.specs.Statements.{new_text, is_new, joins}
use Rattle.jh_state_facts.proofs.changes.AddedSteps.{adds-two}
use Rattle.jh_command_statements.proofs.simple_statements.creating.push_steps.Goals as goal

pub returns-clause-commands : goal.returns-clause-commands
returns-clause-commands c =
    let x = fresh new_text c.args.turn in
    let y = fresh new_text c.args.second in
    let a = tree.free_object x in
    adds-two c.push_object.new.table c.push_both.new.table c.args.commands.now.items c.push_object.new.commands.items c.push_both.new.commands.items (w.havoc x y ∷ w.assume (is_new a) ∷ []) (joins (named (codes "alloc")) a ∷ joins (named c.args.class.now) a ∷ []) c.in_ok-object.ensures.commands c.push_both.ensures.grows
    (c.in_ok-push_both.ensures.commands a c.in_ok-object.ensures.node)
