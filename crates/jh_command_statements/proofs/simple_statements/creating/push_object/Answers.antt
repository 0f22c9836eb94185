use Rattle.std.proofs.Common.{[], ◌∷◌}
use Rattle.jh_arena.proofs.table.Listed.{extends-refl}
use Rattle.jh_form.specs.Tree as tree
use Rattle.jh_wp.specs.Command as w
use Rattle.jh_guard.specs.Steps.{fresh}
use Rattle.jh_guard.specs.Statements.{new_text, is_new}
use Rattle.jh_state_facts.proofs.changes.AddedSteps.{adds-two, adds-grown}
use Rattle.jh_command_terms.proofs.terms.CheckSteps.{whatever}
use Rattle.jh_command_statements.proofs.simple_statements.creating.push_object.Goals as goal

pub returns-clause-commands : goal.returns-clause-commands
returns-clause-commands c =
    let x = fresh new_text c.args.turn in
    let y = fresh new_text c.args.second in
    let old = c.args.commands.now.items in
    let new = c.push_is_new.new.commands.items in
    whatever c.object_at.result
    (adds-grown c.push_is_new.new.table c.object_at.new.table old new (w.havoc x y ∷ w.assume (is_new (tree.free_object x)) ∷ [])
    (adds-two c.args.table.now c.push_is_new.new.table old c.push_any.new.commands.items new (w.havoc x y ∷ []) (w.assume (is_new (tree.free_object x)) ∷ []) c.in_ok-push_any.ensures c.push_is_new.ensures.grows c.in_ok-push_is_new.ensures.commands)
    c.object_at.ensures.grows)
