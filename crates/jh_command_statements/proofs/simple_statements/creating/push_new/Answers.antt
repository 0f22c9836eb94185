use Rattle.std.proofs.Common.{ℕ, [], ◌∷◌, ◌++◌, codes, subst, suc}
use Rattle.jh_form.specs.Tree as tree
use Rattle.jh_wp.specs.Command as w
use Rattle.jh_semantics.specs.State.{named}
use Rattle.jh_guard.specs.Steps.{fresh, assert_checks, target_checks, put}
use Rattle.jh_guard.specs.Statements.{new_text, is_new, joins, new_steps}
use Rattle.jh_semantics.specs.typed_code.Statements.{target_in}
use Rattle.jh_state_facts.specs.changes.Added.{AddsCommands}
use Rattle.jh_state_facts.proofs.changes.AddedSteps.{adds-two}
use Rattle.jh_arena.proofs.table.Listed.{extends-trans}
use Rattle.jh_command_statements.proofs.simple_statements.CheckedSteps.{receiver-grows}
use Rattle.jh_command_statements.proofs.simple_statements.creating.push_new.Goals as goal

pub put-requires-clause-receiver : goal.put-requires-clause-receiver
put-requires-clause-receiver c = receiver-grows c.push_target.new.table c.push_steps.new.table c.in_ok-receiver.receiver (target_in c.args.target.now) c.push_steps.ensures.grows c.in_ok-receiver.ensures.receiver

pub returns-clause-commands : goal.returns-clause-commands
returns-clause-commands c =
    let old = c.args.commands.now.items in
    let m1 = c.push_target.new.commands.items in
    let m2 = c.push_steps.new.commands.items in
    let new = c.put.new.commands.items in
    let t1 = c.push_target.new.table in
    let t2 = c.push_steps.new.table in
    let t3 = c.put.new.table in
    let x = fresh new_text c.args.turn in
    let y = fresh new_text c.in_ok-second.second in
    let a = tree.free_object x in
    let target = target_in c.args.target.now in
    let four = w.havoc x y ∷ w.assume (is_new a) ∷ joins (named (codes "alloc")) a ∷ joins (named c.args.class.now) a ∷ [] in
    subst (λ (k : ℕ). AddsCommands t3 old new (assert_checks (target_checks target) ++ new_steps target c.args.class.now x (fresh new_text k))) c.in_ok-second.ensures
    (adds-two t1 t3 old m1 new (assert_checks (target_checks target)) (four ++ put target (tree.of_object a)) c.in_ok-receiver.ensures.commands (extends-trans t1 t2 t3 c.push_steps.ensures.grows c.put.ensures.grows)
    (adds-two t2 t3 m1 m2 new four (put target (tree.of_object a)) c.in_ok-object.ensures.commands c.put.ensures.grows (c.in_ok-put.ensures.commands (tree.of_object a) c.in_ok-object.ensures.node)))
