use Rattle.std.proofs.Common.{ℕ, List, ◌∷◌, ◌++◌, map, subst, sym, codes}
use Rattle.jh_form.specs.Tree as tree
use Rattle.jh_wp.specs.Command as w
use Rattle.jh_semantics.specs.Program.{Member}
use Rattle.jh_semantics.specs.WellFormed.{lies_in}
use Rattle.jh_guard.specs.Items.{Sorted, items_where}
use Rattle.jh_guard.specs.Frames.{frame_fact}
use Rattle.jh_guard.specs.Steps.{fresh, changed, growth, assume_named}
use Rattle.jh_guard.specs.Calls.{old_alloc, result_text}
use Rattle.jh_state_facts.specs.changes.Added.{AddsCommands}
use Rattle.jh_call_commands.specs.calls.Called.{callee_of}
use Rattle.jh_arena.proofs.table.Listed.{extends-trans}
use Rattle.jh_state_facts.proofs.changes.AddedSteps.{on-ok, adds-two}
use Rattle.jh_havoc.proofs.of_jh_command_statements.checks.ToldSteps.{formulas-grow}
use Rattle.jh_call_commands.proofs.calls.after.push_after.Goals as goal

pub returns-clause-commands : goal.returns-clause-commands
returns-clause-commands c =
    let t0 = c.args.table.now in
    let t1 = c.push_state.new.table in
    let t2 = c.push_framed.new.table in
    let t3 = c.push_ensures.new.table in
    let t4 = c.push_owed.new.table in
    let t5 = c.push_typed.new.table in
    let t6 = c.put_result.new.table in
    let old = c.args.commands.now.items in
    let m1 = c.push_state.new.commands.items in
    let m2 = c.push_framed.new.commands.items in
    let m3 = c.push_ensures.new.commands.items in
    let m4 = c.push_owed.new.commands.items in
    let m5 = c.push_typed.new.commands.items in
    let new = c.put_result.new.commands.items in
    let k = c.args.turns.now.copies in
    let m = callee_of c.args.call.now in
    let formulas = c.args.around.now.formulas.now in
    on-ok c.put_result.result
    (λ h p g ws wf is at.
    let told2 = formulas-grow t0 t2 (extends-trans t0 t1 t2 c.push_state.ensures.grows c.push_framed.ensures.grows) p formulas is.formulas in
    let told3 = formulas-grow t2 t3 c.push_ensures.ensures.grows p formulas told2 in
    adds-two t5 t6 old m5 new _ _
    (adds-two t4 t5 old m4 m5 _ _
    (adds-two t3 t4 old m3 m4 _ _
    (adds-two t2 t3 old m2 m3 _ _
    (adds-two t1 t2 old m1 m2 _ _
    (subst (λ (xs : List Sorted). AddsCommands t1 old m1 (changed xs k ++ (assume_named (codes "wf") c.args.call.now.place wf ∷ growth k (items_where g (ws.written m))))) is.written
    (c.in_ok-push_state.ensures.commands wf (items_where g (ws.written m)) at is.sets))
    c.push_framed.ensures.grows
    (subst (λ (xs : List Member). AddsCommands t2 m1 m2 (map (λ f. w.assume f) (map (frame_fact (old_alloc (ws.written m) k) k) xs))) is.framed (c.in_ok-push_framed.ensures.commands c.args.around.now.classes.now (ws.written m) is.texts)))
    c.push_ensures.ensures.grows (c.in_ok-push_ensures.ensures.commands p (ws.written m) told2 is.texts))
    c.push_owed.ensures.grows (c.in_ok-push_owed.ensures.commands p g told3 is.invariants))
    c.push_typed.ensures.grows
    (subst (λ (cs : List (List ℕ)). AddsCommands t5 m4 m5 (map (λ f. w.assume f) (lies_in cs c.args.called.now.method.now.result (tree.free_object (fresh result_text c.args.turns.now.result))))) (sym is.classes) c.in_ok-push_typed.ensures.commands))
    c.put_result.ensures.grows h)
    c.put_result.ensures.commands
