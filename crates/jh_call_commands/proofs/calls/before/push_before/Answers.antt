use Rattle.jh_state_facts.proofs.changes.AddedSteps.{on-ok, adds-two}
use Rattle.jh_havoc.proofs.of_jh_command_statements.checks.ToldSteps.{formulas-grow}
use Rattle.jh_call_commands.specs.calls.Called.{callee_of}
use Rattle.jh_call_commands.proofs.calls.before.push_before.Goals as goal

pub returns-clause-commands : goal.returns-clause-commands
returns-clause-commands c =
    let t0 = c.args.table.now in
    let t1 = c.push_kept.new.table in
    let t2 = c.push_requires.new.table in
    let t3 = c.push_owed.new.table in
    let old = c.args.commands.now.items in
    let formulas = c.args.around.now.formulas.now in
    on-ok c.push_owed.result
    (λ h p g ws wf is.
    let told1 = formulas-grow t0 t1 c.push_kept.ensures.grows p formulas is.formulas in
    let told2 = formulas-grow t1 t2 c.push_requires.ensures.grows p formulas told1 in
    adds-two t2 t3 old c.push_requires.new.commands.items c.push_owed.new.commands.items _ _
    (adds-two t1 t2 old c.push_kept.new.commands.items c.push_requires.new.commands.items _ _ c.in_ok-push_kept.ensures.commands c.push_requires.ensures.grows (c.in_ok-push_requires.ensures.commands p (ws.written (callee_of c.args.call.now)) told1 is.texts))
    c.push_owed.ensures.grows (h p g told2 is.invariants))
    c.push_owed.ensures.commands
