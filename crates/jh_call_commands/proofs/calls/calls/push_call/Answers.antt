use Rattle.std.proofs.Common.{ap, map, option_map, subst}
use Rattle.jh_form.specs.Tree.{of_truth}
use Rattle.jh_guard.specs.Calls.{CallTurns, call_commands}
use Rattle.jh_semantics.specs.typed_code.Codes.{object_code, any_code}
use Rattle.jh_semantics.specs.typed_code.Statements.{target_in, method_in}
use Rattle.jh_state_facts.specs.changes.Added.{AddsCommands}
use Rattle.jh_state_facts.proofs.changes.AddedSteps.{adds-two}
use Rattle.jh_call_commands.specs.calls.Called.{callee_of}
use Rattle.jh_call_commands.specs.calls.TurnsOf.{turns_in}
use Rattle.jh_call_commands.proofs.calls.ContractSteps.{turns-are, called-grows, truth-stays}
use Rattle.jh_call_commands.proofs.calls.calls.push_call.Goals as goal

pub push_after-requires : goal.push_after-requires
push_after-requires c = truth-stays c.args.table.now c.push_before.new.table c.args.well_formed c.push_before.ensures.grows c.requires

pub returns-clause-commands : goal.returns-clause-commands
returns-clause-commands c = λ p g ws wf is at.
    let t0 = c.args.table.now in
    let t1 = c.push_before.new.table in
    let t2 = c.push_after.new.table in
    let call = c.args.call.now in
    let called = c.args.called.now in
    let around = c.args.around.now in
    subst (λ (u : CallTurns). AddsCommands t2 c.args.commands.now.items c.push_after.new.commands.items (call_commands g ws wf call.place (target_in call.target) (option_map object_code call.receiver) call.receiver_place (callee_of call) (method_in p called.method.now) (map any_code call.args) u))
    (turns-are p g ws t0 around call called c.args.turn (turns_in c.in_ok-turns.turns) is c.in_ok-turns.ensures)
    (adds-two t1 t2 c.args.commands.now.items c.push_before.new.commands.items c.push_after.new.commands.items _ _ (c.in_ok-push_before.ensures.commands p g ws wf is) c.push_after.ensures.grows
    (c.in_ok-push_after.ensures.commands p g ws wf (called-grows p g ws (callee_of call) t0 t1 around called c.push_before.ensures.grows is) (c.push_before.ensures.grows.nodes.keeps c.args.well_formed (of_truth wf) at)))

pub returns-clause-next : goal.returns-clause-next
returns-clause-next c = λ p g ws is. ap (λ (u : CallTurns). u.next) (turns-are p g ws c.args.table.now c.args.around.now c.args.call.now c.args.called.now c.args.turn (turns_in c.in_ok-turns.turns) is c.in_ok-turns.ensures)
