use Rattle.std.proofs.Common.{sym, map, option_map, subst, Option}
use Rattle.jh_guard.specs.Calls.{at_call, renamed_by, assume_ensures}
use Rattle.jh_semantics.specs.declared.typed_code.stmts.Claim.{Claim}
use Rattle.jh_semantics.specs.typed_code.Statements.{local_in, claim_in}
use Rattle.jh_state_facts.specs.changes.Added.{AddsCommands}
use Rattle.jh_state_facts.proofs.changes.AddedSteps.{on-ok, adds-none}
use Rattle.jh_call_commands.specs.calls.TurnsOf.{turns_in}
use Rattle.jh_call_commands.proofs.calls.ContractSteps.{calling-is}
use Rattle.jh_call_commands.proofs.calls.after.push_ensures.Goals as goal

pub returns-in-None-clause-commands : goal.returns-in-None-clause-commands
returns-in-None-clause-commands c = λ p test are texts.
    let old = c.args.commands.now.items in
    subst (λ (o : Option Claim). AddsCommands c.args.table.now old old (assume_ensures (at_call (turns_in c.args.turns.now) (map local_in c.args.called.now.method.now.params) test) (option_map (claim_in p) o))) (sym c.in-None.is)
    (adds-none c.args.table.now old)

pub returns-in-Some-clause-commands : goal.returns-in-Some-clause-commands
returns-in-Some-clause-commands c =
    let called = c.args.called.now in
    let calling = c.calling_of-calling.result in
    on-ok c.push_claimed.result
    (λ h p test are texts.
    let f = at_call (turns_in c.args.turns.now) (map local_in called.method.now.params) test in
    subst (λ (o : Option Claim). AddsCommands c.push_claimed.new.table c.args.commands.now.items c.push_claimed.new.commands.items (assume_ensures f (option_map (claim_in p) o))) (sym c.in-Some.is)
    (h p (renamed_by f) are (calling-is (turns_in c.args.turns.now) calling test called.method.now.params called.written.now c.calling_of-calling.ensures.params c.calling_of-calling.ensures.written c.calling_of-calling.ensures.turns texts)))
    c.push_claimed.ensures.commands
