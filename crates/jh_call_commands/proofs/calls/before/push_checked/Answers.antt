use Rattle.std.proofs.Common.{List, ◌++◌, sym, map, option_map, subst}
use Rattle.jh_guard.specs.Terms.{Check, value_term}
use Rattle.jh_guard.specs.Steps.{target_checks}
use Rattle.jh_guard.specs.Calls as guard
use Rattle.jh_semantics.specs.declared.typed_code.stmts.CallCode.{CallCode}
use Rattle.jh_semantics.specs.typed_code.Codes.{object_code, any_code}
use Rattle.jh_semantics.specs.typed_code.Statements.{target_in}
use Rattle.jh_command_terms.specs.declared.terms.checks.CheckNode.{CheckNode}
use Rattle.jh_command_terms.specs.terms.Checks.{AreChecks, AddsChecks}
use Rattle.jh_command_terms.proofs.terms.CheckSteps.{added-to-none, are-facts}
use Rattle.jh_call_commands.proofs.calls.TermSteps.{receiver-grows, kept-grows, values-grow}
use Rattle.jh_call_commands.proofs.calls.before.push_checked.Goals as goal

abbrev checked : CallCode → List Check
checked x = target_checks (target_in x.target) ++ guard.receiver_value_checks (option_map object_code x.receiver) ++ guard.all_checks (map any_code x.args) ++ guard.called_checks (option_map object_code x.receiver) x.receiver_place

pub assert_checks-requires : goal.assert_checks-requires
assert_checks-requires c =
    let t = c.call_terms.new.table in
    let cs = checked c.args.call.now in
    let first = subst (λ (xs : List CheckNode). AddsChecks t xs c.call_terms.new.checks.items cs) c.new-checks.ensures.items c.in_ok-kept.ensures.checks in
    are-facts t c.as_slice.result.now cs (subst (λ (xs : List CheckNode). AreChecks t xs cs) (sym c.as_slice.ensures.value) (added-to-none t c.call_terms.new.checks.items cs first))

pub returns-clause-commands : goal.returns-clause-commands
returns-clause-commands c =
    let t = c.call_terms.new.table in
    let cs = checked c.args.call.now in
    let first = subst (λ (xs : List CheckNode). AddsChecks t xs c.call_terms.new.checks.items cs) c.new-checks.ensures.items c.in_ok-kept.ensures.checks in
    c.in_ok-assert_checks.ensures.commands cs (subst (λ (xs : List CheckNode). AreChecks t xs cs) (sym c.as_slice.ensures.value) (added-to-none t c.call_terms.new.checks.items cs first))

pub returns-clause-target : goal.returns-clause-target
returns-clause-target c = receiver-grows c.call_terms.new.table c.assert_checks.new.table c.in_ok-kept.kept.target (target_in c.args.call.now.target) c.assert_checks.ensures.grows c.in_ok-kept.ensures.target

pub returns-clause-receiver : goal.returns-clause-receiver
returns-clause-receiver c = kept-grows c.call_terms.new.table c.assert_checks.new.table c.in_ok-kept.kept.receiver (option_map object_code c.args.call.now.receiver) c.assert_checks.ensures.grows c.in_ok-kept.ensures.receiver

pub returns-clause-args : goal.returns-clause-args
returns-clause-args c = values-grow c.call_terms.new.table c.assert_checks.new.table c.in_ok-kept.kept.args.items (map value_term (map any_code c.args.call.now.args)) c.assert_checks.ensures.grows c.in_ok-kept.ensures.args
