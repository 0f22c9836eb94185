use Rattle.std.proofs.Common.{List, sym, subst}
use Rattle.jh_guard.specs.Terms as terms
use Rattle.jh_semantics.specs.typed_code.Codes.{object_code}
use Rattle.jh_command_terms.specs.declared.terms.checks.CheckNode.{CheckNode}
use Rattle.jh_command_terms.specs.terms.Checks.{AreChecks, AddsChecks}
use Rattle.jh_command_terms.proofs.terms.CheckSteps.{added-to-none, are-facts}
use Rattle.jh_command_statements.proofs.checks.StepSteps.{on-ok}
use Rattle.jh_command_statements.proofs.checks.puts.assert_receiver.Goals as goal

pub assert_checks-requires : goal.assert_checks-requires
assert_checks-requires c =
    let t = c.check_receiver.new.table in
    let cs = terms.receiver_checks (object_code c.args.receiver.now) c.args.place in
    let first = subst (λ (xs : List CheckNode). AddsChecks t xs c.check_receiver.new.checks.items cs) c.new-checks.ensures.items c.in_ok-check_receiver.ensures.checks in
    are-facts t c.as_slice.result.now cs (subst (λ (xs : List CheckNode). AreChecks t xs cs) (sym c.as_slice.ensures.value) (added-to-none t c.check_receiver.new.checks.items cs first))

pub returns-clause-commands : goal.returns-clause-commands
returns-clause-commands c =
    let t = c.check_receiver.new.table in
    let cs = terms.receiver_checks (object_code c.args.receiver.now) c.args.place in
    let first = subst (λ (xs : List CheckNode). AddsChecks t xs c.check_receiver.new.checks.items cs) c.new-checks.ensures.items c.in_ok-check_receiver.ensures.checks in
    on-ok c.assert_checks.result
    (λ told. told cs (subst (λ (xs : List CheckNode). AreChecks t xs cs) (sym c.as_slice.ensures.value) (added-to-none t c.check_receiver.new.checks.items cs first)))
    c.assert_checks.ensures.commands
