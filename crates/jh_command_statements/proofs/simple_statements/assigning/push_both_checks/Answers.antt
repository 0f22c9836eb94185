use Rattle.std.proofs.Common.{◌++◌}
use Rattle.jh_arena.proofs.table.Listed.{extends-trans}
use Rattle.jh_guard.specs.Terms.{value_checks}
use Rattle.jh_guard.specs.Steps.{target_checks}
use Rattle.jh_semantics.specs.typed_code.Codes.{any_code}
use Rattle.jh_semantics.specs.typed_code.Statements.{target_in}
use Rattle.jh_command_terms.proofs.terms.CheckSteps.{adds-two}
use Rattle.jh_command_statements.proofs.simple_statements.CheckedSteps.{gathered, gathered-facts, receiver-grows}
use Rattle.jh_command_statements.proofs.simple_statements.assigning.push_both_checks.Goals as goal

pub assert_checks-requires : goal.assert_checks-requires
assert_checks-requires c =
    let none_yet = c.new-checks.result.items in
    let cs = target_checks (target_in c.args.target.now) in
    let ds = value_checks (any_code c.args.value.now) in
    gathered-facts c.value_term.new.table none_yet c.value_term.new.checks.items c.as_slice.result.now (cs ++ ds) c.new-checks.ensures.items c.as_slice.ensures.value
    (adds-two c.target_term.new.table c.value_term.new.table none_yet c.target_term.new.checks.items c.value_term.new.checks.items cs ds c.in_ok-receiver.ensures.checks c.value_term.ensures.grows c.in_ok-value.ensures.checks)

pub returns-clause-receiver : goal.returns-clause-receiver
returns-clause-receiver c =
    receiver-grows c.target_term.new.table c.assert_checks.new.table c.in_ok-receiver.receiver (target_in c.args.target.now)
    (extends-trans c.target_term.new.table c.value_term.new.table c.assert_checks.new.table c.value_term.ensures.grows c.assert_checks.ensures.grows) c.in_ok-receiver.ensures.node

pub returns-clause-commands : goal.returns-clause-commands
returns-clause-commands c =
    let none_yet = c.new-checks.result.items in
    let cs = target_checks (target_in c.args.target.now) in
    let ds = value_checks (any_code c.args.value.now) in
    c.in_ok-assert_checks.ensures.commands (cs ++ ds)
    (gathered c.value_term.new.table none_yet c.value_term.new.checks.items c.as_slice.result.now (cs ++ ds) c.new-checks.ensures.items c.as_slice.ensures.value
    (adds-two c.target_term.new.table c.value_term.new.table none_yet c.target_term.new.checks.items c.value_term.new.checks.items cs ds c.in_ok-receiver.ensures.checks c.value_term.ensures.grows c.in_ok-value.ensures.checks))
