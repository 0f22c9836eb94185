use Rattle.jh_command_statements.proofs.simple_statements.CheckedSteps.{gathered-facts, receiver-grows}
use Rattle.jh_semantics.specs.typed_code.Statements.{target_in}
use Rattle.jh_command_statements.proofs.simple_statements.creating.push_target.Goals as goal

pub assert_checks-requires : goal.assert_checks-requires
assert_checks-requires c = gathered-facts c.target_term.new.table c.new-checks.result.items c.target_term.new.checks.items c.as_slice.result.now _ c.new-checks.ensures.items c.as_slice.ensures.value c.in_ok-receiver.ensures.checks

pub returns-clause-receiver : goal.returns-clause-receiver
returns-clause-receiver c = receiver-grows c.target_term.new.table c.assert_checks.new.table c.in_ok-receiver.receiver (target_in c.args.target.now) c.assert_checks.ensures.grows c.in_ok-receiver.ensures.node
