use Rattle.jh_command_statements.proofs.simple_statements.CheckedSteps.{gathered-facts}
use Rattle.jh_command_statements.proofs.simple_statements.testing.push_test.Goals as goal

pub assert_checks-requires : goal.assert_checks-requires
assert_checks-requires c = gathered-facts c.truth_term.new.table c.new-checks.result.items c.truth_term.new.checks.items c.as_slice.result.now _ c.new-checks.ensures.items c.as_slice.ensures.value c.in_ok-made.ensures.checks
