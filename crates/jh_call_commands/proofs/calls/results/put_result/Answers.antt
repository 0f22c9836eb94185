use Rattle.jh_guard.specs.Calls.{result_value}
use Rattle.jh_state_facts.proofs.changes.AddedSteps.{on-ok}
use Rattle.jh_havoc.proofs.of_jh_command_statements.checks.StepSteps.{value-there}
use Rattle.jh_call_commands.proofs.calls.results.put_result.Goals as goal

pub put_value-requires : goal.put_value-requires
put_value-requires c = value-there c.result_node.new.table c.in_ok-value.value (result_value c.args.ty c.args.result_turn) c.in_ok-value.ensures.node

pub returns-clause-commands : goal.returns-clause-commands
returns-clause-commands c = on-ok c.put_value.result (λ told. told (result_value c.args.ty c.args.result_turn) c.in_ok-value.ensures.node) c.put_value.ensures.commands
