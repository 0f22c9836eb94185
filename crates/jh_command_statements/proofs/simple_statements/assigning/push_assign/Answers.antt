use Rattle.std.proofs.Common.{◌++◌}
use Rattle.jh_guard.specs.Terms.{value_checks, value_term}
use Rattle.jh_guard.specs.Steps.{target_checks, assert_checks, put}
use Rattle.jh_semantics.specs.typed_code.Codes.{any_code}
use Rattle.jh_semantics.specs.typed_code.Statements.{target_in}
use Rattle.jh_state_facts.proofs.changes.AddedSteps.{adds-two, on-ok}
use Rattle.jh_command_statements.proofs.simple_statements.assigning.push_assign.Goals as goal

pub returns-clause-commands : goal.returns-clause-commands
returns-clause-commands c =
    let x = target_in c.args.target.now in
    let v = value_term (any_code c.args.value.now) in
    on-ok c.put.result
    (λ h. adds-two c.push_both_checks.new.table c.put.new.table c.args.commands.now.items c.push_both_checks.new.commands.items c.put.new.commands.items (assert_checks (target_checks x ++ value_checks (any_code c.args.value.now))) (put x v) c.in_ok-assigned.ensures.commands c.put.ensures.grows
    (h v c.in_ok-assigned.ensures.value))
    c.put.ensures.commands
