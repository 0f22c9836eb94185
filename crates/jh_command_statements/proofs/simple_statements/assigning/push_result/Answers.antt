use Rattle.std.proofs.Common.{[], ◌∷◌}
use Rattle.jh_arena.proofs.table.Listed.{extends-refl}
use Rattle.jh_wp.specs.Command as w
use Rattle.jh_semantics.specs.State.{result_name}
use Rattle.jh_guard.specs.Terms.{value_checks, value_term}
use Rattle.jh_guard.specs.Steps.{assert_checks}
use Rattle.jh_semantics.specs.typed_code.Codes.{any_code}
use Rattle.jh_state_facts.proofs.changes.AddedSteps.{adds-two, on-ok}
use Rattle.jh_command_statements.proofs.simple_statements.assigning.push_result.Goals as goal

pub returns-clause-commands : goal.returns-clause-commands
returns-clause-commands c =
    let t = c.push_value.new.table in
    let v = value_term (any_code c.args.value.now) in
    on-ok c.assign_name.result
    (λ h. adds-two t t c.args.commands.now.items c.push_value.new.commands.items c.assign_name.new.commands.items (assert_checks (value_checks (any_code c.args.value.now))) (w.assign result_name v ∷ []) c.in_ok-made.ensures.commands (extends-refl t) (h v c.in_ok-made.ensures.node))
    c.assign_name.ensures
