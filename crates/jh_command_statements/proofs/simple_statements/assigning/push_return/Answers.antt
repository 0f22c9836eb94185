use Rattle.std.proofs.Common.{List, [], ◌∷◌, ◌++◌, ◌∙◌, sym, ap, subst, option_map, append_assoc}
use Rattle.jh_arena.proofs.table.Listed.{extends-refl}
use Rattle.jh_wp.specs.Command.{CommandTree}
use Rattle.jh_wp.specs.Command as w
use Rattle.jh_semantics.specs.State.{result_name}
use Rattle.jh_guard.specs.Terms.{value_checks, value_term}
use Rattle.jh_guard.specs.Steps.{assert_checks}
use Rattle.jh_semantics.specs.typed_code.Codes.{any_code}
use Rattle.jh_state_facts.specs.changes.Added.{AddsCommands}
use Rattle.jh_state_facts.proofs.changes.AddedSteps.{adds-two, on-ok}
use Rattle.jh_command_statements.specs.simple_statements.Returns.{return_commands}
use Rattle.jh_command_statements.proofs.simple_statements.assigning.push_return.Goals as goal

pub returns-in_ok-push_result-in-Some-clause-commands : goal.returns-in_ok-push_result-in-Some-clause-commands
returns-in_ok-push_result-in-Some-clause-commands c =
    let t = c.push_result.new.table in
    let e = any_code c.in-Some.value in
    let first = assert_checks (value_checks e) in
    let last = w.assign result_name (value_term e) ∷ [] in
    on-ok c.push_leave-in-Some.result
    (λ h.
    subst (λ (fs : List CommandTree). AddsCommands t c.args.commands.now.items c.push_leave-in-Some.new.commands.items fs) (append_assoc first last (w.leave ∷ []) ∙ sym (ap (λ o. return_commands (option_map any_code o)) c.in-Some.is))
    (adds-two t t c.args.commands.now.items c.push_result.new.commands.items c.push_leave-in-Some.new.commands.items (first ++ last) (w.leave ∷ []) c.in_ok-push_result-in-Some.ensures.commands (extends-refl t) (h t)))
    c.push_leave-in-Some.ensures
