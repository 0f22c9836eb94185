use Rattle.std.proofs.Common.{subst, [], ◌∷◌}
use Rattle.jh_form.specs.declared.mark.Mark.{Mark}
use Rattle.jh_form.specs.Tree as tree
use Rattle.jh_wp.specs.Command as w
use Rattle.jh_vars.specs.Resolved.{as_truth}
use Rattle.jh_semantics.specs.typed_code.Statements.{value_of}
use Rattle.jh_state_facts.specs.changes.Added.{AddsCommands}
use Rattle.jh_command_statements.proofs.checks.StepSteps.{on-ok}
use Rattle.jh_command_statements.proofs.checks.claims.assert_claim.Goals as goal

pub returns-clause-commands : goal.returns-clause-commands
returns-clause-commands c =
    on-ok c.assert_marked.result
    (λ told p are.
    subst (λ (k : Mark). AddsCommands c.assert_marked.new.table c.args.commands.now.items c.assert_marked.new.commands.items (w.assert (tree.mark k (as_truth (value_of p c.args.claim.now.number))) ∷ [])) c.in_ok-mark.ensures
    (told (as_truth (value_of p c.args.claim.now.number)) (c.in_ok-goal.ensures.formula p are)))
    c.assert_marked.ensures.commands
