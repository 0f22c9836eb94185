use Rattle.std.proofs.Common.{[], ◌∷◌}
use Rattle.jh_form.specs.declared.mark.MarkKind.TheVariants as kind
use Rattle.jh_wp.specs.Command as w
use Rattle.jh_guard.specs.Steps.{assert_claim, claim_fact}
use Rattle.jh_semantics.specs.typed_code.Statements.{claim_in}
use Rattle.jh_call_commands.proofs.of_jh_command_statements.checks.ToldSteps.{formulas-grow}
use Rattle.jh_state_facts.proofs.changes.AddedSteps.{adds-two, on-ok}
use Rattle.jh_method_commands.specs.environment.Outlines.{source_of}
use Rattle.jh_method_commands.proofs.commands.OutlinedSteps.{the-outline}
use Rattle.jh_method_commands.proofs.commands.statements.push_note.Goals as goal

pub returns-clause-commands : goal.returns-clause-commands
returns-clause-commands c =
    let src = source_of c.args.outline.now in
    let claim = claim_in src c.args.claim.now in
    let t = c.args.table.now in
    let u = c.assert_claim.new.table in
    on-ok c.assume_claim.result
    (λ h. adds-two u c.assume_claim.new.table c.args.commands.now.items c.assert_claim.new.commands.items c.assume_claim.new.commands.items (assert_claim kind.Note claim ∷ []) (w.assume (claim_fact claim) ∷ []) (c.in_ok-assert_claim.ensures.commands src (the-outline c.args.table.now c.args.outline.now c.requires).formulas) c.assume_claim.ensures.grows
    (h src (formulas-grow t u c.assert_claim.ensures.grows src c.args.outline.now.formulas.now (the-outline c.args.table.now c.args.outline.now c.requires).formulas)))
    c.assume_claim.ensures.commands
