use Rattle.std.proofs.Common.{subst, sym, ap}
use Rattle.std.specs.Prelude.{IfErr, IfOk, string_bytes}
use Rattle.jh_ast.specs.Bare.{program_tree}
use Rattle.jh_ast.specs.Programs.{ProgramTree}
use Rattle.jh_run.specs.jh_command_statements.checks.Told.{AreFormulas}
use Rattle.jh_vars.specs.Reading.{IsAcyclic}
use Rattle.jh_reply.specs.Causes.{IsUnreported}
use Rattle.jh_reply.specs.Verify.{IsReport}
use Rattle.jh_run.proofs.of_jh_command_statements.checks.ToldSteps.{formulas-of}
use Rattle.jh_reply.proofs.reporting.verify.Goals as goal

-- src/reporting.rt
pub report_on-requires-clause-acyclic : goal.report_on-requires-clause-acyclic
report_on-requires-clause-acyclic c = subst (λ (p : ProgramTree). IsAcyclic p) (ap program_tree (sym c.in_ok-parts.ensures.typed)) c.requires.acyclic

-- src/reporting.rt
pub report_on-requires-clause-formulas : goal.report_on-requires-clause-formulas
report_on-requires-clause-formulas c =
    subst (λ (p : ProgramTree). AreFormulas p c.in_ok-parts.parts.table c.in_ok-parts.parts.formulas.items) (ap program_tree (sym c.in_ok-parts.ensures.typed))
    (formulas-of (program_tree c.args.source.program) c.in_ok-parts.parts.table c.in_ok-parts.parts.formulas.items c.in_ok-parts.ensures.value c.in_ok-parts.ensures.inside)

-- src/reporting.rt
pub returns-clause-report : goal.returns-clause-report
returns-clause-report c =
    subst (λ (p : ProgramTree). IfOk c.report_on.result (λ verified. IsReport c.args.options p (string_bytes verified.text) verified.accepted)) (ap program_tree c.in_ok-parts.ensures.typed) c.report_on.ensures.report

-- src/reporting.rt
pub returns-clause-why : goal.returns-clause-why
returns-clause-why c = subst (λ (p : ProgramTree). IfErr c.report_on.result (IsUnreported p)) (ap program_tree c.in_ok-parts.ensures.typed) c.report_on.ensures.why
