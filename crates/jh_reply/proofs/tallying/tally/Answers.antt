use Rattle.std.proofs.Common.{subst, sym, ap}
use Rattle.std.specs.Prelude.{IfErr, IfOk}
use Rattle.jh_ast.specs.Bare.{program_tree}
use Rattle.jh_ast.specs.Programs.{ProgramTree}
use Rattle.jh_run.specs.jh_command_statements.checks.Told.{AreFormulas}
use Rattle.jh_vars.specs.Reading.{IsAcyclic}
use Rattle.jh_reply.specs.Causes.{IsUnreported}
use Rattle.jh_reply.specs.Made.{IsTallied}
use Rattle.jh_run.proofs.of_jh_command_statements.checks.ToldSteps.{formulas-of}
use Rattle.jh_reply.proofs.tallying.tally.Goals as goal

-- src/tallying.rt
pub tally_parts-requires-clause-acyclic : goal.tally_parts-requires-clause-acyclic
tally_parts-requires-clause-acyclic c = subst (λ (p : ProgramTree). IsAcyclic p) (ap program_tree (sym c.in_ok-parts.ensures.typed)) c.requires.acyclic

-- src/tallying.rt
pub tally_parts-requires-clause-formulas : goal.tally_parts-requires-clause-formulas
tally_parts-requires-clause-formulas c =
    subst (λ (p : ProgramTree). AreFormulas p c.in_ok-parts.parts.table c.in_ok-parts.parts.formulas.items) (ap program_tree (sym c.in_ok-parts.ensures.typed))
    (formulas-of (program_tree c.args.source.program) c.in_ok-parts.parts.table c.in_ok-parts.parts.formulas.items c.in_ok-parts.ensures.value c.in_ok-parts.ensures.inside)

-- src/tallying.rt
pub returns-clause-tallied : goal.returns-clause-tallied
returns-clause-tallied c =
    subst (λ (p : ProgramTree). IfOk c.tally_parts.result (IsTallied c.args.options p)) (ap program_tree c.in_ok-parts.ensures.typed) c.tally_parts.ensures.tallied

-- src/tallying.rt
pub returns-clause-why : goal.returns-clause-why
returns-clause-why c = subst (λ (p : ProgramTree). IfErr c.tally_parts.result (IsUnreported p)) (ap program_tree c.in_ok-parts.ensures.typed) c.tally_parts.ensures.why
