use Rattle.std.proofs.Common.{subst, sym, ap}
use Rattle.jh_ast.specs.Bare.{program_tree}
use Rattle.jh_ast.specs.Programs.{ProgramTree}
use Rattle.jh_boxed_commands.specs.jh_command_statements.checks.Told.{AreFormulas}
use Rattle.jh_boxed_commands.specs.jh_logic.source.Laws.{IsAccepted}
use Rattle.jh_vars.specs.Reading.{IsAcyclic}
use Rattle.jahob_calls.proofs.Standing.{formulas-there}
use Rattle.jahob_calls.proofs.sources.makes_from.Goals as goal

pub makes_command-requires-clause-accepted : goal.makes_command-requires-clause-accepted
makes_command-requires-clause-accepted c = subst (λ (p : ProgramTree). IsAccepted p) (ap program_tree (sym c.in_ok-parts.ensures.typed)) c.requires.accepted

pub makes_command-requires-clause-acyclic : goal.makes_command-requires-clause-acyclic
makes_command-requires-clause-acyclic c = subst (λ (p : ProgramTree). IsAcyclic p) (ap program_tree (sym c.in_ok-parts.ensures.typed)) c.requires.acyclic

pub makes_command-requires-clause-formulas : goal.makes_command-requires-clause-formulas
makes_command-requires-clause-formulas c =
    subst (λ (p : ProgramTree). AreFormulas p c.in_ok-parts.parts.table c.in_ok-parts.parts.formulas.items) (ap program_tree (sym c.in_ok-parts.ensures.typed))
    (formulas-there (program_tree c.args.unfolded.program) c.in_ok-parts.parts.table c.in_ok-parts.parts.formulas.items c.in_ok-parts.ensures.inside c.in_ok-parts.ensures.value)
