use Rattle.std.proofs.Common.{ap, subst, sym, string_bytes, IfOk}
use Rattle.jh_ast.specs.Bare.{program_tree}
use Rattle.jh_ast.specs.Programs.{ProgramTree}
use Rattle.jh_machine_compiler.specs.jh_command_statements.checks.Told.{AreFormulas}
use Rattle.jh_run.specs.outcome.Outcomes.{Returns}
use Rattle.jh_machine_compiler.proofs.of_jh_command_statements.checks.ToldSteps.{formulas-of}
use Rattle.jh_run.proofs.outcome.source.run_method.Goals as goal

-- src/source.rt
pub run_in_parts-requires-clause-formulas : goal.run_in_parts-requires-clause-formulas
run_in_parts-requires-clause-formulas c =
    subst (λ (p : ProgramTree). AreFormulas p c.in_ok-parts.parts.table c.in_ok-parts.parts.formulas.items) (ap program_tree (sym c.in_ok-parts.ensures.typed))
    (formulas-of (program_tree c.args.source.program) c.in_ok-parts.parts.table c.in_ok-parts.parts.formulas.items c.in_ok-parts.ensures.value c.in_ok-parts.ensures.inside)

-- src/source.rt
pub returns-clause-returned : goal.returns-clause-returned
returns-clause-returned c =
    subst (λ (p : ProgramTree). IfOk c.run_in_parts.result (λ text. Returns p c.args.class.now c.args.name.now c.args.heap.now c.args.steps (string_bytes text))) (ap program_tree c.in_ok-parts.ensures.typed) c.run_in_parts.ensures.returned
