use Rattle.std.proofs.Common.{◌≡◌, sym, ap, subst, string_bytes, IfErr, IfOk, List, Option, ℕ}
use Rattle.jh_ast.specs.Bare.{program_tree}
use Rattle.jh_ast.specs.Programs.{ProgramTree}
use Rattle.jh_machine_compiler.specs.jh_command_statements.checks.Told.{AreFormulas}
use Rattle.jh_machine_compiler.proofs.of_jh_command_statements.checks.ToldSteps.{formulas-grow}
use Rattle.jh_outline.specs.jh_method_commands.environment.Outlines.{program_in, source_of}
use Rattle.jh_outline.proofs.outline.Outlining.{program-is}
use Rattle.jh_semantics.specs.Program.{Program}
use Rattle.jh_semantics.specs.LoweredProgram.{program_of}
use Rattle.jh_run.specs.outcome.Outcomes.{IsWhy, Returned}
use Rattle.jh_run.proofs.outcome.source.run_in_class.Goals as goal

-- src/source.rt
pub run_named-requires-clause-formulas : goal.run_named-requires-clause-formulas
run_named-requires-clause-formulas c =
    let p = program_tree c.args.program.now in
    let l = c.draft_of.new.table in
    let o = c.outline-outline.result in
    let source : source_of o ≡ p = ap program_tree c.outline-outline.ensures.source in
    subst (λ (q : ProgramTree). AreFormulas q l o.formulas.now) (sym source)
    (subst (λ (ns : List (Option ℕ)). AreFormulas p l ns) (sym c.outline-outline.ensures.formulas)
    (formulas-grow c.args.table.now l c.draft_of.ensures.grows p c.args.formulas.now c.requires.formulas))

-- src/source.rt
pub returns-clause-returned : goal.returns-clause-returned
returns-clause-returned c =
    let p = program_tree c.args.program.now in
    let o = c.outline-outline.result in
    let source : source_of o ≡ p = ap program_tree c.outline-outline.ensures.source in
    let writes = c.in_ok-writes.writes in
    let same : program_in o ≡ program_of p = program-is p writes writes c.draft_of.new.table c.in_ok-draft.draft c.in_ok-draft.ensures.draft o c.outline-outline.ensures.lends source in
    subst (λ (q : Program). IfOk c.run_named.result (λ text. Returned q (record { class = c.args.class; name = c.args.name.now }) c.args.heap.now c.args.steps (string_bytes text))) same c.run_named.ensures.returned

-- src/source.rt
pub returns-clause-why : goal.returns-clause-why
returns-clause-why c =
    let p = program_tree c.args.program.now in
    let o = c.outline-outline.result in
    let source : source_of o ≡ p = ap program_tree c.outline-outline.ensures.source in
    let writes = c.in_ok-writes.writes in
    let same : program_in o ≡ program_of p = program-is p writes writes c.draft_of.new.table c.in_ok-draft.draft c.in_ok-draft.ensures.draft o c.outline-outline.ensures.lends source in
    subst (λ (q : Program). IfErr c.run_named.result (IsWhy q (record { class = c.args.class; name = c.args.name.now }) c.args.heap.now c.args.steps)) same c.run_named.ensures.why
