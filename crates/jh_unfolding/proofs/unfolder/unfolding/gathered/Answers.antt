use Rattle.std.proofs.Common.{◌≡◌, sym, ap, subst, ◌∙◌, IfOk, IfErr}
use Rattle.jh_ast.specs.Bare.{program_tree}
use Rattle.jh_ast.specs.Programs.{ProgramTree}
use Rattle.jh_rules.specs.Breaks.{Breaks}
use Rattle.jh_rules.specs.Names.{declared_in}
use Rattle.jh_definitions.specs.expansion.Opening.{source_of}
use Rattle.jh_vars.specs.Reading.{IsAcyclic}
use Rattle.jh_unfolding.specs.unfolder.Holding.{AreOpened, IsCause}
use Rattle.jh_unfolding.proofs.unfolder.Sources.{source-is}
use Rattle.jh_unfolding.proofs.unfolder.unfolding.gathered.Goals as goal

pub gather_over-requires-clause-declared : goal.gather_over-requires-clause-declared
gather_over-requires-clause-declared c = c.in_ok-lookups.ensures ∙ ap declared_in (source-is c.program-program.result.now c.items.result.now c.items.ensures)

pub gather_over-requires-clause-typed : goal.gather_over-requires-clause-typed
gather_over-requires-clause-typed c =
    let is : program_tree c.args.typed.now ≡ source_of c.items.result.now = ap program_tree (sym c.program-program.ensures.same) ∙ source-is c.program-program.result.now c.items.result.now c.items.ensures in
    λ rule place b. c.program-program.ensures.none rule place (subst (λ (t : ProgramTree). Breaks t rule place) (sym is) b)

pub returns-clause-opened : goal.returns-clause-opened
returns-clause-opened c =
    let is : program_tree c.args.typed.now ≡ source_of c.items.result.now = ap program_tree (sym c.program-program.ensures.same) ∙ source-is c.program-program.result.now c.items.result.now c.items.ensures in
    subst (λ (t : ProgramTree). IfOk c.gather_over.result (λ made. AreOpened t made.table made.places)) (sym is) c.gather_over.ensures.opened

pub returns-clause-acyclic : goal.returns-clause-acyclic
returns-clause-acyclic c =
    let is : program_tree c.args.typed.now ≡ source_of c.items.result.now = ap program_tree (sym c.program-program.ensures.same) ∙ source-is c.program-program.result.now c.items.result.now c.items.ensures in
    subst (λ (t : ProgramTree). IfOk c.gather_over.result (λ made. IsAcyclic t)) (sym is) c.gather_over.ensures.acyclic

pub returns-clause-cause : goal.returns-clause-cause
returns-clause-cause c =
    let is : program_tree c.args.typed.now ≡ source_of c.items.result.now = ap program_tree (sym c.program-program.ensures.same) ∙ source-is c.program-program.result.now c.items.result.now c.items.ensures in
    subst (λ (t : ProgramTree). IfErr c.gather_over.result (IsCause t)) (sym is) c.gather_over.ensures.cause
