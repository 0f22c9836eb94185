use Rattle.std.proofs.Common.{◌≡◌, sym, subst, Some, IfOk}
use Rattle.jh_ast.specs.declared.program.Program.{Program}
use Rattle.jh_ast.specs.Bare.{program_tree}
use Rattle.jh_ast.specs.Programs.{MethodPart}
use Rattle.jh_rules.specs.Breaks.{Breaks}
use Rattle.jh_vars.specs.Reading.{IsAcyclic}
use Rattle.jh_vars.specs.Written as w
use Rattle.jh_effects.specs.written_state.Arising.{ArePlaces}
use Rattle.jh_effects.specs.written_state.Methods.{places_in}
use Rattle.jh_effects.proofs.modified_state.modifying.modified.Goals as goal

-- src/modifying.rt
pub modified_by-requires-clause-typed : goal.modified_by-requires-clause-typed
modified_by-requires-clause-typed c = λ rule place b. c.program-program.ensures.none rule place (subst (λ (q : Program). Breaks (program_tree q) rule place) c.program-program.ensures.same b)

-- src/modifying.rt
pub modified_by-requires-clause-acyclic : goal.modified_by-requires-clause-acyclic
modified_by-requires-clause-acyclic c = subst (λ (q : Program). IsAcyclic (program_tree q)) (sym c.program-program.ensures.same) c.requires

-- src/modifying.rt
pub returns : goal.returns
returns c =
    subst
    (λ (q : Program). IfOk c.modified_by.result (λ made. (m : w.Callee) (part : MethodPart) → w.part_of (program_tree q) m ≡ Some part → ArePlaces (w.Names (program_tree q) (w.named_by (program_tree q) m.class part)) (w.all_state (program_tree q)) (places_in made m)))
    c.program-program.ensures.same c.modified_by.ensures
