-- What the laws of the parts come to.
use Rattle.std.proofs.Common.{ℕ, List, arith}
use Rattle.jh_name.specs.declared.place.MethodId.{MethodId}
use Rattle.jh_ast.specs.Programs.{ProgramTree}
use Rattle.jh_semantics.specs.LoweredProgram.{program_of}
use Rattle.jh_obligations.specs.jh_guard.Writes.{Writes}
use Rattle.jh_obligations.specs.program_sequents.Owing.{Owing}
use Rattle.jh_obligations.specs.program_sequents.Owed.{FirstMany, here, later}
use Rattle.jh_gen_laws.specs.sequent_count.Laws.{MadeOwesFew}
use Rattle.jh_gen_laws.specs.typing.Laws.{MadeIsAcyclic, MadeIsTyped}
use Rattle.jh_gen_laws.specs.typing.Trees.{IsMade}
use Rattle.jh_gen_laws.specs.tokens.Laws.{MadeIsCut}
use Rattle.jh_gen_laws.specs.spelling.Laws.{MadeIsSpelled}
use Rattle.jh_gen_laws.specs.program.Laws.{MadeIsProgram}

module _ (owes : MadeOwesFew) (methods : ℕ) (p : ProgramTree) (is : IsMade methods p) (ws : Writes) where
  none-first : (list : List Owing) (id : MethodId) (n : ℕ) → FirstMany (program_of p) ws list id n → ⊥
  none-first _ _ _ (here w rest n many) = omega (arith, many.many, many.exact 0, owes methods p ws w.callee many.code w.id 0 is many.is)
  none-first _ _ _ (later w rest id n few first) = none-first rest id n first

pub is-program : MadeIsCut → MadeIsSpelled → MadeIsTyped → MadeIsAcyclic → MadeOwesFew → MadeIsProgram
is-program cut spelled typed acyclic owes seed methods small =
    let text = cut seed methods small in
    let made = spelled seed methods text.tokens text.kinds in
    record {
      tokens = text.tokens;
      program = made.program;
      cut = text.lexes;
      shallow = text.shallow;
      spelled = made.spelled;
      typed = typed methods made.program small made.is;
      acyclic = acyclic methods made.program made.is;
      few = λ id n much. none-first owes methods made.program made.is much.writes _ id n much.first;
    }
