-- That each made source spells a program, of which no method has many sequents.
use Rattle.std.specs.Prelude.{ℕ, ◌≤◌, List}
use Rattle.jh_name.specs.declared.place.MethodId.{MethodId}
use Rattle.jh_name.specs.declared.place.Place.{Place}
use Rattle.jh_lex.specs.lexer.Lexes.{Lexes}
use Rattle.jh_lex.specs.declared.lexer.token.Token.{Token}
use Rattle.jh_spec.specs.nesting.Nesting.{AllShallow}
use Rattle.jh_ast.specs.Programs.{ProgramTree}
use Rattle.jh_obligations.specs.jh_parse.programs.Members.{Spells}
use Rattle.jh_rules.specs.Breaks.{Breaks}
use Rattle.jh_vars.specs.Reading.{IsAcyclic}
use Rattle.jh_obligations.specs.program_sequents.Sources.{OwesMuch}
use Rattle.jh_gen.specs.Generated.{source}

-- The source of a seed is cut into tokens, none of which is nested too deep; they spell a program that breaks no rule and has no
-- cyclic variable; and no method of it has more than 2,000 sequents.
pub record IsProgram (seed methods : ℕ) : Type 0 where
  pub tokens : List Token
  pub program : ProgramTree
  pub cut : Lexes (source seed methods) tokens
  pub shallow : AllShallow tokens
  pub spelled : Spells tokens program
  pub typed : (rule : ℕ) (place : Place) → Breaks program rule place → ⊥
  pub acyclic : IsAcyclic program
  pub few : (id : MethodId) (n : ℕ) → OwesMuch program id n → ⊥

abbrev pub MadeIsProgram : Type 0
MadeIsProgram = (seed methods : ℕ) → methods ≤ 200 → IsProgram seed methods
