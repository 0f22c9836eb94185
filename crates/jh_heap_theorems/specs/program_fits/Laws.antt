-- Programs that texts spell fit heap texts.
use Rattle.std.specs.Prelude.{◌≡◌, ℕ, List, Some}
use Rattle.jh_name.specs.declared.place.Place.{Place}
use Rattle.jh_lex.specs.lexer.Lexes.{Lexes}
use Rattle.jh_lex.specs.declared.lexer.token.Token.{Token}
use Rattle.jh_ast.specs.Programs.{ProgramTree}
use Rattle.jh_rules.specs.Breaks.{Breaks}
use Rattle.jh_parse.specs.programs.Members.{Spells}
use Rattle.jh_vars.specs.Written.{Callee}
use Rattle.jh_semantics.specs.Program.{Method}
use Rattle.jh_semantics.specs.LoweredProgram.{program_of}
use Rattle.jh_heap_theorems.specs.round_trip.Names.{TextsFit, SignatureFits}

-- A program that a text spells and that breaks no type rule: its classes, statics and fields have texts that stand as words in the lines of
-- a heap text, no static or field has that of another, and the types of its methods' parameters have values.
pub record Fits (p : ProgramTree) : Type 0 where
  pub texts : TextsFit (program_of p)
  pub signatures : (m : Callee) (x : Method) → (program_of p).method m ≡ Some x → SignatureFits (program_of p) x

abbrev pub SpelledFits : Type 0
SpelledFits = (bytes : List ℕ) (ts : List Token) (p : ProgramTree) → Lexes bytes ts → Spells ts p → ((rule : ℕ) (place : Place) → Breaks p rule place → ⊥) → Fits p
