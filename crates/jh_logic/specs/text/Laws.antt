-- What holds of each program that a text spells.
use Rattle.std.specs.Prelude.{◌≡◌, ℕ, List, [], ◌∷◌, Some}
use Rattle.std.specs.List.{Contains}
use Rattle.jh_name.specs.declared.place.Place.{Place}
use Rattle.jh_lex.specs.lexer.Shapes.{HasShape}
use Rattle.jh_lex.specs.lexer.Rising.{Rises}
use Rattle.jh_lex.specs.declared.lexer.token.Token.{Token}
use Rattle.jh_ast.specs.declared.word.Word.{Word}
use Rattle.jh_ast.specs.Programs.{FieldPart, VarPart, ClassPart, ProgramTree}
use Rattle.jh_rules.specs.Breaks.{Breaks}
use Rattle.jh_rules.specs.Names.{MemberPart, member_word, members_of}
use Rattle.jh_rules.specs.Shape.{ShapeOfSource}
use Rattle.jh_operators.specs.lookahead.Standing.{word_at}
use Rattle.jh_parse.specs.programs.Members.{Spells}
use Rattle.jh_logic.specs.source.Laws.{IsAccepted}
use Rattle.jh_logic.specs.source.Placed.{IsPlaced}

-- Names have turn 0, numbers of formulas differ, no literal is below 0, what is declared may be, and so on.
abbrev pub SpelledHasShape : Type 0
SpelledHasShape = (ts : List Token) (p : ProgramTree) → HasShape ts → Spells ts p → ShapeOfSource p

-- No two classes have their names at one place, and no two members of a class.
abbrev pub SpelledIsPlaced : Type 0
SpelledIsPlaced = (ts : List Token) (p : ProgramTree) → Rises ts → Spells ts p → IsPlaced p

-- So a program that a text spells is accepted where it breaks no rule.
abbrev pub SpelledIsAccepted : Type 0
SpelledIsAccepted = (ts : List Token) (p : ProgramTree) → HasShape ts → Rises ts → Spells ts p → ((rule : ℕ) (place : Place) → Breaks p rule place → ⊥) → IsAccepted p

-- a word is one of the tokens
abbrev pub IsWordOf : List Token → Word → Type 0
IsWordOf ts w = (i : ℕ) × (word_at ts i ≡ Some w)

-- the words of some things stand at places of their own
unfoldable pub AreOnce : {A : Type 0} → (A → Word) → List A → Type 0
AreOnce word [] = Unit {0}
AreOnce word (x ∷ xs) = ((y : _) → Contains xs y → (word y).place ≡ (word x).place → ⊥) × AreOnce word xs

abbrev pub field_name : FieldPart → Word
field_name x = x.name

abbrev pub var_name : VarPart → Word
var_name v = v.name

-- The name of a class and those of its members are words of the text; those of its fields stand at places of their own, and so do those
-- of its variables.
pub record IsWritten (ts : List Token) (c : ClassPart) : Type 0 where
  pub name : IsWordOf ts c.name
  pub members : (a : MemberPart) → Contains (members_of c) a → IsWordOf ts (member_word a)
  pub fields : AreOnce field_name c.fields
  pub vars : AreOnce var_name c.vars

abbrev pub SpelledIsWritten : Type 0
SpelledIsWritten = (ts : List Token) (p : ProgramTree) → Rises ts → Spells ts p → (c : ClassPart) → Contains p.classes c → IsWritten ts c
