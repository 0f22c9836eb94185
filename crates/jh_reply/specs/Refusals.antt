-- Why a source is refused, with the number and the place of the refusal.
use Rattle.std.specs.Prelude.{ℕ, ◌≡◌, List, [], slice_get}
use Rattle.std.specs.Option.{option_map_or}
use Rattle.jh_name.specs.declared.place.MethodId.{MethodId}
use Rattle.jh_name.specs.declared.place.Place.{Place}
use Rattle.jh_lex.specs.declared.lexer.token.Token.{Token}
use Rattle.jh_lex.specs.declared.lexer.error.LexError.TheVariants as lex
use Rattle.jh_lex.specs.lexer.Lexes.{Lexes, IsFirstFault}
use Rattle.jh_ast.specs.Programs.{ClassPart, MethodPart, ProgramTree}
use Rattle.jh_spec.specs.nesting.Nesting.{AllShallow, IsFirstDeep}
use Rattle.jh_run.specs.jh_parse.programs.Members as grammar
use Rattle.jh_rules.specs.Breaks.{Breaks}
use Rattle.jh_rules.specs.Faults.{fault}
use Rattle.jh_rules.specs.Words.{text_of}
use Rattle.jh_spec.specs.parser.Parsed.{IsStart}
use Rattle.jh_vars.specs.Reading.{IsAcyclic, IsFirstCyclic}
use Rattle.jh_vars.specs.States.{class_text}
use Rattle.jh_gen_laws.specs.jh_obligations.program_sequents.Sources.{OwesMuch}
use Rattle.jh_run.specs.jh_type.checker.Refused.{IsLeastFault}
use Rattle.jh_run.specs.jh_type.declared.checker.typed.TypeError.{TypeError}
use Rattle.jh_run.specs.jh_type.declared.checker.typed.TypeError.TheVariants as type
use Rattle.jh_reply.specs.declared.error.Refusal.{Refusal}
use Rattle.jh_reply.specs.declared.error.Refusal.TheVariants as refusal

-- The bytes spell a tree: they are cut into tokens that spell it, none of which is nested too deep.
pub record Parses (bytes : List ℕ) (tree : ProgramTree) : Type 0 where
  pub tokens : List Token
  pub cut : Lexes bytes tokens
  pub shallow : AllShallow tokens
  pub spelled : grammar.Spells tokens tree

-- A source is refused with a number, at a place: a fault of the text, the first of them; tokens that spell no program, at
-- one of them; or the first token that is nested too deep.
pub data RefusedAt (bytes : List ℕ) : ℕ → Place → Type 0 where
  not_utf8 : {p : Place} → IsFirstFault bytes (lex.NotUtf8 p) → RefusedAt bytes 1 p
  bad_char : {p : Place} → IsFirstFault bytes (lex.BadChar p) → RefusedAt bytes 2 p
  open_comment : {p : Place} → IsFirstFault bytes (lex.OpenComment p) → RefusedAt bytes 3 p
  open_quote : {p : Place} → IsFirstFault bytes (lex.OpenQuote p) → RefusedAt bytes 4 p
  too_wide : {p : Place} → IsFirstFault bytes (lex.TooWide p) → RefusedAt bytes 5 p
  syntax : {ts : List Token} {p : Place} → Lexes bytes ts → AllShallow ts → ((t : ProgramTree) → grammar.Spells ts t → ⊥) → IsStart ts p → RefusedAt bytes 6 p
  too_deep : {ts : List Token} {p : Place} → Lexes bytes ts → IsFirstDeep ts p → RefusedAt bytes 7 p

-- The bytes spell a tree that breaks a type rule at a place, the least place at which one is broken, and the least rule there.
pub record IsMistyped (bytes : List ℕ) (rule : ℕ) (place : Place) : Type 0 where
  pub tree : ProgramTree
  pub parsed : Parses bytes tree
  pub least : IsLeastFault tree (fault rule place)

-- the tree breaks no type rule
abbrev pub IsTyped : ProgramTree → Type 0
IsTyped tree = (rule : ℕ) (place : Place) → Breaks tree rule place → ⊥

-- The bytes spell a tree that breaks no type rule and has a variable of this name, the first in the text, whose definition reads it.
pub record IsCircular (bytes : List ℕ) (name : List ℕ) : Type 0 where
  pub tree : ProgramTree
  pub parsed : Parses bytes tree
  pub typed : IsTyped tree
  pub class : ℕ
  pub first : IsFirstCyclic tree (record { class = class; name = name })

-- Bytes spell a program: they spell a tree that breaks no type rule and has no cyclic variable.
pub record Spells (bytes : List ℕ) (tree : ProgramTree) : Type 0 where
  pub parsed : Parses bytes tree
  pub typed : IsTyped tree
  pub acyclic : IsAcyclic tree

-- the own name of a method, by its number
abbrev pub method_text : ProgramTree → MethodId → List ℕ
method_text p id = option_map_or (λ (c : ClassPart). option_map_or (λ (m : MethodPart). text_of m.name) (slice_get c.methods id.method) []) (slice_get p.classes id.class) []

-- The bytes spell a program with a method of more than 2,000 sequents; the first such has this class and this name, and so many, as far as a
-- number of 128 bits tells.
pub record IsCrowded (bytes class name : List ℕ) (n : ℕ) : Type 0 where
  pub tree : ProgramTree
  pub spelled : Spells bytes tree
  pub id : MethodId
  pub much : OwesMuch tree id n
  pub class_is : class ≡ class_text tree id.class
  pub name_is : name ≡ method_text tree id

-- a refusal is right
abbrev pub IsWhy : List ℕ → Refusal → Type 0
IsWhy bytes (refusal.At n p) = RefusedAt bytes n p
IsWhy bytes (refusal.Mistyped rule p) = IsMistyped bytes rule p
IsWhy bytes (refusal.Cyclic name) = IsCircular bytes name.text
IsWhy bytes refusal.Memory = Unit {0}

-- a refusal is that for a cyclic variable of the tree, the first in the text, or want of memory
abbrev pub IsLoopOf : ProgramTree → Refusal → Type 0
IsLoopOf tree (refusal.Cyclic name) = (class : ℕ) × IsFirstCyclic tree (record { class = class; name = name.text })
IsLoopOf tree refusal.Memory = Unit {0}
IsLoopOf tree _ = ⊥

-- why a source that breaks a type rule isn't verified
abbrev pub refusal_of : TypeError → Refusal
refusal_of (type.TypeFault rule place) = refusal.Mistyped rule place
refusal_of type.Memory = refusal.Memory
