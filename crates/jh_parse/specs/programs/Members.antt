-- The grammar of members, classes and programs. In each relation n is the number of the first formula that is read and i its place
-- among the tokens; j is the place after what is read, and m the number after its last formula.
use Rattle.std.specs.Prelude.{ℕ, ◌+◌, ◌≡◌, Bool, true, false, List, [], ◌∷◌, ◌++◌, length, Option, None, Some}
use Rattle.std.specs.List.{flat_map}
use Rattle.jh_lex.specs.declared.lexer.symbol.Symbol.{Symbol}
use Rattle.jh_lex.specs.declared.lexer.symbol.Symbol.TheVariants as symbol
use Rattle.jh_lex.specs.declared.lexer.token.Token.{Token}
use Rattle.jh_ast.specs.declared.word.Word.{Word}
use Rattle.jh_ast.specs.declared.word.JType.{JType}
use Rattle.jh_ast.specs.declared.word.JType.TheVariants as jtype
use Rattle.jh_ast.specs.declared.word.Param.{Param}
use Rattle.jh_ast.specs.Exprs.{ExprTree}
use Rattle.jh_ast.specs.Forms.{SpecPart, LabelledPart}
use Rattle.jh_ast.specs.Stmts.{StmtTrees}
use Rattle.jh_ast.specs.Programs.{FieldPart, VarPart, DefPart, MethodPart, ClassPart, ProgramTree}
use Rattle.jh_operators.specs.lookahead.Lists.{Many}
use Rattle.jh_operators.specs.lookahead.Modifiers.{Modifiers, allowed_at, has}
use Rattle.jh_operators.specs.lookahead.Standing.{Is, is_spec_open_at, is_end_at, place_at, word_at}
use Rattle.jh_spec.specs.parser.Parts as part
use Rattle.jh_parse.specs.programs.Literals.{Literal}
use Rattle.jh_parse.specs.programs.Separated.{Separated}
use Rattle.jh_parse.specs.statements.Statements.{Typed, Body}

-- what may stand before a member, and before a class
abbrev pub of_members : List Symbol
of_members = symbol.Public ∷ symbol.Private ∷ symbol.Protected ∷ symbol.Static ∷ symbol.Final ∷ []

abbrev pub of_classes : List Symbol
of_classes = symbol.Public ∷ symbol.Final ∷ []

-- one = WORD [ "=" literal ], of a type and static or not
pub data One (ts : List Token) (t : JType) (fixed : Bool) (i : ℕ) : FieldPart → ℕ → Type 0 where
  plain : {w : Word} → word_at ts i ≡ Some w → One ts t fixed i (record { name = w; jtype = t; fixed = fixed; init = None }) (i + 1)
  initial : {w : Word} {e : ExprTree} → word_at ts i ≡ Some w → Is ts (i + 1) symbol.Equal → Literal ts (i + 1 + 1) e → One ts t fixed i (record { name = w; jtype = t; fixed = fixed; init = Some e }) (i + 1 + 1 + 1)

-- field = mods type one { "," one } ";"
pub data Fields (ts : List Token) (i : ℕ) : List FieldPart → ℕ → Type 0 where
  fields : {a b j : ℕ} {ms : List Symbol} {t : JType} {fs : List FieldPart} → Modifiers ts of_members i ms a → Typed ts a t b → Separated ts (One ts t (has ms symbol.Static)) b fs j → Is ts j symbol.Semicolon → Fields ts i fs (j + 1)

-- "void" | type
pub data Result (ts : List Token) (i : ℕ) : JType → ℕ → Type 0 where
  nothing : Is ts i symbol.Void → Result ts i jtype.Void (i + 1)
  something : {j : ℕ} {t : JType} → Typed ts i t j → Result ts i t j

-- type WORD
pub data Parameter (ts : List Token) (i : ℕ) : Param → ℕ → Type 0 where
  parameter : {j : ℕ} {t : JType} {w : Word} → Typed ts i t j → word_at ts j ≡ Some w → Parameter ts i (record { name = w; jtype = t }) (j + 1)

-- "(" [ type WORD { "," type WORD } ] ")"
pub data Parameters (ts : List Token) (i : ℕ) : List Param → ℕ → Type 0 where
  no_parameters : Is ts i symbol.LeftParenthesis → Is ts (i + 1) symbol.RightParenthesis → Parameters ts i [] (i + 2)
  some_parameters : {j : ℕ} {ps : List Param} → Is ts i symbol.LeftParenthesis → Separated ts (Parameter ts) (i + 1) ps j → Is ts j symbol.RightParenthesis → Parameters ts i ps (j + 1)

-- [ S(contract) ]
pub data Promised (ts : List Token) (n i : ℕ) : Option SpecPart → List Word → Option SpecPart → ℕ → ℕ → Type 0 where
  no_contract : Promised ts n i None [] None i n
  a_contract : {j m : ℕ} {pre post : Option SpecPart} {ws : List Word} → is_spec_open_at ts i ≡ true → part.Contracted ts n (i + 1) pre ws post j m → Promised ts n i pre ws post (j + 1) m

-- method = mods ("void" | type) WORD "(" .. ")" [ S(contract) ] "{" { statement } "}": its end is the closing brace
pub data Method (ts : List Token) (n i : ℕ) : MethodPart → ℕ → ℕ → Type 0 where
  method : {a b c d j k m : ℕ} {ms : List Symbol} {t : JType} {w : Word} {ps : List Param} {pre post : Option SpecPart} {ws : List Word} {ss : StmtTrees}
      → Modifiers ts of_members i ms a → Result ts a t b → word_at ts b ≡ Some w → Parameters ts (b + 1) ps c → Promised ts n c pre ws post d k → Body ts k d ss j m
      → Method ts n i (record { name = w; is_public = has ms symbol.Public; fixed = has ms symbol.Static; result = t; params = ps; pre = pre; modifies = ws; post = post; body = ss; end = place_at ts j }) (j + 1) m

-- what a member is: several fields, a method, or what a specification declares
pub data MemberTree : Type 0 where
  of_fields : List FieldPart → MemberTree
  of_method : MethodPart → MemberTree
  of_items : List part.ItemTree → MemberTree

-- member = field | method | S({ specitem })
pub data Member (ts : List Token) (n i : ℕ) : MemberTree → ℕ → ℕ → Type 0 where
  a_field : {j : ℕ} {fs : List FieldPart} → Fields ts i fs j → Member ts n i (of_fields fs) j n
  a_method : {j m : ℕ} {x : MethodPart} → Method ts n i x j m → Member ts n i (of_method x) j m
  some_items : {j m : ℕ} {xs : List part.ItemTree} → is_spec_open_at ts i ≡ true → part.Items ts n (i + 1) xs j m → Member ts n i (of_items xs) (j + 1) m

-- the fields, methods and parts of specifications among members
abbrev pub fields_of : MemberTree → List FieldPart
fields_of (of_fields fs) = fs
fields_of (of_method x) = []
fields_of (of_items xs) = []

abbrev pub methods_of : MemberTree → List MethodPart
methods_of (of_fields fs) = []
methods_of (of_method x) = x ∷ []
methods_of (of_items xs) = []

abbrev pub items_of : MemberTree → List part.ItemTree
items_of (of_fields fs) = []
items_of (of_method x) = []
items_of (of_items xs) = xs

abbrev pub variables_of : part.ItemTree → List VarPart
variables_of (part.variable v) = v ∷ []
variables_of (part.definition d) = []
variables_of (part.invariant l) = []

abbrev pub definitions_of : part.ItemTree → List DefPart
definitions_of (part.variable v) = []
definitions_of (part.definition d) = d ∷ []
definitions_of (part.invariant l) = []

abbrev pub invariants_of : part.ItemTree → List LabelledPart
invariants_of (part.variable v) = []
invariants_of (part.definition d) = []
invariants_of (part.invariant l) = l ∷ []

-- a class of these members: each list of it is in the order of the text
abbrev pub class_of : Word → List MemberTree → ClassPart
class_of w xs = record {
  name = w;
  fields = flat_map fields_of xs;
  methods = flat_map methods_of xs;
  vars = flat_map variables_of (flat_map items_of xs);
  defs = flat_map definitions_of (flat_map items_of xs);
  invariants = flat_map invariants_of (flat_map items_of xs);
}

-- { "public" | "final" | S("claimedby" WORD) }, where no modifier stands twice. `seen` are those before.
pub data Heads (ts : List Token) : List Symbol → ℕ → ℕ → Type 0 where
  no_head : {i : ℕ} {seen : List Symbol} → Heads ts seen i i
  a_modifier : {i j : ℕ} {seen : List Symbol} {s : Symbol} → allowed_at ts of_classes i ≡ Some s → has seen s ≡ false → Heads ts (seen ++ s ∷ []) (i + 1) j → Heads ts seen i j
  a_claim : {i j k : ℕ} {seen : List Symbol} {w : Word} → is_spec_open_at ts i ≡ true → part.Claimed ts (i + 1) w j → Heads ts seen (j + 1) k → Heads ts seen i k

-- class = { "public" | "final" | S("claimedby" WORD) } "class" WORD "{" { member } "}"
pub data Class (ts : List Token) (n i : ℕ) : ClassPart → ℕ → ℕ → Type 0 where
  class : {a j m : ℕ} {w : Word} {xs : List MemberTree} → Heads ts [] i a → Is ts a symbol.Class → word_at ts (a + 1) ≡ Some w → Is ts (a + 1 + 1) symbol.LeftBrace → Many (Member ts) n (a + 1 + 1 + 1) xs j m → Is ts j symbol.RightBrace → Class ts n i (class_of w xs) (j + 1) m

-- program = { class } End: all the tokens. Formulas are numbered from 0.
pub data Spells (ts : List Token) : ProgramTree → Type 0 where
  program : {j m : ℕ} {cs : List ClassPart} → Many (Class ts) 0 0 cs j m → is_end_at ts j ≡ true → length ts ≡ j + 1 → Spells ts (record { classes = cs })
