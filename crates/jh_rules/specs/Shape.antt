-- The shape of a source: what holds of every program that was read from a text.
use Rattle.std.specs.Prelude.{ℕ, ℤ, pos, negsuc, ◌==◌, ◌&&◌, ◌||◌, not, Bool, true, false, List, [], ◌∷◌, ◌++◌, Option, codes, IsTrue}
use Rattle.std.specs.List.{list_any, list_all}
use Rattle.std.specs.Option.{option_map_or}
use Rattle.jh_ast.specs.declared.word.Word.{Word}
use Rattle.jh_ast.specs.declared.word.JType.{JType}
use Rattle.jh_ast.specs.declared.word.JType.TheVariants as j
use Rattle.jh_ast.specs.declared.word.Param.{Param}
use Rattle.jh_ast.specs.Exprs.{ExprTree}
use Rattle.jh_ast.specs.Exprs as e
use Rattle.jh_ast.specs.Forms.{FormTree, FormTrees, SpecPart, LabelledPart}
use Rattle.jh_ast.specs.Forms as f
use Rattle.jh_ast.specs.Stmts.{StmtTree, StmtTrees, RhsTree, CallTree}
use Rattle.jh_ast.specs.Stmts as s
use Rattle.jh_ast.specs.Programs.{ProgramTree, ClassPart, FieldPart, VarPart, DefPart, MethodPart}
use Rattle.jh_rules.specs.Words.{same_text, text_of}

-- What stands in a part of a program: every word, the words that name what is declared, the types of fields,
-- parameters and locals, the literals, the numbers of the formulas, and what is assigned to.
pub record Parts : Type 0 where
  pub words : List Word
  pub declared : List Word
  pub types : List JType
  pub literals : List ℤ
  pub numbers : List ℕ
  pub targets : List ExprTree

abbrev pub nothing : Parts
nothing = record { words = []; declared = []; types = []; literals = []; numbers = []; targets = [] }

infixr 5 ◌and◌
abbrev pub ◌and◌ : Parts → Parts → Parts
a and b = record {
  words = a.words ++ b.words;
  declared = a.declared ++ b.declared;
  types = a.types ++ b.types;
  literals = a.literals ++ b.literals;
  numbers = a.numbers ++ b.numbers;
  targets = a.targets ++ b.targets;
}

abbrev pub of_words : List Word → Parts
of_words ws = record { words = ws; declared = []; types = []; literals = []; numbers = []; targets = [] }

abbrev pub of_literal : ℤ → Parts
of_literal z = record { words = []; declared = []; types = []; literals = z ∷ []; numbers = []; targets = [] }

abbrev pub of_number : ℕ → Parts
of_number n = record { words = []; declared = []; types = []; literals = []; numbers = n ∷ []; targets = [] }

abbrev pub of_target : ExprTree → Parts
of_target a = record { words = []; declared = []; types = []; literals = []; numbers = []; targets = a ∷ [] }

-- a word that names what is declared there
abbrev pub of_declared : Word → Parts
of_declared w = record { words = w ∷ []; declared = w ∷ []; types = []; literals = []; numbers = []; targets = [] }

-- the words of a type
abbrev pub type_words : JType → List Word
type_words j.Int = []
type_words j.Boolean = []
type_words j.Void = []
type_words (j.Class w) = w ∷ []

abbrev pub of_type : JType → Parts
of_type t = record { words = type_words t; declared = []; types = t ∷ []; literals = []; numbers = []; targets = [] }

abbrev pub of_param : Param → Parts
of_param d = of_type d.jtype and of_declared d.name

abbrev pub some_parts : {A : Type 0} → (A → Parts) → Option A → Parts
some_parts g x = option_map_or g x nothing

unfoldable pub all_parts : {A : Type 0} → (A → Parts) → List A → Parts
all_parts g [] = nothing
all_parts g (x ∷ xs) = g x and all_parts g xs

unfoldable pub expr_parts : ExprTree → Parts
expr_parts (e.null q) = nothing
expr_parts (e.yes q) = nothing
expr_parts (e.no q) = nothing
expr_parts (e.number q z) = of_literal z
expr_parts (e.this q) = nothing
expr_parts (e.name q w) = of_words (w ∷ [])
expr_parts (e.member q a w) = expr_parts a and of_words (w ∷ [])
expr_parts (e.negation q a) = expr_parts a
expr_parts (e.minus q a) = expr_parts a
expr_parts (e.binary q o a b) = expr_parts a and expr_parts b

unfoldable mutual
  pub form_parts : FormTree → Parts
  form_parts (f.null q) = nothing
  form_parts (f.yes q) = nothing
  form_parts (f.no q) = nothing
  form_parts (f.univ q) = nothing
  form_parts (f.number q z) = of_literal z
  form_parts (f.name q w) = of_words (w ∷ [])
  form_parts (f.member q a w) = form_parts a and of_words (w ∷ [])
  form_parts (f.negation q a) = form_parts a
  form_parts (f.minus q a) = form_parts a
  form_parts (f.old q a) = form_parts a
  form_parts (f.card q a) = form_parts a
  form_parts (f.binary q o a b) = form_parts a and form_parts b
  form_parts (f.dvd q z a) = of_literal z and form_parts a
  form_parts (f.all q ws a) = of_words ws and form_parts a
  form_parts (f.ex q ws a) = of_words ws and form_parts a
  form_parts (f.tree q ws) = of_words ws
  form_parts (f.rtrancl q x y body a b) = of_words (x ∷ y ∷ []) and form_parts body and form_parts a and form_parts b
  form_parts (f.braces q fs) = forms_parts fs
  form_parts (f.compr q w a) = of_words (w ∷ []) and form_parts a

  pub forms_parts : FormTrees → Parts
  forms_parts f.none = nothing
  forms_parts (f.more a fs) = form_parts a and forms_parts fs

abbrev pub spec_parts : SpecPart → Parts
spec_parts spec = of_number spec.number and form_parts spec.form

abbrev pub labelled_parts : LabelledPart → Parts
labelled_parts l = some_parts (λ w. of_words (w ∷ [])) l.label and spec_parts l.spec and of_words l.from

abbrev pub call_parts : CallTree → Parts
call_parts c = some_parts expr_parts c.receiver and of_words (c.method ∷ []) and all_parts expr_parts c.args

abbrev pub rhs_parts : RhsTree → Parts
rhs_parts (s.value a) = expr_parts a
rhs_parts (s.result_of c) = call_parts c
rhs_parts (s.new w) = of_words (w ∷ [])

unfoldable mutual
  pub stmt_parts : StmtTree → Parts
  stmt_parts (s.empty q) = nothing
  stmt_parts (s.block q ss) = stmts_parts ss
  stmt_parts (s.local q d r) = of_param d and some_parts rhs_parts r
  stmt_parts (s.assign q a r) = of_target a and expr_parts a and rhs_parts r
  stmt_parts (s.call q c) = call_parts c
  stmt_parts (s.branch q c a b) = expr_parts c and stmt_parts a and stmts_parts b
  stmt_parts (s.loop q is c a) = all_parts labelled_parts is and expr_parts c and stmt_parts a
  stmt_parts (s.return q r) = some_parts expr_parts r
  stmt_parts (s.assert q l) = labelled_parts l
  stmt_parts (s.note q l) = labelled_parts l
  stmt_parts (s.ghost q l r) = spec_parts l and spec_parts r

  pub stmts_parts : StmtTrees → Parts
  stmts_parts s.none = nothing
  stmts_parts (s.more a ss) = stmt_parts a and stmts_parts ss

abbrev pub field_parts : FieldPart → Parts
field_parts x = of_type x.jtype and of_declared x.name and some_parts expr_parts x.init

abbrev pub var_parts : VarPart → Parts
var_parts v = of_declared v.name and some_parts spec_parts v.init

abbrev pub def_parts : DefPart → Parts
def_parts d = of_words (d.name ∷ []) and spec_parts d.spec

abbrev pub method_parts : MethodPart → Parts
method_parts m =
    of_words (type_words m.result) and of_declared m.name and all_parts of_param m.params and some_parts spec_parts m.pre
    and of_words m.modifies and some_parts spec_parts m.post and stmts_parts m.body

abbrev pub class_parts : ClassPart → Parts
class_parts c =
    of_declared c.name and all_parts field_parts c.fields and all_parts method_parts c.methods and all_parts var_parts c.vars
    and all_parts def_parts c.defs and all_parts labelled_parts c.invariants

abbrev pub program_parts : ProgramTree → Parts
program_parts p = all_parts class_parts p.classes

-- a name that may be declared: not empty, without space, line feed and dot, and not `this`
abbrev pub is_empty : List ℕ → Bool
is_empty [] = true
is_empty (c ∷ cs) = false

abbrev pub is_forbidden : ℕ → Bool
is_forbidden c = (c == 32) || ((c == 10) || (c == 46))

abbrev pub may_be_declared : List ℕ → Bool
may_be_declared x = not (is_empty x || (list_any is_forbidden x || same_text x (codes "this")))

abbrev pub is_not_negative : ℤ → Bool
is_not_negative (pos n) = true
is_not_negative (negsuc n) = false

abbrev pub is_not_void : JType → Bool
is_not_void j.Void = false
is_not_void _ = true

abbrev pub may_be_assigned : ExprTree → Bool
may_be_assigned (e.name q w) = true
may_be_assigned (e.member q a w) = true
may_be_assigned _ = false

-- whether no number of a list stands in it twice
unfoldable pub are_different : List ℕ → Bool
are_different [] = true
are_different (n ∷ ns) = not (list_any (λ m. m == n) ns) && are_different ns

-- Every name has turn 0; no two formulas have one number; no literal is below 0; the name of each class,
-- member, parameter and local may be declared; `void` stands as a method's result alone; and what an assignment
-- assigns to is a name or a member.
pub record ShapeOfSource (p : ProgramTree) : Type 0 where
  pub turns : IsTrue (list_all (λ (w : Word). w.text.turn == 0) (program_parts p).words)
  pub numbers : IsTrue (are_different (program_parts p).numbers)
  pub literals : IsTrue (list_all is_not_negative (program_parts p).literals)
  pub declared : IsTrue (list_all (λ w. may_be_declared (text_of w)) (program_parts p).declared)
  pub types : IsTrue (list_all is_not_void (program_parts p).types)
  pub targets : IsTrue (list_all may_be_assigned (program_parts p).targets)
