-- What the names of a program are declared as.
use Rattle.std.specs.Prelude.{ℕ, ◌+◌, Bool, false, true, List, [], ◌∷◌, ◌++◌, map, Option, Some, None, option_map, is_some, slice_get, codes, if◌then◌else◌}
use Rattle.std.specs.List.{flat_map}
use Rattle.std.specs.Option.{option_map_or}
use Rattle.jh_ast.specs.jh_name.declared.place.Kind.{Kind}
use Rattle.jh_ast.specs.jh_name.declared.place.Kind.TheVariants as k
use Rattle.jh_ast.specs.declared.word.Word.{Word}
use Rattle.jh_ast.specs.declared.word.JType.{JType}
use Rattle.jh_ast.specs.declared.word.JType.TheVariants as j
use Rattle.jh_ast.specs.declared.word.Param.{Param}
use Rattle.jh_ast.specs.Forms.{LabelledPart}
use Rattle.jh_ast.specs.Programs.{ProgramTree, ClassPart, FieldPart, VarPart, DefPart, MethodPart}
use Rattle.jh_rules.specs.declared.types.Ty.{Ty}
use Rattle.jh_rules.specs.declared.types.Ty.TheVariants as ty
use Rattle.jh_rules.specs.declared.entries.FieldEntry.{FieldEntry}
use Rattle.jh_rules.specs.declared.entries.StateEntry.{StateEntry}
use Rattle.jh_rules.specs.declared.entries.MethodEntry.{MethodEntry}
use Rattle.jh_rules.specs.Kinds.{kind_of}
use Rattle.jh_rules.specs.Words.{same_text, is_one_of, text_of, is_before, halves}

infixl 10 ◌then◌
abbrev pub ◌then◌ : {A B : Type 0} → Option A → (A → Option B) → Option B
None then f = None
(Some x) then f = f x

-- What is declared: the number of a class; the field, the method and the state (a field, static or
-- specification variable) of a name in the class of a number; the one state of a name in all classes; and
-- whether some invariant has a name.
pub record Declared : Type 0 where
  pub class_named : List ℕ → Option ℕ
  pub field_of : ℕ → List ℕ → Option FieldEntry
  pub method_of : ℕ → List ℕ → Option MethodEntry
  pub state_of : ℕ → List ℕ → Option StateEntry
  pub only_state : List ℕ → Option StateEntry
  pub is_invariant : List ℕ → Bool

-- the type of a class name, where classes have these numbers
abbrev pub class_type : (List ℕ → Option ℕ) → List ℕ → Option Ty
class_type numbers x = option_map_or (λ n. Some (ty.Class n)) (numbers x) (if same_text x (codes "Object") then Some ty.Object else None)

-- the type of a type word
abbrev pub type_of : (List ℕ → Option ℕ) → JType → Option Ty
type_of numbers j.Int = Some ty.Int
type_of numbers j.Boolean = Some ty.Boolean
type_of numbers j.Void = Some ty.Void
type_of numbers (j.Class w) = class_type numbers (text_of w)

-- the kind of a value of a type word
abbrev pub kind_of_word : JType → Kind
kind_of_word j.Int = k.Int
kind_of_word j.Boolean = k.Bool
kind_of_word j.Void = k.Obj
kind_of_word (j.Class w) = k.Obj

-- a member of a class
pub data MemberPart : Type 0 where
  field : FieldPart → MemberPart
  method : MethodPart → MemberPart
  var : VarPart → MemberPart

abbrev pub member_word : MemberPart → Word
member_word (field x) = x.name
member_word (method m) = m.name
member_word (var v) = v.name

abbrev pub members_of : ClassPart → List MemberPart
members_of c = map field c.fields ++ map method c.methods ++ map var c.vars

-- of the members of a name the first in the text
unfoldable pub first_named : List ℕ → List MemberPart → Option MemberPart
first_named x [] = None
first_named x (m ∷ ms) = if same_text (text_of (member_word m)) x then Some (option_map_or (λ n. if is_before (member_word n).place (member_word m).place then n else m) (first_named x ms) m) else first_named x ms

-- the number of the first class of a name
unfoldable pub class_from : ℕ → List ℕ → List ClassPart → Option ℕ
class_from n x [] = None
class_from n x (c ∷ cs) = if same_text (text_of c.name) x then Some n else class_from (n + 1) x cs

-- the first definition of a variable
unfoldable pub def_in : List ℕ → List DefPart → Option DefPart
def_in x [] = None
def_in x (d ∷ ds) = if same_text (text_of d.name) x then Some d else def_in x ds

-- the names of some invariants
abbrev pub label_of : LabelledPart → List (List ℕ)
label_of l = option_map_or (λ w. text_of w ∷ []) l.label []

module _ (p : ProgramTree) where
  abbrev pub number_of : List ℕ → Option ℕ
  number_of x = class_from 0 x p.classes

  abbrev pub member_of : ℕ → List ℕ → Option MemberPart
  member_of c x = slice_get p.classes c then λ class. first_named x (members_of class)

  abbrev pub def_of : ℕ → List ℕ → Option DefPart
  def_of c x = slice_get p.classes c then λ class. def_in x class.defs

  abbrev pub field_from : Option MemberPart → Option FieldEntry
  field_from (Some (field x)) = Some (record { fixed = x.fixed; ty = type_of number_of x.jtype })
  field_from _ = None

  abbrev pub param_type : Param → Option Ty
  param_type d = type_of number_of d.jtype

  abbrev pub method_from : Option MemberPart → Option MethodEntry
  method_from (Some (method m)) = Some (record { fixed = m.fixed; result = type_of number_of m.result; params = map param_type m.params })
  method_from _ = None

  abbrev pub state_from : ClassPart → ℕ → Option MemberPart → Option StateEntry
  state_from d c (Some (field x)) = Some (record {
    class = c;
    kind = option_map kind_of (type_of number_of x.jtype);
    fixed = x.fixed;
    is_variable = false;
    is_ghost = false;
    is_defined = false;
  })
  state_from d c (Some (var v)) = Some (record {
    class = c;
    kind = Some v.kind;
    fixed = v.fixed;
    is_variable = true;
    is_ghost = v.is_ghost;
    is_defined = is_some (def_in (text_of v.name) d.defs);
  })
  state_from d c _ = None

  abbrev pub state_in : ℕ → List ℕ → ClassPart → Option StateEntry
  state_in c x d = state_from d c (first_named x (members_of d))

  -- the state of a name in the classes from number n on
  unfoldable pub states_from : ℕ → List ℕ → List ClassPart → List StateEntry
  states_from n x [] = []
  states_from n x (c ∷ cs) = option_map_or (λ s. s ∷ states_from (n + 1) x cs) (state_in n x c) (states_from (n + 1) x cs)

  abbrev pub the_only : List StateEntry → Option StateEntry
  the_only (s ∷ []) = Some s
  the_only _ = None

  abbrev pub invariant_labels : List (List ℕ)
  invariant_labels = flat_map (λ (c : ClassPart). flat_map label_of c.invariants) p.classes

  -- what a program declares
  abbrev pub declared_in : Declared
  declared_in = record {
    class_named = number_of;
    field_of = λ c x. field_from (member_of c x);
    method_of = λ c x. method_from (member_of c x);
    state_of = λ c x. slice_get p.classes c then state_in c x;
    only_state = λ x. the_only (states_from 0 x p.classes);
    is_invariant = λ x. is_one_of x invariant_labels;
  }

-- the own name of a qualified word, or of a plain one
abbrev pub own_name : List ℕ → List ℕ
own_name x = option_map_or (λ h. h.1) (halves x) x

module _ (l : Declared) where
  -- a qualified word, or a plain one as a member of the class
  abbrev pub state_spelled : ℕ → List ℕ → Option StateEntry
  state_spelled c x = option_map_or (λ h. l.class_named h.0 then λ d. l.state_of d h.1) (halves x) (l.state_of c x)

  -- What a word after `..`, in `tree` and in `modifies` names: a member of the own class, or else of the
  -- one class that has a member of that name.
  abbrev pub state_named : ℕ → List ℕ → Option StateEntry
  state_named c x = option_map_or (λ s. Some s) (state_spelled c x) (if is_some (halves x) then None else l.only_state x)
