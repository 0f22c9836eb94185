-- The faults of a class, where a test says which words come behind others of their name.
use Rattle.std.specs.Prelude.{ℕ, ◌&&◌, ◌||◌, not, Bool, true, false, List, [], ◌∷◌, ◌++◌, map, Option, None, codes}
use Rattle.std.specs.List.{flat_map}
use Rattle.std.specs.Option.{option_map_or}
use Rattle.jh_name.specs.declared.place.Place.{Place}
use Rattle.jh_name.specs.declared.place.Kind.{Kind}
use Rattle.jh_ast.specs.declared.word.Word.{Word}
use Rattle.jh_ast.specs.declared.program.Class.{Class}
use Rattle.jh_ast.specs.declared.program.Field.{Field}
use Rattle.jh_ast.specs.declared.program.Method.{Method}
use Rattle.jh_ast.specs.declared.program.SpecVar.{SpecVar}
use Rattle.jh_ast.specs.declared.program.VarDef.{VarDef}
use Rattle.jh_ast.specs.declared.spec.Labelled.{Labelled}
use Rattle.jh_ast.specs.Exprs.{ExprTree}
use Rattle.jh_ast.specs.Forms.{LabelledPart}
use Rattle.jh_ast.specs.Programs.{ProgramTree, ClassPart, DefPart}
use Rattle.jh_rules.specs.declared.fault.Fault.{Fault}
use Rattle.jh_rules.specs.declared.types.Ty.{Ty}
use Rattle.jh_rules.specs.declared.entries.StateEntry.{StateEntry}
use Rattle.jh_rules.specs.Faults.{broken}
use Rattle.jh_rules.specs.Words.{is_one_of, text_of}
use Rattle.jh_rules.specs.Names.{Declared}
use Rattle.jh_rules.specs.Rules.{rule_6_member, rule_7_field, rule_10}
use Rattle.jh_rules.specs.Formulas.{form_kind, truth_faults}
use Rattle.jh_rules.specs.Statements.{of_some, asked, outside}
use Rattle.jh_rules.specs.Scopes.{Scope}
use Rattle.jh_rules.specs.Kinds.{same_kind}
use Rattle.jh_type.specs.formula_kinds.Standing.{where_by}
use Rattle.jh_type.specs.declared.formula_kinds.spot.Spot.{Spot}

-- a formula outside methods
abbrev pub outside_spot : Spot
outside_spot = record { old = false; result = None }

-- a name that no class may have
abbrev pub is_kept : List ℕ → Bool
is_kept x = is_one_of x (codes "Object" ∷ codes "result" ∷ codes "alloc" ∷ [])

-- a name that no member may have
abbrev pub is_word : List ℕ → Bool
is_word x = is_one_of x (codes "result" ∷ codes "alloc" ∷ [])

abbrev pub class_name_faults : (Word → Bool) → Word → List Fault
class_name_faults b w = broken 1 w.place (b w || is_kept (text_of w))

abbrev pub member_faults : (Word → Bool) → Word → List Fault
member_faults b w = broken 2 w.place (b w) ++ rule_6_member w

abbrev pub label_faults : (Word → Bool) → Word → List Fault
label_faults b w = broken 3 w.place (b w)

-- an initialiser, where the type is known
abbrev pub init_faults : Option Ty → ExprTree → List Fault
init_faults ty a = of_some (λ t. rule_7_field t a) ty

-- whether a name has no definition that it may have
abbrev pub is_plain_variable : Option StateEntry → Bool
is_plain_variable o = option_map_or (λ (x : StateEntry). x.is_variable && not x.is_ghost) o false

abbrev pub is_static_variable : Option StateEntry → Bool
is_static_variable o = option_map_or (λ (x : StateEntry). x.is_variable && x.fixed) o false

abbrev pub has_definition : Option StateEntry → Bool
has_definition o = option_map_or (λ (x : StateEntry). x.is_defined) o false

abbrev pub def_name_faults : Declared → ℕ → (Word → Bool) → Word → List Fault
def_name_faults l n b w = broken 8 w.place (not (is_plain_variable (l.state_of n (text_of w))) || b w)

abbrev pub def_body_faults : Declared → ℕ → DefPart → List Fault
def_body_faults l n d = asked (form_kind l d.spec.form (outside l n (not (is_static_variable (l.state_of n (text_of d.name)))))) (rule_10 l n d)

abbrev pub def_faults : Declared → ℕ → (Word → Bool) → DefPart → List Fault
def_faults l n b d = def_name_faults l n b d.name ++ def_body_faults l n d

abbrev pub invariant_faults : Declared → ℕ → LabelledPart → List Fault
invariant_faults l n x = truth_faults l (outside l n true) x.spec

abbrev pub member_words : Class → List Word
member_words c = map (λ (f : Field). f.name) c.fields ++ map (λ (m : Method). m.name) c.methods ++ map (λ (v : SpecVar). v.name) c.vars

abbrev pub words_of : Labelled → List Word
words_of i = option_map_or (λ w. w ∷ []) i.name []

abbrev pub label_words_of : List Labelled → List Word
label_words_of is = flat_map words_of is

abbrev pub def_words : List VarDef → List Word
def_words ds = map (λ (d : VarDef). d.name) ds

abbrev pub class_names : ProgramTree → List Word
class_names p = map (λ (d : ClassPart). d.name) p.classes

abbrev pub is_kind_of : Kind → Option Kind → Bool
is_kind_of kind known = option_map_or (same_kind kind) known true

abbrev pub is_other : Kind → Option StateEntry → Bool
is_other kind state = option_map_or (λ (x : StateEntry). x.is_variable && not (is_kind_of kind x.kind)) state false

abbrev pub kind_faults : Place → Option Kind → Option StateEntry → List Fault
kind_faults place known state = option_map_or (λ kind. broken 10 place (is_other kind state)) known []

-- an invariant in a scope
abbrev pub invariant_in : Declared → Scope → LabelledPart → List Fault
invariant_in l at x = truth_faults l (where_by outside_spot at []) x.spec
