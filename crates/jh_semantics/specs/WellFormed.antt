-- The six facts that are true of each state of a program, as one formula.
use Rattle.std.specs.Prelude.{ℕ, pos, List, [], ◌∷◌, ◌++◌, map, Option, if◌then◌else◌, codes}
use Rattle.std.specs.List.{flat_map}
use Rattle.std.specs.Option.{option_map_or}
use Rattle.jh_name.specs.declared.place.Kind.{Kind}
use Rattle.jh_name.specs.declared.place.Kind.TheVariants as k
use Rattle.jh_form.specs.Tree.{FormulaTree, SetTree, TermTree}
use Rattle.jh_form.specs.Tree as t
use Rattle.jh_arena.specs.makers.Joined.{joined}
use Rattle.jh_rules.specs.declared.types.Ty.{Ty}
use Rattle.jh_rules.specs.declared.types.Ty.TheVariants as ty
use Rattle.jh_semantics.specs.Code.{Text, Local}
use Rattle.jh_semantics.specs.Program.{Program, Member, class_at}
use Rattle.jh_semantics.specs.State.{named, this_name, alloc_name}

abbrev pub set_of : Text → SetTree
set_of x = t.free_set (named x)

abbrev pub alloc : SetTree
alloc = t.free_set alloc_name

-- the classes in the order of the source, then that of the plain objects
abbrev pub all_classes : List Text → List Text
all_classes classes = classes ++ (codes "Object" ∷ [])

-- the union of sets, grouped to the left
abbrev pub union_with : SetTree → List Text → SetTree
union_with a [] = a
union_with a (c ∷ cs) = union_with (t.union a (set_of c)) cs

abbrev pub union_of : List Text → SetTree
union_of [] = t.empty
union_of (c ∷ cs) = union_with (set_of c) cs

-- each two of the classes have no common object
abbrev pub apart : List Text → List FormulaTree
apart [] = []
apart (c ∷ cs) = map (λ d. t.eq_set (t.inter (set_of c) (set_of d)) t.empty) cs ++ apart cs

-- null or in a set
abbrev pub null_or_in : SetTree → TermTree → FormulaTree
null_or_in s a = t.or (t.eq_object a t.null) (t.member a s)

-- An object of a type: of a class null or one of its objects, of `Object` null or any object that there is. Of the other types
-- nothing has to be said.
abbrev pub lies_in : List Text → Ty → TermTree → List FormulaTree
lies_in classes (ty.Class n) a = null_or_in (set_of (class_at classes n)) a ∷ []
lies_in classes ty.Object a = null_or_in alloc a ∷ []
lies_in classes _ a = []

-- a member that has a type, at a term
abbrev pub member_lies_in : List Text → Member → TermTree → List FormulaTree
member_lies_in classes x a = option_map_or (λ type. lies_in classes type a) x.type []

-- `ALL x.` over the objects in a set, and over those outside it
abbrev pub each_in : SetTree → FormulaTree → FormulaTree
each_in s f = t.all (t.implies (t.member (t.bound 0) s) f)

abbrev pub each_outside : SetTree → FormulaTree → FormulaTree
each_outside s f = t.all (t.implies (t.negation (t.member (t.bound 0) s)) f)

-- `x..f` is the default of its kind
abbrev pub is_default : Kind → Text → FormulaTree
is_default k.Obj f = t.eq_object (t.read_object (t.free_field (named f)) (t.bound 0)) t.null
is_default k.Int f = t.eq_number (t.read_number (t.free_field (named f)) (t.bound 0)) (t.const (pos 0))
is_default k.Bool f = t.negation (t.read_truth (t.free_field (named f)) (t.bound 0))
is_default k.Set f = t.eq_set (t.read_set (t.free_field (named f)) (t.bound 0)) t.empty

abbrev pub static_facts : List Text → Member → List FormulaTree
static_facts classes x = if x.is_static then member_lies_in classes x (t.free_object (named x.text)) else []

abbrev pub local_facts : List Text → Local → List FormulaTree
local_facts classes x = lies_in classes x.type (t.free_object (named x.text))

abbrev pub this_facts : List Text → Option ℕ → List FormulaTree
this_facts classes this = option_map_or (λ n. t.member (t.free_object this_name) (set_of (class_at classes n)) ∷ []) this []

abbrev pub field_facts : List Text → Member → List FormulaTree
field_facts classes x = if x.is_static then [] else map (each_in (set_of x.class)) (member_lies_in classes x (t.read_object (t.free_field (named x.text)) (t.bound 0)))

abbrev pub default_facts : Member → List FormulaTree
default_facts x = if x.is_static then [] else each_outside (set_of x.class) (is_default x.kind x.text) ∷ []

-- 1 to 6: `alloc` is the union of the classes; no two classes have a common object; null is not in `alloc`; statics, the parameters
-- and locals in scope and `this` lie in their types; so do fields at the objects of their class; and fields have their default at
-- all other objects.
abbrev pub well_formed_facts : Program → List Local → Option ℕ → List FormulaTree
well_formed_facts p scope this =
    (t.eq_set alloc (union_of (all_classes p.classes)) ∷ [])
    ++ apart (all_classes p.classes)
    ++ (t.negation (t.member t.null alloc) ∷ [])
    ++ (flat_map (static_facts p.classes) p.members ++ flat_map (local_facts p.classes) scope ++ this_facts p.classes this)
    ++ flat_map (field_facts p.classes) p.members
    ++ flat_map default_facts p.members

abbrev pub well_formed : Program → List Local → Option ℕ → FormulaTree
well_formed p scope this = joined (well_formed_facts p scope this)
