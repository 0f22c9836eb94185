-- The value of a formula at a place of the program, where the program is given by tables.
use Rattle.std.specs.Prelude.{◌≡◌, ℕ, true, List, [], map, Option, Some, None, option_map, slice_get}
use Rattle.std.specs.Borrow.{Bor}
use Rattle.std.specs.Option.{option_map_or}
use Rattle.jh_name.specs.declared.naming.Name.{Name}
use Rattle.jh_name.specs.declared.place.Kind.{Kind}
use Rattle.jh_name.specs.declared.place.Kind.TheVariants as k
use Rattle.jh_ast.specs.declared.word.Word.{Word}
use Rattle.jh_rules.specs.declared.entries.StateEntry.{StateEntry}
use Rattle.jh_ast.specs.declared.program.Class.{Class}
use Rattle.jh_ast.specs.Forms.{FormTree, FormTrees}
use Rattle.jh_form.specs.Tree.{ValueTree, TermTree, SetTree, FieldTrees}
use Rattle.jh_arena.specs.table.Entries.{is_set, the_set}
use Rattle.jh_rules.specs.Words.{text_of}
use Rattle.jh_symbols.specs.scopes.Lookings.{declared_by, scope_by}
use Rattle.jh_vars.specs.Resolved as r
use Rattle.jh_resolution.specs.declared.context.Context.{Context}
use Rattle.jh_resolution.specs.declared.context.Spot as context
use Rattle.jh_resolution.specs.Meant.{meaning_in}

-- the texts of words that are borrowed
abbrev pub texts_of : List (Bor Word) → List (List ℕ)
texts_of ws = map (λ w. text_of w.now) ws

abbrev pub spelled_by : List Class → ℕ → List ℕ
spelled_by cs n = option_map_or (λ (c : Class). text_of c.name) (slice_get cs n) []

abbrev pub spot_of : context.Spot → r.Spot
spot_of at = record { class = at.class; local = (scope_by at.scope.now).local; result = at.result; bound = texts_of at.bound.now; this_bound = at.this_bound }

-- the value of a formula
abbrev pub value_in : List ValueTree → Context → context.Spot → FormTree → ValueTree
value_in ts x at a = r.resolved (declared_by x.lookups.now) (spelled_by x.classes.now) (meaning_in ts x.meanings.now) a (spot_of at)

-- the node of that value
abbrev pub IsResolved : List ValueTree → Context → context.Spot → FormTree → ℕ → Type 0
IsResolved ts x at a n = slice_get ts n ≡ Some (value_in ts x at a)

-- the kind of a field, static or specification variable
abbrev pub kind_of_state : StateEntry → Kind
kind_of_state s = option_map_or (λ u. u) s.kind k.Obj

-- a static, and a member of an object
abbrev pub static_in : List ValueTree → Context → StateEntry → List ℕ → ValueTree
static_in ts x s n = r.static_value (declared_by x.lookups.now) (spelled_by x.classes.now) (meaning_in ts x.meanings.now) (record { entry = s; name = n })

abbrev pub member_in : List ValueTree → Context → StateEntry → List ℕ → TermTree → ValueTree
member_in ts x s n a = r.member_value (declared_by x.lookups.now) (spelled_by x.classes.now) (meaning_in ts x.meanings.now) (record { entry = s; name = n }) a

abbrev pub state_in : List ValueTree → Context → context.Spot → StateEntry → List ℕ → ValueTree
state_in ts x at s n = r.state_value (declared_by x.lookups.now) (spelled_by x.classes.now) (meaning_in ts x.meanings.now) (spot_of at) (record { entry = s; name = n })

abbrev pub outer_in : List ValueTree → Context → context.Spot → Word → ValueTree
outer_in ts x at w = r.outer_value (declared_by x.lookups.now) (spelled_by x.classes.now) (meaning_in ts x.meanings.now) (spot_of at) w

abbrev pub name_in : List ValueTree → Context → context.Spot → Word → ValueTree
name_in ts x at w = r.name_value (declared_by x.lookups.now) (spelled_by x.classes.now) (meaning_in ts x.meanings.now) (spot_of at) w

abbrev pub after_dots_in : List ValueTree → Context → context.Spot → TermTree → Word → ValueTree
after_dots_in ts x at a w = r.after_dots (declared_by x.lookups.now) (spelled_by x.classes.now) (meaning_in ts x.meanings.now) (spot_of at) a w

abbrev pub local_in : List ValueTree → Context → context.Spot → Word → ValueTree
local_in ts x at w = r.local_value (declared_by x.lookups.now) (spelled_by x.classes.now) (meaning_in ts x.meanings.now) (spot_of at) w

abbrev pub state_or_class_in : List ValueTree → Context → context.Spot → Word → ValueTree
state_or_class_in ts x at w = r.state_or_class (declared_by x.lookups.now) (spelled_by x.classes.now) (meaning_in ts x.meanings.now) (spot_of at) w

abbrev pub field_in : Context → context.Spot → Word → Name
field_in x at w = r.field_name (declared_by x.lookups.now) (spelled_by x.classes.now) (spot_of at) w

abbrev pub fields_in : Context → context.Spot → List Word → FieldTrees
fields_in x at ws = r.field_list (declared_by x.lookups.now) (spelled_by x.classes.now) (spot_of at) ws

abbrev pub path_in : Context → context.Spot → Word → Word → FormTree → FieldTrees
path_in x at u v body = r.path_fields (declared_by x.lookups.now) (spelled_by x.classes.now) (spot_of at) u v body

-- a union of singles with what is made of those before
abbrev pub union_in : List ValueTree → Context → context.Spot → FormTrees → Option SetTree → SetTree
union_in ts x at fs made = r.union_of (declared_by x.lookups.now) (spelled_by x.classes.now) (meaning_in ts x.meanings.now) fs (spot_of at) made

-- the set at a node, where there is one
abbrev pub set_at : List ValueTree → Option ℕ → Option SetTree
set_at ts made = option_map (λ n. the_set (slice_get ts n)) made

-- the value of a formula under a binder of some words
abbrev pub under_in : List ValueTree → Context → context.Spot → List Word → FormTree → ValueTree
under_in ts x at ws a = r.resolved (declared_by x.lookups.now) (spelled_by x.classes.now) (meaning_in ts x.meanings.now) a (r.under (spot_of at) ws)

-- what is made of a union so far stands in the table
abbrev pub SetsStand : List ValueTree → Option ℕ → Type 0
SetsStand ts None = Unit {0}
SetsStand ts (Some n) = is_set (slice_get ts n) ≡ true
