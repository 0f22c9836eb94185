-- The names of the state of a program, and those of parameters and locals, each with its sort.
use Rattle.std.specs.Prelude.{Bool, true, false, List, ◌∷◌, ◌++◌, map, filter, codes}
use Rattle.jh_name.specs.declared.naming.Name.{Name}
use Rattle.jh_name.specs.declared.place.Sort.{Sort}
use Rattle.jh_name.specs.declared.place.Sort.TheVariants as sort
use Rattle.jh_form.specs.Tree.{ValueTree}
use Rattle.jh_form.specs.Tree as t
use Rattle.jh_rules.specs.Kinds.{kind_of}
use Rattle.jh_semantics.specs.jh_vars.state_names.States.{sort_of, member_sort}
use Rattle.jh_semantics.specs.Code.{Text, Local}
use Rattle.jh_semantics.specs.Program.{Program, Member}
use Rattle.jh_semantics.specs.WellFormed.{all_classes}

-- a piece of the state: the set of all objects, that of the objects of a class, or a static, field or ghost variable
pub data Item : Type 0 where
  all_objects : Item
  objects_of : Text → Item
  of_member : Member → Item

abbrev pub item_text : Item → Text
item_text all_objects = codes "alloc"
item_text (objects_of c) = c
item_text (of_member x) = x.text

abbrev pub item_sort : Item → Sort
item_sort (of_member x) = member_sort x.kind x.is_static
item_sort _ = sort.Set

abbrev pub is_of_objects : Item → Bool
is_of_objects (of_member x) = false
is_of_objects _ = true

-- all of the state, in its order
abbrev pub items : Program → List Item
items p = all_objects ∷ map (λ c. objects_of c) (all_classes p.classes) ++ map (λ x. of_member x) p.members

-- of the state what a test of texts holds of
abbrev pub items_where : Program → (Text → Bool) → List Item
items_where p test = filter (λ x. test (item_text x)) (items p)

-- a name by its text, with its sort
pub record Sorted : Type 0 where
  pub text : Text
  pub sort : Sort

abbrev pub sorted_item : Item → Sorted
sorted_item x = record { text = item_text x; sort = item_sort x }

abbrev pub sorted_local : Local → Sorted
sorted_local x = record { text = x.text; sort = sort_of (kind_of x.type) }

-- the value of a name of a sort
abbrev pub free_of : Sort → Name → ValueTree
free_of sort.Obj x = t.of_object (t.free_object x)
free_of sort.Int x = t.of_number (t.free_number x)
free_of sort.Bool x = t.of_truth (t.free_truth x)
free_of sort.Set x = t.of_set (t.free_set x)
free_of sort.Field x = t.of_field (t.free_field x)
