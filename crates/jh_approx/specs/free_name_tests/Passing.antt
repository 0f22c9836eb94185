-- Tests of free names.
use Rattle.std.specs.Prelude.{◌≡◌, Bool, true, filter}
use Rattle.std.specs.List.{list_all}
use Rattle.jh_name.specs.declared.naming.Name.{Name}
use Rattle.jh_name.specs.declared.place.Sort as place
use Rattle.jh_name.specs.declared.place.Sort.TheVariants as Sort
use Rattle.jh_form.specs.Tree.{ValueTree}
use Rattle.jh_form.specs.Tree as t
use Rattle.jh_form.specs.Passing.{value_passes}
use Rattle.jh_normal_forms.specs.parts.Asked.{is_free_name}
use Rattle.jh_normal_forms.specs.parts.Standing.{value_parts}
use Rattle.jh_normal_forms.specs.declared.parts.order.Order.{Order}

-- a free name passes a test at its sort; what is no free name passes
unfoldable pub name_passes : (Name → place.Sort → Bool) → ValueTree → Bool
name_passes p (t.of_object (t.free_object x)) = p x Sort.Obj
name_passes p (t.of_number (t.free_number x)) = p x Sort.Int
name_passes p (t.of_truth (t.free_truth x)) = p x Sort.Bool
name_passes p (t.of_set (t.free_set x)) = p x Sort.Set
name_passes p (t.of_field (t.free_field x)) = p x Sort.Field
name_passes p v = true

-- A tree passes a test exactly where each free name among its parts does.
abbrev pub FreeNamesDecide : Type 0
FreeNamesDecide = (p : Name → place.Sort → Bool) (v : ValueTree) (o : Order) → value_passes v p ≡ list_all (name_passes p) (filter is_free_name (value_parts v o))
