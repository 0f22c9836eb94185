-- The sorts of trees.
use Rattle.std.specs.Prelude.{Bool, true, false}
use Rattle.jh_name.specs.declared.place.Sort as place
use Rattle.jh_name.specs.declared.place.Sort.TheVariants as Sort
use Rattle.jh_form.specs.Tree.{ValueTree}
use Rattle.jh_form.specs.Tree as t

-- the sort of a value
abbrev pub tree_sort : ValueTree → place.Sort
tree_sort (t.of_object a) = Sort.Obj
tree_sort (t.of_number a) = Sort.Int
tree_sort (t.of_truth a) = Sort.Bool
tree_sort (t.of_set a) = Sort.Set
tree_sort (t.of_field a) = Sort.Field

abbrev pub same_sort : place.Sort → place.Sort → Bool
same_sort Sort.Obj Sort.Obj = true
same_sort Sort.Int Sort.Int = true
same_sort Sort.Bool Sort.Bool = true
same_sort Sort.Set Sort.Set = true
same_sort Sort.Field Sort.Field = true
same_sort _ _ = false
