-- Names that are gathered one after another.
use Rattle.std.specs.Prelude.{Bool, if◌then◌else◌, List, [], ◌∷◌, ◌++◌}
use Rattle.std.specs.List.{list_any}
use Rattle.jh_form.specs.Tree.{ValueTree, of_object, of_number, of_truth, of_set, of_field}
use Rattle.jh_boxed_operations.specs.comparison.Exchanged.{equal_trees}
use Rattle.jh_approx.specs.definition.Names.{set_names, number_names, names}

-- the names of a value: of an object that stands as an element, of a number, a formula or a set
unfoldable pub value_names : ValueTree → List ValueTree
value_names (of_object a) = of_object a ∷ []
value_names (of_number a) = number_names a
value_names (of_truth a) = names a
value_names (of_set a) = set_names a
value_names (of_field a) = []

-- the name is in the list
abbrev pub has_name : List ValueTree → ValueTree → Bool
has_name known v = list_any (equal_trees v) known

-- the list with the name, which is added at its end where it is new
abbrev pub with_name : List ValueTree → ValueTree → List ValueTree
with_name known v = if has_name known v then known else known ++ v ∷ []

abbrev pub with_names : List ValueTree → List ValueTree → List ValueTree
with_names known [] = known
with_names known (v ∷ vs) = with_names (with_name known v) vs
