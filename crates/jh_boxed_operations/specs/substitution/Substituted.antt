-- A formula with a value for a free name.
use Rattle.std.specs.Prelude.{Bool, not, ◌||◌, if◌then◌else◌}
use Rattle.jh_boxed.specs.jh_name.declared.naming.Name.{Name}
use Rattle.jh_boxed.specs.jh_name.declared.place.Sort as place
use Rattle.jh_form.specs.Tree.{ValueTree, FormulaTree}
use Rattle.jh_form.specs.Tree as t
use Rattle.jh_form.specs.Passing.{name_equal}
use Rattle.jh_form.specs.Sorts.{same_sort}
use Rattle.jh_boxed.specs.Mapped.{LeafMap, unchanged, mapped_formula}

-- The value stands for the name at the value's sort.
abbrev pub substituting : Name → ValueTree → LeafMap
substituting x (t.of_object a) = record unchanged { object_at = λ y d. if name_equal y x then a else t.free_object y }
substituting x (t.of_number a) = record unchanged { number_at = λ y d. if name_equal y x then a else t.free_number y }
substituting x (t.of_truth a) = record unchanged { truth_at = λ y d. if name_equal y x then a else t.free_truth y }
substituting x (t.of_set a) = record unchanged { set_at = λ y d. if name_equal y x then a else t.free_set y }
substituting x (t.of_field a) = record unchanged { field_at = λ y d. if name_equal y x then a else t.free_field y }

abbrev pub substituted : FormulaTree → Name → ValueTree → FormulaTree
substituted a x v = mapped_formula a (substituting x v) 0

-- the test of a name y at the sort u that says: where y is x, the sort is s
abbrev pub stands_only_at : Name → place.Sort → Name → place.Sort → Bool
stands_only_at x s y u = not (name_equal y x) || same_sort u s
