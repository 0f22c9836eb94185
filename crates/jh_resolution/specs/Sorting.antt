-- A value of a sort where it has that sort, and else a default.
use Rattle.jh_name.specs.declared.place.Sort as place
use Rattle.jh_name.specs.declared.place.Sort.TheVariants as Sort
use Rattle.std.specs.Prelude.{pos}
use Rattle.jh_form.specs.Tree.{ValueTree, of_object, of_number, of_truth, of_set}
use Rattle.jh_form.specs.Tree as t
use Rattle.jh_vars.specs.Resolved.{as_object, as_number, as_truth, as_set}

abbrev pub default_of : place.Sort → ValueTree
default_of Sort.Obj = of_object t.null
default_of Sort.Int = of_number (t.const (pos 0))
default_of Sort.Bool = of_truth t.true_formula
default_of Sort.Set = of_set t.empty
default_of Sort.Field = of_object t.null

abbrev pub of_sort : place.Sort → ValueTree → ValueTree
of_sort Sort.Obj v = of_object (as_object v)
of_sort Sort.Int v = of_number (as_number v)
of_sort Sort.Bool v = of_truth (as_truth v)
of_sort Sort.Set v = of_set (as_set v)
of_sort Sort.Field (t.of_field a) = t.of_field a
of_sort Sort.Field v = of_object t.null
