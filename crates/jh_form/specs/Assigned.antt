-- An interpretation in which one name has another value.
use Rattle.std.specs.Prelude.{if◌then◌else◌}
use Rattle.jh_name.specs.declared.naming.Name.{Name}
use Rattle.jh_form.specs.Meaning.{Interp, Datum, an_object, a_number, a_truth, a_set, a_field}
use Rattle.jh_form.specs.Passing.{name_equal}

-- The name has the value at the value's sort; all else is as before.
abbrev pub assigned : Interp → Name → Datum → Interp
assigned m x (an_object v) = record m { object = λ y. if name_equal y x then v else m.object y }
assigned m x (a_number v) = record m { number = λ y. if name_equal y x then v else m.number y }
assigned m x (a_truth v) = record m { truth = λ y. if name_equal y x then v else m.truth y }
assigned m x (a_set v) = record m { set = λ y. if name_equal y x then v else m.set y }
assigned m x (a_field v) = record m { field = λ y. if name_equal y x then v else m.field y }
