-- Written by tools/several.py: several values for several names, all at once.
use Rattle.std.specs.Prelude.{Bool, true, not, ◌&&◌, if◌then◌else◌, List, [], ◌∷◌}
use Rattle.jh_name.specs.declared.naming.Name.{Name}
use Rattle.jh_form.specs.Tree.{TermTree, IntTree, SetTree, FieldTree, FormulaTree, ValueTree}
use Rattle.jh_form.specs.Tree as t
use Rattle.jh_form.specs.Assigned.{assigned}
use Rattle.jh_form.specs.Closed.{is_closed_value}
use Rattle.jh_form.specs.Meaning.{Interp, datum}
use Rattle.jh_form.specs.Passing.{name_equal}
use Rattle.jh_boxed.specs.Mapped.{LeafMap, unchanged}

-- What a list of names, each with a value, puts for a name at each sort: the value of the first pair of that
-- name whose value is of the sort. A name without one stays.
abbrev pub object_in : List (Name × ValueTree) → Name → TermTree
object_in [] y = t.free_object y
object_in ((x, t.of_object a) ∷ ps) y = if name_equal y x then a else object_in ps y
object_in ((x, t.of_number a) ∷ ps) y = object_in ps y
object_in ((x, t.of_truth a) ∷ ps) y = object_in ps y
object_in ((x, t.of_set a) ∷ ps) y = object_in ps y
object_in ((x, t.of_field a) ∷ ps) y = object_in ps y

abbrev pub number_in : List (Name × ValueTree) → Name → IntTree
number_in [] y = t.free_number y
number_in ((x, t.of_object a) ∷ ps) y = number_in ps y
number_in ((x, t.of_number a) ∷ ps) y = if name_equal y x then a else number_in ps y
number_in ((x, t.of_truth a) ∷ ps) y = number_in ps y
number_in ((x, t.of_set a) ∷ ps) y = number_in ps y
number_in ((x, t.of_field a) ∷ ps) y = number_in ps y

abbrev pub truth_in : List (Name × ValueTree) → Name → FormulaTree
truth_in [] y = t.free_truth y
truth_in ((x, t.of_object a) ∷ ps) y = truth_in ps y
truth_in ((x, t.of_number a) ∷ ps) y = truth_in ps y
truth_in ((x, t.of_truth a) ∷ ps) y = if name_equal y x then a else truth_in ps y
truth_in ((x, t.of_set a) ∷ ps) y = truth_in ps y
truth_in ((x, t.of_field a) ∷ ps) y = truth_in ps y

abbrev pub set_in : List (Name × ValueTree) → Name → SetTree
set_in [] y = t.free_set y
set_in ((x, t.of_object a) ∷ ps) y = set_in ps y
set_in ((x, t.of_number a) ∷ ps) y = set_in ps y
set_in ((x, t.of_truth a) ∷ ps) y = set_in ps y
set_in ((x, t.of_set a) ∷ ps) y = if name_equal y x then a else set_in ps y
set_in ((x, t.of_field a) ∷ ps) y = set_in ps y

abbrev pub field_in : List (Name × ValueTree) → Name → FieldTree
field_in [] y = t.free_field y
field_in ((x, t.of_object a) ∷ ps) y = field_in ps y
field_in ((x, t.of_number a) ∷ ps) y = field_in ps y
field_in ((x, t.of_truth a) ∷ ps) y = field_in ps y
field_in ((x, t.of_set a) ∷ ps) y = field_in ps y
field_in ((x, t.of_field a) ∷ ps) y = if name_equal y x then a else field_in ps y

-- all at once: no value is looked at again
abbrev pub instead : List (Name × ValueTree) → LeafMap
instead ps = record unchanged { object_at = λ y d. object_in ps y; number_at = λ y d. number_in ps y; truth_at = λ y d. truth_in ps y; set_at = λ y d. set_in ps y; field_at = λ y d. field_in ps y }

-- the name is none of the list's
abbrev pub none_of : List (Name × ValueTree) → Name → Bool
none_of [] y = true
none_of (e ∷ ps) y = not (name_equal y e.0) && none_of ps y

-- no value has a loose bound variable
abbrev pub all_closed : List (Name × ValueTree) → Bool
all_closed [] = true
all_closed (e ∷ ps) = is_closed_value e.1 0 && all_closed ps

-- The interpretation in which each name has its value's meaning, at the sort of the value. All values mean what
-- they mean before.
abbrev pub all_assigned : Interp → List (Name × ValueTree) → Interp
all_assigned m [] = m
all_assigned m (e ∷ ps) = assigned (all_assigned m ps) e.0 (datum e.1 m [])
