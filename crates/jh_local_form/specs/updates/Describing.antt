-- What an update gives at each object, for values of all sorts at once.
use Rattle.std.specs.Prelude.{◌≡◌, List, Option, Some, None}
use Rattle.jh_name.specs.declared.place.Sort as place
use Rattle.jh_name.specs.declared.place.Sort.TheVariants as Sort
use Rattle.jh_form.specs.Tree.{TermTree, FieldTree, ValueTree, FormulaTree}
use Rattle.jh_form.specs.Tree as t
use Rattle.jh_approx.specs.jh_derivation_rules.Rules.{at_each}

-- what a field gives at an object, as a value of this sort; no field gives a field
unfoldable pub read_as : place.Sort → FieldTree → TermTree → ValueTree
read_as Sort.Obj f a = t.of_object (t.read_object f a)
read_as Sort.Int f a = t.of_number (t.read_number f a)
read_as Sort.Bool f a = t.of_truth (t.read_truth f a)
read_as Sort.Set f a = t.of_set (t.read_set f a)
read_as Sort.Field f a = t.of_field f

-- that two values of one sort are the same; nothing is said of fields
unfoldable pub same_as : ValueTree → ValueTree → FormulaTree
same_as (t.of_object a) (t.of_object b) = t.eq_object a b
same_as (t.of_number a) (t.of_number b) = t.eq_number a b
same_as (t.of_truth a) (t.of_truth b) = t.iff a b
same_as (t.of_set a) (t.of_set b) = t.eq_set a b
same_as _ _ = t.true_formula

-- `(x = a --> g x = v) & (x ~= a --> g x = f x)` of each object x, where g gives values of this sort
abbrev pub told_as : place.Sort → FieldTree → FieldTree → TermTree → ValueTree → FormulaTree
told_as s g f a v = at_each a (same_as (read_as s g (t.bound 0)) v) (same_as (read_as s g (t.bound 0)) (read_as s f (t.bound 0)))
