-- Field constraints. A hypothesis `ALL x y. x..f = y --> FC` constrains the field f: what f gives at x is a y of which FC is true.
use Rattle.std.specs.Prelude.{ℕ, Bool, true, false, not, ◌&&◌, if◌then◌else◌, nat_eq, Option, None, Some}
use Rattle.jh_name.specs.declared.naming.Name.{Name}
use Rattle.jh_name.specs.declared.place.Sort as place
use Rattle.jh_name.specs.declared.place.Sort.TheVariants as sort
use Rattle.jh_form.specs.Tree.{TermTree, FieldTree, FormulaTree}
use Rattle.jh_form.specs.Tree as t
use Rattle.jh_form.specs.Closed.{is_closed_formula}
use Rattle.jh_form.specs.Passing.{formula_passes, name_equal}

-- A field and what is said of it: FC, a formula of the bound variables 1, which is x, and 0, which is y.
pub record Constraint : Type 0 where
  pub field : Name
  pub says : FormulaTree

-- the hypothesis `ALL x y. x..f = y --> FC`
abbrev pub constraint_tree : Constraint → FormulaTree
constraint_tree c = t.all (t.all (t.implies (t.eq_object (t.read_object (t.free_field c.field) (t.bound 1)) (t.bound 0)) c.says))

-- any free name but the field of this name
unfoldable pub other_than : Name → Name → place.Sort → Bool
other_than f x sort.Field = not (name_equal x f)
other_than f x s = true

-- whether a field is this name
unfoldable pub is_name : Name → FieldTree → Bool
is_name f (t.free_field x) = name_equal x f
is_name f (t.update g a v) = false

unfoldable pub is_variable : ℕ → TermTree → Bool
is_variable k (t.bound j) = nat_eq j k
is_variable k a = false

-- FC may speak of anything but f itself, and of no variables but x and y.
unfoldable pub is_apart : Name → FormulaTree → Bool
is_apart f a = formula_passes a (other_than f) && is_closed_formula a 2

-- the constraint that a formula is, where it is one
unfoldable pub constraint_in : FormulaTree → Option Constraint
constraint_in (t.all (t.all (t.implies (t.eq_object (t.read_object (t.free_field f) a) b) c))) = if is_variable 1 a && is_variable 0 b && is_apart f c then Some (record { field = f; says = c }) else None
constraint_in a = None
