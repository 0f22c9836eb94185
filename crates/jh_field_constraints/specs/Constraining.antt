-- The constraint that a formula is, part by part.
use Rattle.std.specs.Prelude.{◌&&◌, if◌then◌else◌, Option, None, Some}
use Rattle.jh_form.specs.Tree.{TermTree, FieldTree, FormulaTree}
use Rattle.jh_form.specs.Tree as t
use Rattle.jh_fca.specs.elimination.Constraints.{Constraint, is_variable, is_apart}

-- of this field, where it says this
unfoldable pub in_field : FieldTree → FormulaTree → Option Constraint
in_field (t.free_field f) p = if is_apart f p then Some (record { field = f; says = p }) else None
in_field (t.update f a v) p = None

-- of the field that is read at the outer variable
unfoldable pub in_read : TermTree → FormulaTree → Option Constraint
in_read (t.read_object f a) p = if is_variable 1 a then in_field f p else None
in_read a p = None

-- where this implies that under two binders
unfoldable pub in_implication : FormulaTree → FormulaTree → Option Constraint
in_implication (t.eq_object a b) p = if is_variable 0 b then in_read a p else None
in_implication q p = None

unfoldable pub in_inner : FormulaTree → Option Constraint
in_inner (t.implies q p) = in_implication q p
in_inner a = None

unfoldable pub in_body : FormulaTree → Option Constraint
in_body (t.all a) = in_inner a
in_body a = None
