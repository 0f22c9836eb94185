-- Values as tests.
use Rattle.std.specs.Prelude.{ℤ, pos, ◌==◌, Bool, true, false}
use Rattle.jh_ast.specs.Exprs.{ExprTree}
use Rattle.jh_ast.specs.Exprs as e
use Rattle.jh_ast.specs.Forms.{FormTree, FormTrees}
use Rattle.jh_ast.specs.Forms as f

abbrev pub is_zero : ℤ → Bool
is_zero (pos n) = n == 0
is_zero _ = false

abbrev pub has_none : FormTrees → Bool
has_none f.none = true
has_none (f.more a fs) = false

abbrev pub is_zero_expr : ExprTree → Bool
is_zero_expr (e.number q z) = is_zero z
is_zero_expr _ = false

abbrev pub is_false_expr : ExprTree → Bool
is_false_expr (e.no q) = true
is_false_expr _ = false

abbrev pub is_null_expr : ExprTree → Bool
is_null_expr (e.null q) = true
is_null_expr _ = false

abbrev pub is_null_form : FormTree → Bool
is_null_form (f.null q) = true
is_null_form _ = false

abbrev pub is_zero_form : FormTree → Bool
is_zero_form (f.number q z) = is_zero z
is_zero_form _ = false

abbrev pub is_false_form : FormTree → Bool
is_false_form (f.no q) = true
is_false_form _ = false

abbrev pub is_empty_form : FormTree → Bool
is_empty_form (f.braces q fs) = has_none fs
is_empty_form _ = false
