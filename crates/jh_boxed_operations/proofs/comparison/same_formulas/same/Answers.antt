use Rattle.std.proofs.Common.{sym, ◌∙◌}
use Rattle.jh_form.specs.Bare.{formula_tree}
use Rattle.jh_boxed_operations.proofs.comparison.Equalities.{same-true, same-passes}
use Rattle.jh_boxed_operations.proofs.comparison.same_formulas.same.Goals as goal

pub returns : goal.returns
returns c = (
  λ h. same-true (formula_tree c.args.left.now) (formula_tree c.args.right.now) (sym c.related_formula.ensures ∙ h),
  λ e. c.related_formula.ensures ∙ same-passes (formula_tree c.args.left.now) (formula_tree c.args.right.now) e,
)
