use Rattle.std.proofs.Common.{sym, ◌∙◌}
use Rattle.jh_form.specs.Bare.{value_tree, formula_tree}
use Rattle.jh_boxed_operations.proofs.comparison.Equalities.{exchanged-true, exchanged-passes}
use Rattle.jh_boxed_operations.proofs.comparison.replacing.replaces.Goals as goal

pub returns : goal.returns
returns c = (
  λ h. exchanged-true (value_tree c.args.old.now) (value_tree c.args.new.now) (formula_tree c.args.from.now) (formula_tree c.args.to.now) (sym c.related_formula.ensures ∙ h),
  λ x. c.related_formula.ensures ∙ exchanged-passes (value_tree c.args.old.now) (value_tree c.args.new.now) (formula_tree c.args.from.now) (formula_tree c.args.to.now) x,
)
