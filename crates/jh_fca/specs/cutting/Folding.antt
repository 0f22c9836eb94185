-- Formulas that are True or False at sight.
use Rattle.std.specs.Prelude.{Bool, true, false, Option, None, Some}
use Rattle.jh_form.specs.Tree.{FormulaTree}
use Rattle.jh_form.specs.Tree as t

unfoldable pub constant : FormulaTree → Option Bool
constant t.true_formula = Some true
constant t.false_formula = Some false
constant a = None
