-- How what two sets say of an object is joined.
use Rattle.jh_form.specs.Tree.{FormulaTree}
use Rattle.jh_form.specs.Tree as t
use Rattle.jh_normal_forms.specs.declared.set_opening.joining.Join.{Join}
use Rattle.jh_normal_forms.specs.declared.set_opening.joining.Join.TheVariants as j

abbrev pub joined : Join → FormulaTree → FormulaTree → FormulaTree
joined j.Or p q = t.or p q
joined j.And p q = t.and p q
joined j.AndNot p q = t.and p (t.negation q)
joined j.Iff p q = t.iff p q
joined j.Implies p q = t.implies p q
