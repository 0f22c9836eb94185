-- What the parts of a formula are.
use Rattle.jh_form.specs.declared.form.Formula.{Formula}
use Rattle.jh_form.specs.declared.form.Formula.TheVariants as formula
use Rattle.jh_form.specs.declared.form.Kind.{Kind}
use Rattle.jh_form.specs.declared.form.Kind.TheVariants as kind

abbrev pub kind_of : Formula → Kind
kind_of formula.True = kind.Connective
kind_of formula.False = kind.Connective
kind_of (formula.Free _) = kind.Connective
kind_of (formula.Read' _ _ _ _) = kind.Connective
kind_of (formula.Not' _ _) = kind.Connective
kind_of (formula.And' _ _ _ _) = kind.Connective
kind_of (formula.Or' _ _ _ _) = kind.Connective
kind_of (formula.Implies' _ _ _ _) = kind.Connective
kind_of (formula.Iff' _ _ _ _) = kind.Connective
kind_of (formula.All' _ _) = kind.Connective
kind_of (formula.Ex' _ _) = kind.Connective
kind_of (formula.Mark' _ _ _) = kind.Other
kind_of (formula.EqObj _ _) = kind.Other
kind_of (formula.Member _ _) = kind.Other
kind_of (formula.Reach' _ _ _ _) = kind.Other
kind_of (formula.Tree' _ _) = kind.Other
kind_of (formula.EqInt _ _) = kind.Pair
kind_of (formula.Less _ _) = kind.Pair
kind_of (formula.LessEq _ _) = kind.Pair
kind_of (formula.Divides _ _) = kind.Pair
kind_of (formula.EqSet _ _) = kind.Pair
kind_of (formula.Subset _ _) = kind.Pair
