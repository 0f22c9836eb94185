-- Written by tools/enter.py.
-- Which formulas are atoms: no constants, connectives, quantifiers or labels.
use Rattle.std.specs.Prelude.{Bool, true, false}
use Rattle.jh_form.specs.declared.form.Formula.{Formula}
use Rattle.jh_form.specs.declared.form.Formula.TheVariants as formula

abbrev pub is_atom : Formula → Bool
is_atom formula.True = false
is_atom formula.False = false
is_atom (formula.Not' _ _) = false
is_atom (formula.And' _ _ _ _) = false
is_atom (formula.Or' _ _ _ _) = false
is_atom (formula.Implies' _ _ _ _) = false
is_atom (formula.Iff' _ _ _ _) = false
is_atom (formula.All' _ _) = false
is_atom (formula.Ex' _ _) = false
is_atom (formula.Mark' _ _ _) = false
is_atom _ = true
