-- Which connective or atom a formula is. Each function that maps one of them, or a few, asks for it.
use Rattle.std.specs.Prelude.{Bool, true, false}
use Rattle.jh_form.specs.declared.form.Formula.{Formula}
use Rattle.jh_form.specs.declared.form.Formula.TheVariants as formula

abbrev pub is_read : Formula → Bool
is_read (formula.Read' _ _ _ _) = true
is_read _ = false

abbrev pub is_not : Formula → Bool
is_not (formula.Not' _ _) = true
is_not _ = false

abbrev pub is_connective : Formula → Bool
is_connective (formula.And' _ _ _ _) = true
is_connective (formula.Or' _ _ _ _) = true
is_connective (formula.Implies' _ _ _ _) = true
is_connective (formula.Iff' _ _ _ _) = true
is_connective _ = false

abbrev pub is_binder : Formula → Bool
is_binder (formula.All' _ _) = true
is_binder (formula.Ex' _ _) = true
is_binder _ = false

abbrev pub is_eq_obj : Formula → Bool
is_eq_obj (formula.EqObj _ _) = true
is_eq_obj _ = false

abbrev pub compares_numbers : Formula → Bool
compares_numbers (formula.EqInt _ _) = true
compares_numbers (formula.Less _ _) = true
compares_numbers (formula.LessEq _ _) = true
compares_numbers _ = false

abbrev pub compares_sets : Formula → Bool
compares_sets (formula.EqSet _ _) = true
compares_sets (formula.Subset _ _) = true
compares_sets _ = false

abbrev pub is_divides : Formula → Bool
is_divides (formula.Divides _ _) = true
is_divides _ = false

abbrev pub is_member : Formula → Bool
is_member (formula.Member _ _) = true
is_member _ = false

abbrev pub is_reach : Formula → Bool
is_reach (formula.Reach' _ _ _ _) = true
is_reach _ = false

abbrev pub is_tree : Formula → Bool
is_tree (formula.Tree' _ _) = true
is_tree _ = false

abbrev pub is_mark : Formula → Bool
is_mark (formula.Mark' _ _ _) = true
is_mark _ = false
