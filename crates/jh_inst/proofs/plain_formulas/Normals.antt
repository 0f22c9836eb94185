-- The negation normal form of a formula without labels is plain.
use Rattle.std.proofs.Common.{◌≡◌, refl, Bool, true, false, not, ◌&&◌}
use Rattle.jh_form.specs.Tree.{FormulaTree}
use Rattle.jh_form.specs.Tree as t
use Rattle.jh_boxed_operations.specs.comparison.Unmarked.{unmarked_formula}
use Rattle.jh_normal_forms.specs.negation_normal_form.Normal.{normal, is_atom}
use Rattle.jh_inst.specs.plain_formulas.Plain.{is_plain}

pub normal-plain : (a : FormulaTree) (s : Bool) → is_plain (normal (unmarked_formula a) s) ≡ true
unfolding normal is_atom unmarked_formula
normal-plain (t.negation a) s = normal-plain a (not s)
normal-plain (t.and a b) true = λ i. normal-plain a true i && normal-plain b true i
normal-plain (t.and a b) false = λ i. normal-plain a false i && normal-plain b false i
normal-plain (t.or a b) true = λ i. normal-plain a true i && normal-plain b true i
normal-plain (t.or a b) false = λ i. normal-plain a false i && normal-plain b false i
normal-plain (t.implies a b) true = λ i. normal-plain a false i && normal-plain b true i
normal-plain (t.implies a b) false = λ i. normal-plain a true i && normal-plain b false i
normal-plain (t.iff a b) true = λ i. (normal-plain a false i && normal-plain b true i) && (normal-plain b false i && normal-plain a true i)
normal-plain (t.iff a b) false = λ i. (normal-plain a true i && normal-plain b true i) && (normal-plain a false i && normal-plain b false i)
normal-plain (t.all a) true = normal-plain a true
normal-plain (t.all a) false = normal-plain a false
normal-plain (t.ex a) true = normal-plain a true
normal-plain (t.ex a) false = normal-plain a false
normal-plain (t.mark k a) s = normal-plain a s
normal-plain _ true = refl
normal-plain _ false = refl
