-- What stands at a node that was entered.
use Rattle.std.proofs.Common.{◌≡◌, ap, subst, ℕ, ℤ, Bool, List, true, Some}
use Rattle.std.specs.Prelude.{Option, Result, IfOk, IfErr}
use Rattle.jh_form.specs.Meaning.{Interp, term_value, int_value, set_value, truth}
use Rattle.jh_sem.specs.declared.answer.SemError.{SemError}
use Rattle.jh_sem.specs.declared.answer.SemError.TheVariants.{Wide}
use Rattle.jh_sem.specs.Wide.{IsWide}
use Rattle.jh_form.specs.Tree.{TermTree, IntTree, SetTree, FormulaTree, ValueTree, of_object, of_number, of_truth, of_set}
use Rattle.jh_arena.specs.table.Entries.{is_object, is_number, is_set, is_truth, the_object, the_number, the_set, the_truth}

pub object-entered : (o : Option ValueTree) (a : TermTree) → o ≡ Some (of_object a) → is_object o ≡ true
unfolding is_object
object-entered o a e = ap is_object e

pub object-is : (o : Option ValueTree) (a : TermTree) → o ≡ Some (of_object a) → the_object o ≡ a
unfolding the_object
object-is o a e = ap the_object e

pub number-entered : (o : Option ValueTree) (a : IntTree) → o ≡ Some (of_number a) → is_number o ≡ true
unfolding is_number
number-entered o a e = ap is_number e

pub number-is : (o : Option ValueTree) (a : IntTree) → o ≡ Some (of_number a) → the_number o ≡ a
unfolding the_number
number-is o a e = ap the_number e

pub set-entered : (o : Option ValueTree) (a : SetTree) → o ≡ Some (of_set a) → is_set o ≡ true
unfolding is_set
set-entered o a e = ap is_set e

pub set-is : (o : Option ValueTree) (a : SetTree) → o ≡ Some (of_set a) → the_set o ≡ a
unfolding the_set
set-is o a e = ap the_set e

pub truth-entered : (o : Option ValueTree) (a : FormulaTree) → o ≡ Some (of_truth a) → is_truth o ≡ true
unfolding is_truth
truth-entered o a e = ap is_truth e

pub truth-is : (o : Option ValueTree) (a : FormulaTree) → o ≡ Some (of_truth a) → the_truth o ≡ a
unfolding the_truth
truth-is o a e = ap the_truth e

-- what is answered at the node is the answer
pub object-answer : (o : Option ValueTree) (a : TermTree) (m : Interp) (env : List ℕ) (r : Result ℕ SemError) → o ≡ Some (of_object a) → IfOk r (λ v. v ≡ term_value (the_object o) m env) → IfOk r (λ v. v ≡ term_value a m env)
object-answer o a m env r e h = subst (λ (b : TermTree). IfOk r (λ v. v ≡ term_value b m env)) (object-is o a e) h

pub object-wide : (o : Option ValueTree) (a : TermTree) (m : Interp) (r : Result ℕ SemError) → o ≡ Some (of_object a) → IfErr r (λ f. f ≡ Wide → IsWide m (of_object (the_object o))) → IfErr r (λ f. f ≡ Wide → IsWide m (of_object a))
object-wide o a m r e h = subst (λ (b : TermTree). IfErr r (λ f. f ≡ Wide → IsWide m (of_object b))) (object-is o a e) h

pub number-answer : (o : Option ValueTree) (a : IntTree) (m : Interp) (env : List ℕ) (r : Result ℤ SemError) → o ≡ Some (of_number a) → IfOk r (λ v. v ≡ int_value (the_number o) m env) → IfOk r (λ v. v ≡ int_value a m env)
number-answer o a m env r e h = subst (λ (b : IntTree). IfOk r (λ v. v ≡ int_value b m env)) (number-is o a e) h

pub number-wide : (o : Option ValueTree) (a : IntTree) (m : Interp) (r : Result ℤ SemError) → o ≡ Some (of_number a) → IfErr r (λ f. f ≡ Wide → IsWide m (of_number (the_number o))) → IfErr r (λ f. f ≡ Wide → IsWide m (of_number a))
number-wide o a m r e h = subst (λ (b : IntTree). IfErr r (λ f. f ≡ Wide → IsWide m (of_number b))) (number-is o a e) h

pub truth-answer : (o : Option ValueTree) (a : FormulaTree) (m : Interp) (env : List ℕ) (r : Result Bool SemError) → o ≡ Some (of_truth a) → IfOk r (λ v. v ≡ truth (the_truth o) m env) → IfOk r (λ v. v ≡ truth a m env)
truth-answer o a m env r e h = subst (λ (b : FormulaTree). IfOk r (λ v. v ≡ truth b m env)) (truth-is o a e) h

pub truth-wide : (o : Option ValueTree) (a : FormulaTree) (m : Interp) (r : Result Bool SemError) → o ≡ Some (of_truth a) → IfErr r (λ f. f ≡ Wide → IsWide m (of_truth (the_truth o))) → IfErr r (λ f. f ≡ Wide → IsWide m (of_truth a))
truth-wide o a m r e h = subst (λ (b : FormulaTree). IfErr r (λ f. f ≡ Wide → IsWide m (of_truth b))) (truth-is o a e) h

pub member-answer : (o : Option ValueTree) (a : SetTree) (m : Interp) (env : List ℕ) (x : ℕ) (r : Result Bool SemError) → o ≡ Some (of_set a) → IfOk r (λ v. v ≡ set_value (the_set o) m env x) → IfOk r (λ v. v ≡ set_value a m env x)
member-answer o a m env x r e h = subst (λ (b : SetTree). IfOk r (λ v. v ≡ set_value b m env x)) (set-is o a e) h

pub member-wide : (o : Option ValueTree) (a : SetTree) (m : Interp) (r : Result Bool SemError) → o ≡ Some (of_set a) → IfErr r (λ f. f ≡ Wide → IsWide m (of_set (the_set o))) → IfErr r (λ f. f ≡ Wide → IsWide m (of_set a))
member-wide o a m r e h = subst (λ (b : SetTree). IfErr r (λ f. f ≡ Wide → IsWide m (of_set b))) (set-is o a e) h

pub ruleset entered_steps = (object-entered, number-entered, set-entered, truth-entered)
