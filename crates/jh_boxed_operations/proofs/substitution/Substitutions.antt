-- Putting a value for a name keeps the meaning.
use Rattle.std.proofs.Common.{◌≡◌, refl, ℕ, Bool, true, false, if◌then◌else◌, List, [], arith}
use Rattle.jh_boxed.specs.jh_name.declared.naming.Name.{Name}
use Rattle.jh_form.specs.Tree.{TermTree, IntTree, SetTree, FieldTree, FormulaTree, ValueTree}
use Rattle.jh_form.specs.Tree as t
use Rattle.jh_form.specs.Closed.{is_closed_term, is_closed_int, is_closed_set, is_closed_field, is_closed_formula, is_closed_value}
use Rattle.jh_form.specs.Passing.{name_equal}
use Rattle.jh_form.specs.Meaning.{Interp, truth, term_value, int_value, set_value, field_value, datum}
use Rattle.jh_form.specs.Assigned.{assigned}
use Rattle.jh_form.proofs.ClosedLemmas.{AgreeBelow, term_value-closed, int_value-closed, set_value-closed, field_value-closed, truth-closed}
use Rattle.jh_form.proofs.Names.{name_equal-same, name_equal-true}
use Rattle.jh_boxed.specs.Kept.{Keeps}
use Rattle.jh_boxed.proofs.Meanings.{truth-mapped}
use Rattle.jh_boxed_operations.specs.substitution.Substituted.{substituted, substituting}

-- no object stands below none
none_below : (e : List ℕ) → AgreeBelow 0 e []
none_below e k h = absurd (omega arith)

-- what a leaf means, where the value stands for the name and where it doesn't
chosen_object : (a : TermTree) (m : Interp) (y : Name) (e : List ℕ) (b : Bool) → is_closed_term a 0 ≡ true →
    term_value (if b then a else t.free_object y) m e ≡ (if b then term_value a m [] else m.object y)
chosen_object a m y e true closed = term_value-closed a m 0 e [] (none_below e) closed
chosen_object a m y e false closed = refl

chosen_number : (a : IntTree) (m : Interp) (y : Name) (e : List ℕ) (b : Bool) → is_closed_int a 0 ≡ true →
    int_value (if b then a else t.free_number y) m e ≡ (if b then int_value a m [] else m.number y)
chosen_number a m y e true closed = int_value-closed a m 0 e [] (none_below e) closed
chosen_number a m y e false closed = refl

chosen_truth : (a : FormulaTree) (m : Interp) (y : Name) (e : List ℕ) (b : Bool) → is_closed_formula a 0 ≡ true →
    truth (if b then a else t.free_truth y) m e ≡ (if b then truth a m [] else m.truth y)
chosen_truth a m y e true closed = truth-closed a m 0 e [] (none_below e) closed
chosen_truth a m y e false closed = refl

chosen_set : (a : SetTree) (m : Interp) (y : Name) (e : List ℕ) (b : Bool) → is_closed_set a 0 ≡ true →
    set_value (if b then a else t.free_set y) m e ≡ (if b then set_value a m [] else m.set y)
chosen_set a m y e true closed = set_value-closed a m 0 e [] (none_below e) closed
chosen_set a m y e false closed = refl

chosen_field : (a : FieldTree) (m : Interp) (y : Name) (e : List ℕ) (b : Bool) → is_closed_field a 0 ≡ true →
    field_value (if b then a else t.free_field y) m e ≡ (if b then field_value a m [] else m.field y)
chosen_field a m y e true closed = field_value-closed a m 0 e [] (none_below e) closed
chosen_field a m y e false closed = refl

pub substituting-keeps : (x : Name) (v : ValueTree) (m : Interp) → is_closed_value v 0 ≡ true →
    Keeps (substituting x v) m (assigned m x (datum v m [])) (λ d e. e)
unfolding is_closed_value
substituting-keeps x (t.of_object a) m closed = record {
  last = refl;
  under = λ d e y. refl;
  object = λ y d e f. chosen_object a m y e (name_equal y x) closed;
  number = λ y d e f. refl;
  truth = λ y d e f. refl;
  set = λ y d e f. refl;
  field = λ y d e f. refl;
  bound = λ k d e f. refl;
}
substituting-keeps x (t.of_number a) m closed = record {
  last = refl;
  under = λ d e y. refl;
  object = λ y d e f. refl;
  number = λ y d e f. chosen_number a m y e (name_equal y x) closed;
  truth = λ y d e f. refl;
  set = λ y d e f. refl;
  field = λ y d e f. refl;
  bound = λ k d e f. refl;
}
substituting-keeps x (t.of_truth a) m closed = record {
  last = refl;
  under = λ d e y. refl;
  object = λ y d e f. refl;
  number = λ y d e f. refl;
  truth = λ y d e f. chosen_truth a m y e (name_equal y x) closed;
  set = λ y d e f. refl;
  field = λ y d e f. refl;
  bound = λ k d e f. refl;
}
substituting-keeps x (t.of_set a) m closed = record {
  last = refl;
  under = λ d e y. refl;
  object = λ y d e f. refl;
  number = λ y d e f. refl;
  truth = λ y d e f. refl;
  set = λ y d e f. chosen_set a m y e (name_equal y x) closed;
  field = λ y d e f. refl;
  bound = λ k d e f. refl;
}
substituting-keeps x (t.of_field a) m closed = record {
  last = refl;
  under = λ d e y. refl;
  object = λ y d e f. refl;
  number = λ y d e f. refl;
  truth = λ y d e f. refl;
  set = λ y d e f. refl;
  field = λ y d e f. chosen_field a m y e (name_equal y x) closed;
  bound = λ k d e f. refl;
}

pub truth-substituted : (a : FormulaTree) (x : Name) (v : ValueTree) → is_closed_value v 0 ≡ true → (m : Interp) (env : List ℕ) →
    truth (substituted a x v) m env ≡ truth a (assigned m x (datum v m [])) env
truth-substituted a x v closed m env =
    truth-mapped (substituting x v) m (assigned m x (datum v m [])) (λ d e. e) (substituting-keeps x v m closed) a 0 env (omega arith)

pub ruleset name_steps = (name_equal-same, name_equal-true)

pub ruleset subst_steps = (truth-substituted)
