-- Written by tools/several.py: values for several names keep the meaning, where each name has its value's.
use Rattle.std.proofs.Common.{◌≡◌, refl, ℕ, Bool, true, false, if◌then◌else◌, List, [], ◌∷◌, ℤ, arith}
use Rattle.jh_name.specs.declared.naming.Name.{Name}
use Rattle.jh_form.specs.Tree.{TermTree, IntTree, SetTree, FieldTree, FormulaTree, ValueTree, of_object, of_number, of_truth, of_set, of_field}
use Rattle.jh_form.specs.Closed.{is_closed_value, is_closed_term, is_closed_int, is_closed_formula, is_closed_set, is_closed_field}
use Rattle.jh_form.specs.Meaning.{Interp, Fields, term_value, int_value, truth, set_value, field_value}
use Rattle.jh_form.specs.Passing.{name_equal}
use Rattle.jh_form.proofs.ClosedLemmas.{both-left, both-right, AgreeBelow, term_value-closed, int_value-closed, truth-closed, set_value-closed, field_value-closed}
use Rattle.jh_boxed.specs.Kept.{Keeps}
use Rattle.jh_boxed.specs.Mapped.{mapped_formula}
use Rattle.jh_boxed.proofs.Meanings.{truth-mapped}
use Rattle.jh_substitution.specs.simultaneous.Several.{object_in, number_in, truth_in, set_in, field_in, instead, all_closed, all_assigned}

none-below : (e : List ℕ) → AgreeBelow 0 e []
none-below e k h = absurd (omega arith)

last-same : (m : Interp) (ps : List (Name × ValueTree)) → m.last ≡ (all_assigned m ps).last
last-same m [] = refl
last-same m ((x, of_object a) ∷ ps) = last-same m ps
last-same m ((x, of_number a) ∷ ps) = last-same m ps
last-same m ((x, of_truth a) ∷ ps) = last-same m ps
last-same m ((x, of_set a) ∷ ps) = last-same m ps
last-same m ((x, of_field a) ∷ ps) = last-same m ps

object-choice : (m : Interp) (e : List ℕ) (b : Bool) (a c : TermTree) (u w : ℕ) → term_value a m e ≡ u → term_value c m e ≡ w → term_value (if b then a else c) m e ≡ (if b then u else w)
object-choice m e true a c u w h k = h
object-choice m e false a c u w h k = k

object-means : (m : Interp) (ps : List (Name × ValueTree)) → all_closed ps ≡ true → (y : Name) (e : List ℕ) → term_value (object_in ps y) m e ≡ (all_assigned m ps).object y
unfolding is_closed_value
object-means m [] h y e = refl
object-means m ((x, of_object a) ∷ ps) h y e = object-choice m e (name_equal y x) a (object_in ps y) (term_value a m []) ((all_assigned m ps).object y) (term_value-closed a m 0 e [] (none-below e) (both-left (is_closed_term a 0) (all_closed ps) h)) (object-means m ps (both-right (is_closed_term a 0) (all_closed ps) h) y e)
object-means m ((x, of_number a) ∷ ps) h y e = object-means m ps (both-right (is_closed_int a 0) (all_closed ps) h) y e
object-means m ((x, of_truth a) ∷ ps) h y e = object-means m ps (both-right (is_closed_formula a 0) (all_closed ps) h) y e
object-means m ((x, of_set a) ∷ ps) h y e = object-means m ps (both-right (is_closed_set a 0) (all_closed ps) h) y e
object-means m ((x, of_field a) ∷ ps) h y e = object-means m ps (both-right (is_closed_field a 0) (all_closed ps) h) y e

number-choice : (m : Interp) (e : List ℕ) (b : Bool) (a c : IntTree) (u w : ℤ) → int_value a m e ≡ u → int_value c m e ≡ w → int_value (if b then a else c) m e ≡ (if b then u else w)
number-choice m e true a c u w h k = h
number-choice m e false a c u w h k = k

number-means : (m : Interp) (ps : List (Name × ValueTree)) → all_closed ps ≡ true → (y : Name) (e : List ℕ) → int_value (number_in ps y) m e ≡ (all_assigned m ps).number y
unfolding is_closed_value
number-means m [] h y e = refl
number-means m ((x, of_object a) ∷ ps) h y e = number-means m ps (both-right (is_closed_term a 0) (all_closed ps) h) y e
number-means m ((x, of_number a) ∷ ps) h y e = number-choice m e (name_equal y x) a (number_in ps y) (int_value a m []) ((all_assigned m ps).number y) (int_value-closed a m 0 e [] (none-below e) (both-left (is_closed_int a 0) (all_closed ps) h)) (number-means m ps (both-right (is_closed_int a 0) (all_closed ps) h) y e)
number-means m ((x, of_truth a) ∷ ps) h y e = number-means m ps (both-right (is_closed_formula a 0) (all_closed ps) h) y e
number-means m ((x, of_set a) ∷ ps) h y e = number-means m ps (both-right (is_closed_set a 0) (all_closed ps) h) y e
number-means m ((x, of_field a) ∷ ps) h y e = number-means m ps (both-right (is_closed_field a 0) (all_closed ps) h) y e

truth-choice : (m : Interp) (e : List ℕ) (b : Bool) (a c : FormulaTree) (u w : Bool) → truth a m e ≡ u → truth c m e ≡ w → truth (if b then a else c) m e ≡ (if b then u else w)
truth-choice m e true a c u w h k = h
truth-choice m e false a c u w h k = k

truth-means : (m : Interp) (ps : List (Name × ValueTree)) → all_closed ps ≡ true → (y : Name) (e : List ℕ) → truth (truth_in ps y) m e ≡ (all_assigned m ps).truth y
unfolding is_closed_value
truth-means m [] h y e = refl
truth-means m ((x, of_object a) ∷ ps) h y e = truth-means m ps (both-right (is_closed_term a 0) (all_closed ps) h) y e
truth-means m ((x, of_number a) ∷ ps) h y e = truth-means m ps (both-right (is_closed_int a 0) (all_closed ps) h) y e
truth-means m ((x, of_truth a) ∷ ps) h y e = truth-choice m e (name_equal y x) a (truth_in ps y) (truth a m []) ((all_assigned m ps).truth y) (truth-closed a m 0 e [] (none-below e) (both-left (is_closed_formula a 0) (all_closed ps) h)) (truth-means m ps (both-right (is_closed_formula a 0) (all_closed ps) h) y e)
truth-means m ((x, of_set a) ∷ ps) h y e = truth-means m ps (both-right (is_closed_set a 0) (all_closed ps) h) y e
truth-means m ((x, of_field a) ∷ ps) h y e = truth-means m ps (both-right (is_closed_field a 0) (all_closed ps) h) y e

set-choice : (m : Interp) (e : List ℕ) (b : Bool) (a c : SetTree) (u w : ℕ → Bool) → set_value a m e ≡ u → set_value c m e ≡ w → set_value (if b then a else c) m e ≡ (if b then u else w)
set-choice m e true a c u w h k = h
set-choice m e false a c u w h k = k

set-means : (m : Interp) (ps : List (Name × ValueTree)) → all_closed ps ≡ true → (y : Name) (e : List ℕ) → set_value (set_in ps y) m e ≡ (all_assigned m ps).set y
unfolding is_closed_value
set-means m [] h y e = refl
set-means m ((x, of_object a) ∷ ps) h y e = set-means m ps (both-right (is_closed_term a 0) (all_closed ps) h) y e
set-means m ((x, of_number a) ∷ ps) h y e = set-means m ps (both-right (is_closed_int a 0) (all_closed ps) h) y e
set-means m ((x, of_truth a) ∷ ps) h y e = set-means m ps (both-right (is_closed_formula a 0) (all_closed ps) h) y e
set-means m ((x, of_set a) ∷ ps) h y e = set-choice m e (name_equal y x) a (set_in ps y) (set_value a m []) ((all_assigned m ps).set y) (set_value-closed a m 0 e [] (none-below e) (both-left (is_closed_set a 0) (all_closed ps) h)) (set-means m ps (both-right (is_closed_set a 0) (all_closed ps) h) y e)
set-means m ((x, of_field a) ∷ ps) h y e = set-means m ps (both-right (is_closed_field a 0) (all_closed ps) h) y e

field-choice : (m : Interp) (e : List ℕ) (b : Bool) (a c : FieldTree) (u w : Fields) → field_value a m e ≡ u → field_value c m e ≡ w → field_value (if b then a else c) m e ≡ (if b then u else w)
field-choice m e true a c u w h k = h
field-choice m e false a c u w h k = k

field-means : (m : Interp) (ps : List (Name × ValueTree)) → all_closed ps ≡ true → (y : Name) (e : List ℕ) → field_value (field_in ps y) m e ≡ (all_assigned m ps).field y
unfolding is_closed_value
field-means m [] h y e = refl
field-means m ((x, of_object a) ∷ ps) h y e = field-means m ps (both-right (is_closed_term a 0) (all_closed ps) h) y e
field-means m ((x, of_number a) ∷ ps) h y e = field-means m ps (both-right (is_closed_int a 0) (all_closed ps) h) y e
field-means m ((x, of_truth a) ∷ ps) h y e = field-means m ps (both-right (is_closed_formula a 0) (all_closed ps) h) y e
field-means m ((x, of_set a) ∷ ps) h y e = field-means m ps (both-right (is_closed_set a 0) (all_closed ps) h) y e
field-means m ((x, of_field a) ∷ ps) h y e = field-choice m e (name_equal y x) a (field_in ps y) (field_value a m []) ((all_assigned m ps).field y) (field_value-closed a m 0 e [] (none-below e) (both-left (is_closed_field a 0) (all_closed ps) h)) (field-means m ps (both-right (is_closed_field a 0) (all_closed ps) h) y e)

instead-keeps : (m : Interp) (ps : List (Name × ValueTree)) → all_closed ps ≡ true → Keeps (instead ps) m (all_assigned m ps) (λ d e. e)
instead-keeps m ps h = record {
  last = last-same m ps;
  under = λ d e x. refl;
  object = λ y d e f. object-means m ps h y e;
  number = λ y d e f. number-means m ps h y e;
  truth = λ y d e f. truth-means m ps h y e;
  set = λ y d e f. set-means m ps h y e;
  field = λ y d e f. field-means m ps h y e;
  bound = λ k d e f. refl;
}

pub truth-instead : (a : FormulaTree) (ps : List (Name × ValueTree)) → all_closed ps ≡ true → (m : Interp) (e : List ℕ) → truth (mapped_formula a (instead ps) 0) m e ≡ truth a (all_assigned m ps) e
truth-instead a ps h m e = truth-mapped (instead ps) m (all_assigned m ps) (λ d g. g) (instead-keeps m ps h) a 0 e (omega arith)
