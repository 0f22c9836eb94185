-- Comparing two lists of fields from a place on, and what an exchanged node passes.
use Rattle.std.proofs.Common.{◌≡◌, refl, ap, sym, ◌∙◌, ℕ, ℤ, suc, ◌+◌, ◌<◌, ◌≤◌, Bool, true, false, ◌&&◌, ◌||◌, List, [], ◌∷◌, length, drop, get_or}
use Rattle.jh_form.specs.declared.form.FieldTerm.{FieldTerm}
use Rattle.jh_form.specs.declared.form.Term.{Term}
use Rattle.jh_form.specs.declared.form.Formula.{Formula}
use Rattle.jh_form.specs.declared.form.Formula.TheVariants as formula
use Rattle.jh_form.specs.Bare.{term_tree, int_tree, field_tree, list_tree, formula_tree}
use Rattle.std.specs.Ordering.{int_eq}
use Rattle.jh_form.specs.declared.form.IntTerm.{IntTerm}
use Rattle.jh_form.proofs.Steps.{formula_tree-Reach, formula_tree-Divides}
use Rattle.jh_form.specs.Tree.{TermTree, IntTree, SetTree, FieldTree, ValueTree, FormulaTree}
use Rattle.jh_form.specs.Tree as t
use Rattle.jh_boxed.proofs.Rows.{rest_at, rest_end}
use Rattle.jh_boxed_operations.specs.comparison.Compared.{seen, related_term, related_int, related_set, related_field, related_formula, related_fields, more_with, none_with, reach_with, divides_with}
use Rattle.jh_boxed_operations.proofs.comparison.Decisions.{term_here-passes, int_here-passes, set_here-passes, field_here-passes, formula_here-passes}

module _ (w : Bool) (p : ValueTree → ValueTree → Bool) where
  pub here-term : (a s : TermTree) → p (t.of_object a) (t.of_object s) ≡ true → true ≡ related_term a w p s
  here-term a s h = sym (term_here-passes p (λ u v. p u v ≡ true) (λ u v e. e) w a s h)

  pub here-int : (a s : IntTree) → p (t.of_number a) (t.of_number s) ≡ true → true ≡ related_int a w p s
  here-int a s h = sym (int_here-passes p (λ u v. p u v ≡ true) (λ u v e. e) w a s h)

  pub here-set : (a s : SetTree) → p (t.of_set a) (t.of_set s) ≡ true → true ≡ related_set a w p s
  here-set a s h = sym (set_here-passes p (λ u v. p u v ≡ true) (λ u v e. e) w a s h)

  pub here-field : (a s : FieldTree) → p (t.of_field a) (t.of_field s) ≡ true → true ≡ related_field a w p s
  here-field a s h = sym (field_here-passes p (λ u v. p u v ≡ true) (λ u v e. e) w a s h)

  pub here-formula : (a s : FormulaTree) → p (t.of_truth a) (t.of_truth s) ≡ true → true ≡ related_formula a w p s
  here-formula a s h = sym (formula_here-passes p (λ u v. p u v ≡ true) (λ u v e. e) w a s h)

  pub related_lengths : (fs gs : List FieldTerm) → (length fs ≡ length gs → ⊥) → false ≡ related_fields (list_tree fs) w p (list_tree gs)
  unfolding related_fields more_with none_with
  related_lengths [] [] n = absurd (n refl)
  related_lengths [] (g ∷ gs) n = refl
  related_lengths (f ∷ fs) [] n = refl
  related_lengths (f ∷ fs) (g ∷ gs) n =
      last (related_field (field_tree f) w p (field_tree g)) (related_fields (list_tree fs) w p (list_tree gs)) (related_lengths fs gs (λ e. n (ap suc e)))
    where
      last : (a b : Bool) → false ≡ b → false ≡ (a && b)
      last true b h = h
      last false b h = refl

  pub related_step : (fs gs : List FieldTerm) (j : ℕ) (f g : FieldTerm) → j < length fs → j < length gs → f ≡ get_or fs j f → g ≡ get_or gs j g →
      related_fields (list_tree (drop j fs)) w p (list_tree (drop j gs)) ≡ (related_field (field_tree f) w p (field_tree g) && related_fields (list_tree (drop (j + 1) fs)) w p (list_tree (drop (j + 1) gs)))
  unfolding related_fields more_with
  related_step fs gs j f g h k e d = λ i. related_fields (rest_at fs j f h e i) w p (rest_at gs j g k d i)

  pub related_end : (fs gs : List FieldTerm) (j : ℕ) → length fs ≤ j → length gs ≤ j → related_fields (list_tree (drop j fs)) w p (list_tree (drop j gs)) ≡ true
  unfolding related_fields none_with
  related_end fs gs j h k = λ i. related_fields (rest_end fs j h i) w p (rest_end gs j k i)

  pub reach_test : (left right : Formula) (s : FormulaTree) (fs gs : List FieldTerm) (a b c d : Term) → left ≡ formula.Reach fs a b → right ≡ formula.Reach gs c d → formula_tree right ≡ seen w s →
      p (t.of_truth (formula_tree left)) (t.of_truth s) ≡ false →
      ((related_fields (list_tree fs) w p (list_tree gs) && related_term (term_tree a) w p (term_tree c)) && related_term (term_tree b) w p (term_tree d)) ≡ related_formula (formula_tree left) w p s
  unfolding related_formula reach_with
  reach_test left right s fs gs a b c d h k e n =
      let one : formula_tree left ≡ t.reach (list_tree fs) (term_tree a) (term_tree b) = ap formula_tree h ∙ formula_tree-Reach fs a b in
      let two : seen w s ≡ t.reach (list_tree gs) (term_tree c) (term_tree d) = sym e ∙ ap formula_tree k ∙ formula_tree-Reach gs c d in
      let not_here : p (t.of_truth (t.reach (list_tree fs) (term_tree a) (term_tree b))) (t.of_truth s) ≡ false = sym (λ i. p (t.of_truth (one i)) (t.of_truth s)) ∙ n in
      let test : FormulaTree → Bool = reach_with (λ fs' a' b'. related_fields (list_tree fs) w p fs' && related_term (term_tree a) w p a' && related_term (term_tree b) w p b') in
      sym ((λ i. related_formula (one i) w p s) ∙ ap (λ q. q || test (seen w s)) not_here ∙ ap test two)

-- a conjunction taken in two steps
pub in_two : (first second third both last : Bool) → both ≡ (first && second) → last ≡ third → both ≡ true → last ≡ ((first && second) && third)
in_two first second third both last e k h = k ∙ sym (ap (λ q. q && third) (sym e ∙ h))

pub in_one : (first second third both : Bool) → both ≡ (first && second) → both ≡ false → both ≡ ((first && second) && third)
in_one first second third both e h = h ∙ sym (ap (λ q. q && third) (sym e ∙ h))

pub and_true : (first second result : Bool) → first ≡ true → result ≡ second → result ≡ (first && second)
and_true first second result h e = e ∙ sym (ap (λ q. q && second) h)

pub and_false : (first second result : Bool) → first ≡ false → result ≡ first → result ≡ (first && second)
and_false first second result h e = e ∙ h ∙ sym (ap (λ q. q && second) h)

pub stop : (whole rest first tail r : Bool) → whole ≡ rest → rest ≡ (first && tail) → r ≡ first → r ≡ false → false ≡ whole
stop whole rest first tail r p q e f = sym (p ∙ q ∙ ap (λ b. b && tail) (sym e ∙ f))

pub go_on : (whole rest first tail r : Bool) → whole ≡ rest → rest ≡ (first && tail) → r ≡ first → r ≡ true → whole ≡ tail
go_on whole rest first tail r p q e f = p ∙ q ∙ ap (λ b. b && tail) (sym e ∙ f)

pub and_stops : (first second result : Bool) → first ≡ false → result ≡ false → result ≡ (first && second)
and_stops first second result h e = e ∙ sym (ap (λ q. q && second) h)

pub divides_test : (w : Bool) (p : ValueTree → ValueTree → Bool) (left right : Formula) (s : FormulaTree) (z y : ℤ) (a c : IntTerm) → left ≡ formula.Divides z a → right ≡ formula.Divides y c → formula_tree right ≡ seen w s →
    p (t.of_truth (formula_tree left)) (t.of_truth s) ≡ false →
    (int_eq z y && related_int (int_tree a) w p (int_tree c)) ≡ related_formula (formula_tree left) w p s
unfolding related_formula divides_with
divides_test w p left right s z y a c h k e n =
    let one : formula_tree left ≡ t.divides z (int_tree a) = ap formula_tree h ∙ formula_tree-Divides z a in
    let two : seen w s ≡ t.divides y (int_tree c) = sym e ∙ ap formula_tree k ∙ formula_tree-Divides y c in
    let not_here : p (t.of_truth (t.divides z (int_tree a))) (t.of_truth s) ≡ false = sym (λ i. p (t.of_truth (one i)) (t.of_truth s)) ∙ n in
    let test : FormulaTree → Bool = divides_with (λ z' a'. int_eq z z' && related_int (int_tree a) w p a') in
    sym ((λ i. related_formula (one i) w p s) ∙ ap (λ q. q || test (seen w s)) not_here ∙ ap test two)
