-- A formula without its labels means what it means.
use Rattle.std.proofs.Common.{◌≡◌, refl, ℕ, suc, ◌==◌, List, ◌∷◌}
use Rattle.std.specs.Prelude.{not, ◌&&◌, ◌||◌, pos, ◌+ℤ◌, ◌-ℤ◌, ◌*ℤ◌, neg_ℤ, int_lt, int_le}
use Rattle.std.specs.Ordering.{int_eq}
use Rattle.jh_form.specs.Tree.{TermTree, IntTree, SetTree, FieldTree, ValueTree, FormulaTree, FieldTrees}
use Rattle.jh_form.specs.Tree as t
use Rattle.jh_form.specs.Meaning.{Interp, an_object, a_number, a_truth, a_set, a_field, term_value, int_value, set_value, field_value, datum, truth, fields_value, every, some, agree, divides_number, updated, reaches, is_forest, count_below}
use Rattle.jh_seq.specs.jh_boxed_operations.comparison.Unmarked.{unmarked_term, unmarked_int, unmarked_set, unmarked_field, unmarked_value, unmarked_formula, unmarked_fields}

mutual
  unfolding unmarked_formula

  pub term_value-unmarked : (a : TermTree) (m : Interp) (env : List ℕ) → term_value (unmarked_term a) m env ≡ term_value a m env
  term_value-unmarked (t.bound k) m env = refl
  term_value-unmarked (t.free_object x) m env = refl
  term_value-unmarked t.null m env = refl
  term_value-unmarked (t.read_object f a) m env = λ i. (field_value-unmarked f m env i).objects (term_value-unmarked a m env i)

  pub int_value-unmarked : (a : IntTree) (m : Interp) (env : List ℕ) → int_value (unmarked_int a) m env ≡ int_value a m env
  int_value-unmarked (t.const z) m env = refl
  int_value-unmarked (t.free_number x) m env = refl
  int_value-unmarked (t.read_number f a) m env = λ i. (field_value-unmarked f m env i).numbers (term_value-unmarked a m env i)
  int_value-unmarked (t.add a b) m env = λ i. int_value-unmarked a m env i +ℤ int_value-unmarked b m env i
  int_value-unmarked (t.sub a b) m env = λ i. int_value-unmarked a m env i -ℤ int_value-unmarked b m env i
  int_value-unmarked (t.neg a) m env = λ i. neg_ℤ (int_value-unmarked a m env i)
  int_value-unmarked (t.scale z a) m env = λ i. z *ℤ int_value-unmarked a m env i
  int_value-unmarked (t.card a) m env = λ i. pos (count_below (suc m.last) (set_value-unmarked a m env i))

  pub set_value-unmarked : (a : SetTree) (m : Interp) (env : List ℕ) → set_value (unmarked_set a) m env ≡ set_value a m env
  set_value-unmarked (t.free_set x) m env = refl
  set_value-unmarked (t.read_set f a) m env = λ i. (field_value-unmarked f m env i).sets (term_value-unmarked a m env i)
  set_value-unmarked t.empty m env = refl
  set_value-unmarked t.univ m env = refl
  set_value-unmarked (t.single a) m env = λ i. λ x. x == term_value-unmarked a m env i
  set_value-unmarked (t.union a b) m env = λ i. λ x. set_value-unmarked a m env i x || set_value-unmarked b m env i x
  set_value-unmarked (t.inter a b) m env = λ i. λ x. set_value-unmarked a m env i x && set_value-unmarked b m env i x
  set_value-unmarked (t.diff a b) m env = λ i. λ x. set_value-unmarked a m env i x && not (set_value-unmarked b m env i x)
  set_value-unmarked (t.compl a) m env = λ i. λ x. not (set_value-unmarked a m env i x)
  set_value-unmarked (t.compr a) m env = λ i. λ x. truth-unmarked a m (x ∷ env) i

  pub field_value-unmarked : (a : FieldTree) (m : Interp) (env : List ℕ) → field_value (unmarked_field a) m env ≡ field_value a m env
  field_value-unmarked (t.free_field x) m env = refl
  field_value-unmarked (t.update f a v) m env = λ i. updated (field_value-unmarked f m env i) (term_value-unmarked a m env i) (datum-unmarked v m env i)

  pub datum-unmarked : (a : ValueTree) (m : Interp) (env : List ℕ) → datum (unmarked_value a) m env ≡ datum a m env
  datum-unmarked (t.of_object a) m env = λ i. an_object (term_value-unmarked a m env i)
  datum-unmarked (t.of_number a) m env = λ i. a_number (int_value-unmarked a m env i)
  datum-unmarked (t.of_truth a) m env = λ i. a_truth (truth-unmarked a m env i)
  datum-unmarked (t.of_set a) m env = λ i. a_set (set_value-unmarked a m env i)
  datum-unmarked (t.of_field a) m env = λ i. a_field (field_value-unmarked a m env i)

  pub truth-unmarked : (a : FormulaTree) (m : Interp) (env : List ℕ) → truth (unmarked_formula a) m env ≡ truth a m env
  truth-unmarked t.true_formula m env = refl
  truth-unmarked t.false_formula m env = refl
  truth-unmarked (t.free_truth x) m env = refl
  truth-unmarked (t.read_truth f a) m env = λ i. (field_value-unmarked f m env i).truths (term_value-unmarked a m env i)
  truth-unmarked (t.negation a) m env = λ i. not (truth-unmarked a m env i)
  truth-unmarked (t.and a b) m env = λ i. truth-unmarked a m env i && truth-unmarked b m env i
  truth-unmarked (t.or a b) m env = λ i. truth-unmarked a m env i || truth-unmarked b m env i
  truth-unmarked (t.implies a b) m env = λ i. not (truth-unmarked a m env i) || truth-unmarked b m env i
  truth-unmarked (t.iff a b) m env = λ i. agree (truth-unmarked a m env i) (truth-unmarked b m env i)
  truth-unmarked (t.all a) m env = λ i. every m.last (λ x. truth-unmarked a m (x ∷ env) i)
  truth-unmarked (t.ex a) m env = λ i. some m.last (λ x. truth-unmarked a m (x ∷ env) i)
  truth-unmarked (t.eq_object a b) m env = λ i. term_value-unmarked a m env i == term_value-unmarked b m env i
  truth-unmarked (t.eq_number a b) m env = λ i. int_eq (int_value-unmarked a m env i) (int_value-unmarked b m env i)
  truth-unmarked (t.eq_set a b) m env = λ i. every m.last (λ x. agree (set_value-unmarked a m env i x) (set_value-unmarked b m env i x))
  truth-unmarked (t.less a b) m env = λ i. int_lt (int_value-unmarked a m env i) (int_value-unmarked b m env i)
  truth-unmarked (t.less_equal a b) m env = λ i. int_le (int_value-unmarked a m env i) (int_value-unmarked b m env i)
  truth-unmarked (t.divides z a) m env = λ i. divides_number z (int_value-unmarked a m env i)
  truth-unmarked (t.member a b) m env = λ i. set_value-unmarked b m env i (term_value-unmarked a m env i)
  truth-unmarked (t.subset a b) m env = λ i. every m.last (λ x. not (set_value-unmarked a m env i x) || set_value-unmarked b m env i x)
  truth-unmarked (t.reach fs a b) m env = λ i. reaches m.last (fields_value-unmarked fs m env i) (term_value-unmarked a m env i) (term_value-unmarked b m env i)
  truth-unmarked (t.tree fs) m env = λ i. is_forest m.last (fields_value-unmarked fs m env i)
  truth-unmarked (t.mark k a) m env = truth-unmarked a m env

  pub fields_value-unmarked : (a : FieldTrees) (m : Interp) (env : List ℕ) → fields_value (unmarked_fields a) m env ≡ fields_value a m env
  fields_value-unmarked t.none m env = refl
  fields_value-unmarked (t.more f fs) m env = λ i. field_value-unmarked f m env i ∷ fields_value-unmarked fs m env i
