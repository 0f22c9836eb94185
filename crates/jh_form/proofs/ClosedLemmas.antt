-- The meaning of a tree without loose bound variables hangs on no objects for them.
use Rattle.std.proofs.Common.{◌≡◌, refl, sym, ℕ, zero, suc, ◌+◌, ◌<◌, ◌==◌, Bool, true, false, not, ◌&&◌, ◌||◌, List, ◌∷◌, slice_index, pos, ◌+ℤ◌, ◌-ℤ◌, ◌*ℤ◌, neg_ℤ, int_lt, int_le, arith}
use Rattle.std.proofs.lemmas.Bool.{true≢false, ltb-true}
use Rattle.std.specs.Ordering.{int_eq}
use Rattle.jh_form.specs.Tree.{TermTree, IntTree, SetTree, FieldTree, ValueTree, FormulaTree, FieldTrees}
use Rattle.jh_form.specs.Tree as t
use Rattle.jh_form.specs.Meaning.{an_object, a_number, a_truth, a_set, a_field, Interp, count_below, every, some, agree, divides_number, updated, reaches, is_forest, term_value, int_value, set_value, field_value, datum, truth, fields_value}
use Rattle.jh_form.specs.Closed.{is_closed_term, is_closed_int, is_closed_set, is_closed_field, is_closed_value, is_closed_formula, is_closed_fields}

pub both-left : (p q : Bool) → (p && q) ≡ true → p ≡ true
both-left true q h = refl
both-left false q h = h

pub both-right : (p q : Bool) → (p && q) ≡ true → q ≡ true
both-right true q h = h
both-right false q h = absurd (true≢false (sym h))

-- the first d objects are the same
abbrev pub AgreeBelow : ℕ → List ℕ → List ℕ → Type 0
AgreeBelow d e g = (k : ℕ) → k < d → slice_index e k ≡ slice_index g k

pub agree_under : (d : ℕ) (e g : List ℕ) (x : ℕ) → AgreeBelow d e g → AgreeBelow (d + 1) (x ∷ e) (x ∷ g)
agree_under d e g x same zero h = refl
agree_under d e g x same (suc k) h = same k (omega arith)

mutual
  unfolding is_closed_term is_closed_int is_closed_set is_closed_field is_closed_value is_closed_formula is_closed_fields

  pub term_value-closed : (a : TermTree) (m : Interp) (d : ℕ) (e g : List ℕ) → AgreeBelow d e g → is_closed_term a d ≡ true → term_value a m e ≡ term_value a m g
  term_value-closed (t.bound k) m d e g same h = same k (ltb-true k d h)
  term_value-closed (t.free_object x) m d e g same h = refl
  term_value-closed t.null m d e g same h = refl
  term_value-closed (t.read_object a b) m d e g same h = λ i. (field_value-closed a m d e g same (both-left (is_closed_field a d) (is_closed_term b d) h) i).objects (term_value-closed b m d e g same (both-right (is_closed_field a d) (is_closed_term b d) h) i)

  pub int_value-closed : (a : IntTree) (m : Interp) (d : ℕ) (e g : List ℕ) → AgreeBelow d e g → is_closed_int a d ≡ true → int_value a m e ≡ int_value a m g
  int_value-closed (t.const z) m d e g same h = refl
  int_value-closed (t.free_number x) m d e g same h = refl
  int_value-closed (t.read_number a b) m d e g same h = λ i. (field_value-closed a m d e g same (both-left (is_closed_field a d) (is_closed_term b d) h) i).numbers (term_value-closed b m d e g same (both-right (is_closed_field a d) (is_closed_term b d) h) i)
  int_value-closed (t.add a b) m d e g same h = λ i. int_value-closed a m d e g same (both-left (is_closed_int a d) (is_closed_int b d) h) i +ℤ int_value-closed b m d e g same (both-right (is_closed_int a d) (is_closed_int b d) h) i
  int_value-closed (t.sub a b) m d e g same h = λ i. int_value-closed a m d e g same (both-left (is_closed_int a d) (is_closed_int b d) h) i -ℤ int_value-closed b m d e g same (both-right (is_closed_int a d) (is_closed_int b d) h) i
  int_value-closed (t.neg a) m d e g same h = λ i. neg_ℤ (int_value-closed a m d e g same h i)
  int_value-closed (t.scale z a) m d e g same h = λ i. z *ℤ int_value-closed a m d e g same h i
  int_value-closed (t.card a) m d e g same h = λ i. pos (count_below (suc m.last) (set_value-closed a m d e g same h i))

  pub set_value-closed : (a : SetTree) (m : Interp) (d : ℕ) (e g : List ℕ) → AgreeBelow d e g → is_closed_set a d ≡ true → set_value a m e ≡ set_value a m g
  set_value-closed (t.free_set x) m d e g same h = refl
  set_value-closed (t.read_set a b) m d e g same h = λ i. (field_value-closed a m d e g same (both-left (is_closed_field a d) (is_closed_term b d) h) i).sets (term_value-closed b m d e g same (both-right (is_closed_field a d) (is_closed_term b d) h) i)
  set_value-closed t.empty m d e g same h = refl
  set_value-closed t.univ m d e g same h = refl
  set_value-closed (t.single a) m d e g same h = λ i. λ x. x == term_value-closed a m d e g same h i
  set_value-closed (t.union a b) m d e g same h = λ i. λ x. set_value-closed a m d e g same (both-left (is_closed_set a d) (is_closed_set b d) h) i x || set_value-closed b m d e g same (both-right (is_closed_set a d) (is_closed_set b d) h) i x
  set_value-closed (t.inter a b) m d e g same h = λ i. λ x. set_value-closed a m d e g same (both-left (is_closed_set a d) (is_closed_set b d) h) i x && set_value-closed b m d e g same (both-right (is_closed_set a d) (is_closed_set b d) h) i x
  set_value-closed (t.diff a b) m d e g same h = λ i. λ x. set_value-closed a m d e g same (both-left (is_closed_set a d) (is_closed_set b d) h) i x && not (set_value-closed b m d e g same (both-right (is_closed_set a d) (is_closed_set b d) h) i x)
  set_value-closed (t.compl a) m d e g same h = λ i. λ x. not (set_value-closed a m d e g same h i x)
  set_value-closed (t.compr a) m d e g same h = λ i. λ x. truth-closed a m (d + 1) (x ∷ e) (x ∷ g) (agree_under d e g x same) h i

  pub field_value-closed : (a : FieldTree) (m : Interp) (d : ℕ) (e g : List ℕ) → AgreeBelow d e g → is_closed_field a d ≡ true → field_value a m e ≡ field_value a m g
  field_value-closed (t.free_field x) m d e g same h = refl
  field_value-closed (t.update a b c) m d e g same h = λ i. updated (field_value-closed a m d e g same (both-left (is_closed_field a d) (is_closed_term b d) (both-left (is_closed_field a d && is_closed_term b d) (is_closed_value c d) h)) i) (term_value-closed b m d e g same (both-right (is_closed_field a d) (is_closed_term b d) (both-left (is_closed_field a d && is_closed_term b d) (is_closed_value c d) h)) i) (datum-closed c m d e g same (both-right (is_closed_field a d && is_closed_term b d) (is_closed_value c d) h) i)

  pub datum-closed : (a : ValueTree) (m : Interp) (d : ℕ) (e g : List ℕ) → AgreeBelow d e g → is_closed_value a d ≡ true → datum a m e ≡ datum a m g
  datum-closed (t.of_object a) m d e g same h = λ i. an_object (term_value-closed a m d e g same h i)
  datum-closed (t.of_number a) m d e g same h = λ i. a_number (int_value-closed a m d e g same h i)
  datum-closed (t.of_truth a) m d e g same h = λ i. a_truth (truth-closed a m d e g same h i)
  datum-closed (t.of_set a) m d e g same h = λ i. a_set (set_value-closed a m d e g same h i)
  datum-closed (t.of_field a) m d e g same h = λ i. a_field (field_value-closed a m d e g same h i)

  pub truth-closed : (a : FormulaTree) (m : Interp) (d : ℕ) (e g : List ℕ) → AgreeBelow d e g → is_closed_formula a d ≡ true → truth a m e ≡ truth a m g
  truth-closed t.true_formula m d e g same h = refl
  truth-closed t.false_formula m d e g same h = refl
  truth-closed (t.free_truth x) m d e g same h = refl
  truth-closed (t.read_truth a b) m d e g same h = λ i. (field_value-closed a m d e g same (both-left (is_closed_field a d) (is_closed_term b d) h) i).truths (term_value-closed b m d e g same (both-right (is_closed_field a d) (is_closed_term b d) h) i)
  truth-closed (t.negation a) m d e g same h = λ i. not (truth-closed a m d e g same h i)
  truth-closed (t.and a b) m d e g same h = λ i. truth-closed a m d e g same (both-left (is_closed_formula a d) (is_closed_formula b d) h) i && truth-closed b m d e g same (both-right (is_closed_formula a d) (is_closed_formula b d) h) i
  truth-closed (t.or a b) m d e g same h = λ i. truth-closed a m d e g same (both-left (is_closed_formula a d) (is_closed_formula b d) h) i || truth-closed b m d e g same (both-right (is_closed_formula a d) (is_closed_formula b d) h) i
  truth-closed (t.implies a b) m d e g same h = λ i. not (truth-closed a m d e g same (both-left (is_closed_formula a d) (is_closed_formula b d) h) i) || truth-closed b m d e g same (both-right (is_closed_formula a d) (is_closed_formula b d) h) i
  truth-closed (t.iff a b) m d e g same h = λ i. agree (truth-closed a m d e g same (both-left (is_closed_formula a d) (is_closed_formula b d) h) i) (truth-closed b m d e g same (both-right (is_closed_formula a d) (is_closed_formula b d) h) i)
  truth-closed (t.all a) m d e g same h = λ i. every m.last (λ x. truth-closed a m (d + 1) (x ∷ e) (x ∷ g) (agree_under d e g x same) h i)
  truth-closed (t.ex a) m d e g same h = λ i. some m.last (λ x. truth-closed a m (d + 1) (x ∷ e) (x ∷ g) (agree_under d e g x same) h i)
  truth-closed (t.eq_object a b) m d e g same h = λ i. term_value-closed a m d e g same (both-left (is_closed_term a d) (is_closed_term b d) h) i == term_value-closed b m d e g same (both-right (is_closed_term a d) (is_closed_term b d) h) i
  truth-closed (t.eq_number a b) m d e g same h = λ i. int_eq (int_value-closed a m d e g same (both-left (is_closed_int a d) (is_closed_int b d) h) i) (int_value-closed b m d e g same (both-right (is_closed_int a d) (is_closed_int b d) h) i)
  truth-closed (t.eq_set a b) m d e g same h = λ i. every m.last (λ x. agree (set_value-closed a m d e g same (both-left (is_closed_set a d) (is_closed_set b d) h) i x) (set_value-closed b m d e g same (both-right (is_closed_set a d) (is_closed_set b d) h) i x))
  truth-closed (t.less a b) m d e g same h = λ i. int_lt (int_value-closed a m d e g same (both-left (is_closed_int a d) (is_closed_int b d) h) i) (int_value-closed b m d e g same (both-right (is_closed_int a d) (is_closed_int b d) h) i)
  truth-closed (t.less_equal a b) m d e g same h = λ i. int_le (int_value-closed a m d e g same (both-left (is_closed_int a d) (is_closed_int b d) h) i) (int_value-closed b m d e g same (both-right (is_closed_int a d) (is_closed_int b d) h) i)
  truth-closed (t.divides z a) m d e g same h = λ i. divides_number z (int_value-closed a m d e g same h i)
  truth-closed (t.member a b) m d e g same h = λ i. set_value-closed b m d e g same (both-right (is_closed_term a d) (is_closed_set b d) h) i (term_value-closed a m d e g same (both-left (is_closed_term a d) (is_closed_set b d) h) i)
  truth-closed (t.subset a b) m d e g same h = λ i. every m.last (λ x. not (set_value-closed a m d e g same (both-left (is_closed_set a d) (is_closed_set b d) h) i x) || set_value-closed b m d e g same (both-right (is_closed_set a d) (is_closed_set b d) h) i x)
  truth-closed (t.reach fs a b) m d e g same h = λ i. reaches m.last (fields_value-closed fs m d e g same (both-left (is_closed_fields fs d) (is_closed_term a d) (both-left (is_closed_fields fs d && is_closed_term a d) (is_closed_term b d) h)) i) (term_value-closed a m d e g same (both-right (is_closed_fields fs d) (is_closed_term a d) (both-left (is_closed_fields fs d && is_closed_term a d) (is_closed_term b d) h)) i) (term_value-closed b m d e g same (both-right (is_closed_fields fs d && is_closed_term a d) (is_closed_term b d) h) i)
  truth-closed (t.tree fs) m d e g same h = λ i. is_forest m.last (fields_value-closed fs m d e g same h i)
  truth-closed (t.mark k a) m d e g same h = λ i. truth-closed a m d e g same h i

  pub fields_value-closed : (fs : FieldTrees) (m : Interp) (d : ℕ) (e g : List ℕ) → AgreeBelow d e g → is_closed_fields fs d ≡ true → fields_value fs m e ≡ fields_value fs m g
  fields_value-closed t.none m d e g same h = refl
  fields_value-closed (t.more f fs) m d e g same h = λ i. field_value-closed f m d e g same (both-left (is_closed_field f d) (is_closed_fields fs d) h) i ∷ fields_value-closed fs m d e g same (both-right (is_closed_field f d) (is_closed_fields fs d) h) i
