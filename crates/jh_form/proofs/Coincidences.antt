-- The meaning of a tree hangs on the values of its free names alone.
use Rattle.std.proofs.Common.{◌≡◌, refl, ℕ, suc, ◌==◌, Bool, true, not, ◌&&◌, ◌||◌, List, ◌∷◌, pos, ◌+ℤ◌, ◌-ℤ◌, ◌*ℤ◌, neg_ℤ, int_lt, int_le}
use Rattle.std.specs.Ordering.{int_eq}
use Rattle.jh_name.specs.declared.naming.Name.{Name}
use Rattle.jh_name.specs.declared.place.Sort.{Sort}
use Rattle.jh_form.specs.Tree.{TermTree, IntTree, SetTree, FieldTree, ValueTree, FormulaTree, FieldTrees}
use Rattle.jh_form.specs.Tree as t
use Rattle.jh_form.specs.Meaning.{an_object, a_number, a_truth, a_set, a_field, Interp, count_below, every, some, agree, divides_number, updated, reaches, is_forest, term_value, int_value, set_value, field_value, datum, truth, fields_value}
use Rattle.jh_form.specs.Passing.{term_passes, int_passes, set_passes, field_passes, value_passes, formula_passes, fields_passes}
use Rattle.jh_form.specs.Agreement.{AgreeOn}
use Rattle.jh_form.proofs.ClosedLemmas.{both-left, both-right}

module _ (p : Name → Sort → Bool) (m n : Interp) (both : AgreeOn p m n) where
  mutual
    unfolding term_passes int_passes set_passes field_passes value_passes formula_passes fields_passes

    pub term_value-agrees : (a : TermTree) (e : List ℕ) → term_passes a p ≡ true → term_value a m e ≡ term_value a n e
    term_value-agrees (t.bound k) e h = refl
    term_value-agrees (t.free_object x) e h = both.object x h
    term_value-agrees t.null e h = refl
    term_value-agrees (t.read_object a b) e h = λ i. (field_value-agrees a e (both-left (field_passes a p) (term_passes b p) h) i).objects (term_value-agrees b e (both-right (field_passes a p) (term_passes b p) h) i)

    pub int_value-agrees : (a : IntTree) (e : List ℕ) → int_passes a p ≡ true → int_value a m e ≡ int_value a n e
    int_value-agrees (t.const z) e h = refl
    int_value-agrees (t.free_number x) e h = both.number x h
    int_value-agrees (t.read_number a b) e h = λ i. (field_value-agrees a e (both-left (field_passes a p) (term_passes b p) h) i).numbers (term_value-agrees b e (both-right (field_passes a p) (term_passes b p) h) i)
    int_value-agrees (t.add a b) e h = λ i. int_value-agrees a e (both-left (int_passes a p) (int_passes b p) h) i +ℤ int_value-agrees b e (both-right (int_passes a p) (int_passes b p) h) i
    int_value-agrees (t.sub a b) e h = λ i. int_value-agrees a e (both-left (int_passes a p) (int_passes b p) h) i -ℤ int_value-agrees b e (both-right (int_passes a p) (int_passes b p) h) i
    int_value-agrees (t.neg a) e h = λ i. neg_ℤ (int_value-agrees a e h i)
    int_value-agrees (t.scale z a) e h = λ i. z *ℤ int_value-agrees a e h i
    int_value-agrees (t.card a) e h = λ i. pos (count_below (suc (both.last i)) (set_value-agrees a e h i))

    pub set_value-agrees : (a : SetTree) (e : List ℕ) → set_passes a p ≡ true → set_value a m e ≡ set_value a n e
    set_value-agrees (t.free_set x) e h = both.set x h
    set_value-agrees (t.read_set a b) e h = λ i. (field_value-agrees a e (both-left (field_passes a p) (term_passes b p) h) i).sets (term_value-agrees b e (both-right (field_passes a p) (term_passes b p) h) i)
    set_value-agrees t.empty e h = refl
    set_value-agrees t.univ e h = refl
    set_value-agrees (t.single a) e h = λ i. λ x. x == term_value-agrees a e h i
    set_value-agrees (t.union a b) e h = λ i. λ x. set_value-agrees a e (both-left (set_passes a p) (set_passes b p) h) i x || set_value-agrees b e (both-right (set_passes a p) (set_passes b p) h) i x
    set_value-agrees (t.inter a b) e h = λ i. λ x. set_value-agrees a e (both-left (set_passes a p) (set_passes b p) h) i x && set_value-agrees b e (both-right (set_passes a p) (set_passes b p) h) i x
    set_value-agrees (t.diff a b) e h = λ i. λ x. set_value-agrees a e (both-left (set_passes a p) (set_passes b p) h) i x && not (set_value-agrees b e (both-right (set_passes a p) (set_passes b p) h) i x)
    set_value-agrees (t.compl a) e h = λ i. λ x. not (set_value-agrees a e h i x)
    set_value-agrees (t.compr a) e h = λ i. λ x. truth-agrees a (x ∷ e) h i

    pub field_value-agrees : (a : FieldTree) (e : List ℕ) → field_passes a p ≡ true → field_value a m e ≡ field_value a n e
    field_value-agrees (t.free_field x) e h = both.field x h
    field_value-agrees (t.update a b c) e h = λ i. updated (field_value-agrees a e (both-left (field_passes a p) (term_passes b p) (both-left (field_passes a p && term_passes b p) (value_passes c p) h)) i) (term_value-agrees b e (both-right (field_passes a p) (term_passes b p) (both-left (field_passes a p && term_passes b p) (value_passes c p) h)) i) (datum-agrees c e (both-right (field_passes a p && term_passes b p) (value_passes c p) h) i)

    pub datum-agrees : (a : ValueTree) (e : List ℕ) → value_passes a p ≡ true → datum a m e ≡ datum a n e
    datum-agrees (t.of_object a) e h = λ i. an_object (term_value-agrees a e h i)
    datum-agrees (t.of_number a) e h = λ i. a_number (int_value-agrees a e h i)
    datum-agrees (t.of_truth a) e h = λ i. a_truth (truth-agrees a e h i)
    datum-agrees (t.of_set a) e h = λ i. a_set (set_value-agrees a e h i)
    datum-agrees (t.of_field a) e h = λ i. a_field (field_value-agrees a e h i)

    pub truth-agrees : (a : FormulaTree) (e : List ℕ) → formula_passes a p ≡ true → truth a m e ≡ truth a n e
    truth-agrees t.true_formula e h = refl
    truth-agrees t.false_formula e h = refl
    truth-agrees (t.free_truth x) e h = both.truth x h
    truth-agrees (t.read_truth a b) e h = λ i. (field_value-agrees a e (both-left (field_passes a p) (term_passes b p) h) i).truths (term_value-agrees b e (both-right (field_passes a p) (term_passes b p) h) i)
    truth-agrees (t.negation a) e h = λ i. not (truth-agrees a e h i)
    truth-agrees (t.and a b) e h = λ i. truth-agrees a e (both-left (formula_passes a p) (formula_passes b p) h) i && truth-agrees b e (both-right (formula_passes a p) (formula_passes b p) h) i
    truth-agrees (t.or a b) e h = λ i. truth-agrees a e (both-left (formula_passes a p) (formula_passes b p) h) i || truth-agrees b e (both-right (formula_passes a p) (formula_passes b p) h) i
    truth-agrees (t.implies a b) e h = λ i. not (truth-agrees a e (both-left (formula_passes a p) (formula_passes b p) h) i) || truth-agrees b e (both-right (formula_passes a p) (formula_passes b p) h) i
    truth-agrees (t.iff a b) e h = λ i. agree (truth-agrees a e (both-left (formula_passes a p) (formula_passes b p) h) i) (truth-agrees b e (both-right (formula_passes a p) (formula_passes b p) h) i)
    truth-agrees (t.all a) e h = λ i. every (both.last i) (λ x. truth-agrees a (x ∷ e) h i)
    truth-agrees (t.ex a) e h = λ i. some (both.last i) (λ x. truth-agrees a (x ∷ e) h i)
    truth-agrees (t.eq_object a b) e h = λ i. term_value-agrees a e (both-left (term_passes a p) (term_passes b p) h) i == term_value-agrees b e (both-right (term_passes a p) (term_passes b p) h) i
    truth-agrees (t.eq_number a b) e h = λ i. int_eq (int_value-agrees a e (both-left (int_passes a p) (int_passes b p) h) i) (int_value-agrees b e (both-right (int_passes a p) (int_passes b p) h) i)
    truth-agrees (t.eq_set a b) e h = λ i. every (both.last i) (λ x. agree (set_value-agrees a e (both-left (set_passes a p) (set_passes b p) h) i x) (set_value-agrees b e (both-right (set_passes a p) (set_passes b p) h) i x))
    truth-agrees (t.less a b) e h = λ i. int_lt (int_value-agrees a e (both-left (int_passes a p) (int_passes b p) h) i) (int_value-agrees b e (both-right (int_passes a p) (int_passes b p) h) i)
    truth-agrees (t.less_equal a b) e h = λ i. int_le (int_value-agrees a e (both-left (int_passes a p) (int_passes b p) h) i) (int_value-agrees b e (both-right (int_passes a p) (int_passes b p) h) i)
    truth-agrees (t.divides z a) e h = λ i. divides_number z (int_value-agrees a e h i)
    truth-agrees (t.member a b) e h = λ i. set_value-agrees b e (both-right (term_passes a p) (set_passes b p) h) i (term_value-agrees a e (both-left (term_passes a p) (set_passes b p) h) i)
    truth-agrees (t.subset a b) e h = λ i. every (both.last i) (λ x. not (set_value-agrees a e (both-left (set_passes a p) (set_passes b p) h) i x) || set_value-agrees b e (both-right (set_passes a p) (set_passes b p) h) i x)
    truth-agrees (t.reach fs a b) e h = λ i. reaches (both.last i) (fields_value-agrees fs e (both-left (fields_passes fs p) (term_passes a p) (both-left (fields_passes fs p && term_passes a p) (term_passes b p) h)) i) (term_value-agrees a e (both-right (fields_passes fs p) (term_passes a p) (both-left (fields_passes fs p && term_passes a p) (term_passes b p) h)) i) (term_value-agrees b e (both-right (fields_passes fs p && term_passes a p) (term_passes b p) h) i)
    truth-agrees (t.tree fs) e h = λ i. is_forest (both.last i) (fields_value-agrees fs e h i)
    truth-agrees (t.mark k a) e h = λ i. truth-agrees a e h i

    pub fields_value-agrees : (fs : FieldTrees) (e : List ℕ) → fields_passes fs p ≡ true → fields_value fs m e ≡ fields_value fs n e
    fields_value-agrees t.none e h = refl
    fields_value-agrees (t.more f fs) e h = λ i. field_value-agrees f e (both-left (field_passes f p) (fields_passes fs p) h) i ∷ fields_value-agrees fs e (both-right (field_passes f p) (fields_passes fs p) h) i
