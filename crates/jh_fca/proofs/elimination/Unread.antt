-- What a tree means doesn't hang on what a field gives for objects, where it is read for none.
use Rattle.std.proofs.Common.{◌≡◌, refl, ℕ, suc, ◌==◌, Bool, true, false, not, ◌&&◌, ◌||◌, List, ◌∷◌, pos, ◌+ℤ◌, ◌-ℤ◌, ◌*ℤ◌, neg_ℤ, int_lt, int_le}
use Rattle.std.specs.Ordering.{int_eq}
use Rattle.jh_name.specs.declared.naming.Name.{Name}
use Rattle.jh_form.specs.Tree.{TermTree, IntTree, SetTree, FieldTree, ValueTree, FormulaTree, FieldTrees}
use Rattle.jh_form.specs.Tree as t
use Rattle.jh_form.specs.Meaning.{an_object, a_number, a_truth, a_set, a_field, Interp, count_below, every, some, agree, divides_number, updated, reaches, is_forest, term_value, int_value, set_value, field_value, datum, truth, fields_value}
use Rattle.jh_form.specs.Passing.{name_equal}
use Rattle.jh_fca.specs.elimination.Constraints.{is_name}
use Rattle.jh_fca.proofs.elimination.Readings.{Never, TermReads, IntReads, SetReads, FieldReads, ValueReads, FormulaReads, FieldsReads}

-- Both interpretations are the same but for what the field gives for objects.
pub record Alike (f : Name) (m n : Interp) : Type 0 where
  pub last : m.last ≡ n.last
  pub object : (x : Name) → m.object x ≡ n.object x
  pub number : (x : Name) → m.number x ≡ n.number x
  pub truth : (x : Name) → m.truth x ≡ n.truth x
  pub set : (x : Name) → m.set x ≡ n.set x
  pub other : (x : Name) → (name_equal x f ≡ true → ⊥) → m.field x ≡ n.field x
  pub numbers : (x : Name) → (m.field x).numbers ≡ (n.field x).numbers
  pub truths : (x : Name) → (m.field x).truths ≡ (n.field x).truths
  pub sets : (x : Name) → (m.field x).sets ≡ (n.field x).sets

module _ (f : Name) (m n : Interp) (alike : Alike f m n) where
  mutual
    unfolding is_name

    pub term-same : (a : TermTree) (lax : Bool) (e : List ℕ) → TermReads a f lax Never → term_value a m e ≡ term_value a n e
    term-same (t.bound k) lax e h = refl
    term-same (t.free_object x) lax e h = alike.object x
    term-same t.null lax e h = refl
    term-same (t.read_object a b) lax e h = λ i. (field-same a e h.0 h.1.1 i).objects (term-same b lax e h.1.0 i)

    pub int-same : (a : IntTree) (lax : Bool) (e : List ℕ) → IntReads a f lax Never → int_value a m e ≡ int_value a n e
    int-same (t.const z) lax e h = refl
    int-same (t.free_number x) lax e h = alike.number x
    int-same (t.read_number a b) lax e h = λ i. field-numbers a e h.0 i (term-same b lax e h.1.0 i)
    int-same (t.add a b) lax e h = λ i. int-same a lax e (h.0) i +ℤ int-same b lax e (h.1) i
    int-same (t.sub a b) lax e h = λ i. int-same a lax e (h.0) i -ℤ int-same b lax e (h.1) i
    int-same (t.neg a) lax e h = λ i. neg_ℤ (int-same a lax e h i)
    int-same (t.scale z a) lax e h = λ i. z *ℤ int-same a lax e h i
    int-same (t.card a) lax e h = λ i. pos (count_below (suc (alike.last i)) (set-same a lax e h i))

    pub set-same : (a : SetTree) (lax : Bool) (e : List ℕ) → SetReads a f lax Never → set_value a m e ≡ set_value a n e
    set-same (t.free_set x) lax e h = alike.set x
    set-same (t.read_set a b) lax e h = λ i. field-sets a e h.0 i (term-same b lax e h.1.0 i)
    set-same t.empty lax e h = refl
    set-same t.univ lax e h = refl
    set-same (t.single a) lax e h = λ i. λ x. x == term-same a lax e h i
    set-same (t.union a b) lax e h = λ i. λ x. set-same a lax e (h.0) i x || set-same b lax e (h.1) i x
    set-same (t.inter a b) lax e h = λ i. λ x. set-same a lax e (h.0) i x && set-same b lax e (h.1) i x
    set-same (t.diff a b) lax e h = λ i. λ x. set-same a lax e (h.0) i x && not (set-same b lax e (h.1) i x)
    set-same (t.compl a) lax e h = λ i. λ x. not (set-same a lax e h i x)
    set-same (t.compr a) lax e h = λ i. λ x. formula-same a false (x ∷ e) h i

    pub field-same : (a : FieldTree) (e : List ℕ) → FieldReads a f → (is_name f a ≡ true → ⊥) → field_value a m e ≡ field_value a n e
    field-same (t.free_field x) e h k = alike.other x k
    field-same (t.update a b c) e h k = λ i. updated (field-same a e h.1.0 h.0 i) (term-same b false e h.1.1.0 i) (value-same c e h.1.1.1 i)

    field-numbers : (a : FieldTree) (e : List ℕ) → FieldReads a f → (field_value a m e).numbers ≡ (field_value a n e).numbers
    field-numbers (t.free_field x) e h = alike.numbers x
    field-numbers (t.update a b c) e h = λ i. (updated (field-same a e h.1.0 h.0 i) (term-same b false e h.1.1.0 i) (value-same c e h.1.1.1 i)).numbers

    field-truths : (a : FieldTree) (e : List ℕ) → FieldReads a f → (field_value a m e).truths ≡ (field_value a n e).truths
    field-truths (t.free_field x) e h = alike.truths x
    field-truths (t.update a b c) e h = λ i. (updated (field-same a e h.1.0 h.0 i) (term-same b false e h.1.1.0 i) (value-same c e h.1.1.1 i)).truths

    field-sets : (a : FieldTree) (e : List ℕ) → FieldReads a f → (field_value a m e).sets ≡ (field_value a n e).sets
    field-sets (t.free_field x) e h = alike.sets x
    field-sets (t.update a b c) e h = λ i. (updated (field-same a e h.1.0 h.0 i) (term-same b false e h.1.1.0 i) (value-same c e h.1.1.1 i)).sets

    value-same : (a : ValueTree) (e : List ℕ) → ValueReads a f → datum a m e ≡ datum a n e
    value-same (t.of_object a) e h = λ i. an_object (term-same a false e h i)
    value-same (t.of_number a) e h = λ i. a_number (int-same a false e h i)
    value-same (t.of_truth a) e h = λ i. a_truth (formula-same a false e h i)
    value-same (t.of_set a) e h = λ i. a_set (set-same a false e h i)
    value-same (t.of_field a) e h = λ i. a_field (field-same a e h.1 h.0 i)

    pub formula-same : (a : FormulaTree) (lax : Bool) (e : List ℕ) → FormulaReads a f lax Never → truth a m e ≡ truth a n e
    formula-same t.true_formula lax e h = refl
    formula-same t.false_formula lax e h = refl
    formula-same (t.free_truth x) lax e h = alike.truth x
    formula-same (t.read_truth a b) lax e h = λ i. field-truths a e h.0 i (term-same b lax e h.1.0 i)
    formula-same (t.negation a) lax e h = λ i. not (formula-same a lax e h i)
    formula-same (t.and a b) lax e h = λ i. formula-same a lax e (h.0) i && formula-same b lax e (h.1) i
    formula-same (t.or a b) lax e h = λ i. formula-same a lax e (h.0) i || formula-same b lax e (h.1) i
    formula-same (t.implies a b) lax e h = λ i. not (formula-same a lax e (h.0) i) || formula-same b lax e (h.1) i
    formula-same (t.iff a b) lax e h = λ i. agree (formula-same a lax e (h.0) i) (formula-same b lax e (h.1) i)
    formula-same (t.all a) lax e h = λ i. every (alike.last i) (λ x. formula-same a lax (x ∷ e) h i)
    formula-same (t.ex a) lax e h = λ i. some (alike.last i) (λ x. formula-same a lax (x ∷ e) h i)
    formula-same (t.eq_object a b) lax e h = λ i. term-same a lax e (h.0) i == term-same b lax e (h.1) i
    formula-same (t.eq_number a b) lax e h = λ i. int_eq (int-same a lax e (h.0) i) (int-same b lax e (h.1) i)
    formula-same (t.eq_set a b) lax e h = λ i. every (alike.last i) (λ x. agree (set-same a lax e (h.0) i x) (set-same b lax e (h.1) i x))
    formula-same (t.less a b) lax e h = λ i. int_lt (int-same a lax e (h.0) i) (int-same b lax e (h.1) i)
    formula-same (t.less_equal a b) lax e h = λ i. int_le (int-same a lax e (h.0) i) (int-same b lax e (h.1) i)
    formula-same (t.divides z a) lax e h = λ i. divides_number z (int-same a lax e h i)
    formula-same (t.member a b) lax e h = λ i. set-same b lax e (h.1) i (term-same a lax e (h.0) i)
    formula-same (t.subset a b) lax e h = λ i. every (alike.last i) (λ x. not (set-same a lax e (h.0) i x) || set-same b lax e (h.1) i x)
    formula-same (t.reach a b c) lax e h = λ i. reaches (alike.last i) (fields-same a e (h.0) i) (term-same b lax e (h.1.0) i) (term-same c lax e (h.1.1) i)
    formula-same (t.tree a) lax e h = λ i. is_forest (alike.last i) (fields-same a e h i)
    formula-same (t.mark m a) lax e h = λ i. formula-same a lax e h i

    fields-same : (a : FieldTrees) (e : List ℕ) → FieldsReads a f → fields_value a m e ≡ fields_value a n e
    fields-same t.none e h = refl
    fields-same (t.more a b) e h = λ i. field-same a e h.1.0 h.0 i ∷ fields-same b e h.1.1 i
