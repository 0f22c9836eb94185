-- The meaning of a mapped tree: where each leaf keeps its meaning, the whole does.
use Rattle.std.proofs.Common.{◌≡◌, refl, ap, ◌∙◌, ℕ, suc, ◌+◌, ◌≤◌, ◌==◌, not, ◌&&◌, ◌||◌, List, ◌∷◌, length, pos, ◌+ℤ◌, ◌-ℤ◌, ◌*ℤ◌, neg_ℤ, int_lt, int_le, arith}
use Rattle.std.specs.Ordering.{int_eq}
use Rattle.jh_form.specs.Tree.{TermTree, IntTree, SetTree, FieldTree, ValueTree, FormulaTree, FieldTrees}
use Rattle.jh_form.specs.Tree as t
use Rattle.jh_form.specs.Meaning.{an_object, a_number, a_truth, a_set, a_field, Interp, count_below, every, some, agree, divides_number, updated, reaches, is_forest, term_value, int_value, set_value, field_value, datum, truth, fields_value}
use Rattle.jh_boxed.specs.Mapped.{LeafMap, mapped_term, mapped_int, mapped_set, mapped_field, mapped_value, mapped_formula, mapped_fields}
use Rattle.jh_boxed.specs.Kept.{Keeps}

pub deeper : (d : ℕ) (e : List ℕ) (x : ℕ) → d ≤ length e → d + 1 ≤ length (x ∷ e)
deeper d e x h = omega arith

module _ (l : LeafMap) (m n : Interp) (view : ℕ → List ℕ → List ℕ) (keeps : Keeps l m n view) where
  mutual
    unfolding mapped_term mapped_int mapped_set mapped_field mapped_value mapped_formula mapped_fields

    pub term_value-mapped : (a : TermTree) (d : ℕ) (e : List ℕ) → d ≤ length e → term_value (mapped_term a l d) m e ≡ term_value a n (view d e)
    term_value-mapped (t.bound k) d e h = keeps.bound k d e h
    term_value-mapped (t.free_object x) d e h = keeps.object x d e h
    term_value-mapped t.null d e h = refl
    term_value-mapped (t.read_object a b) d e h = λ i. (field_value-mapped a d e h i).objects (term_value-mapped b d e h i)

    pub int_value-mapped : (a : IntTree) (d : ℕ) (e : List ℕ) → d ≤ length e → int_value (mapped_int a l d) m e ≡ int_value a n (view d e)
    int_value-mapped (t.const z) d e h = refl
    int_value-mapped (t.free_number x) d e h = keeps.number x d e h
    int_value-mapped (t.read_number a b) d e h = λ i. (field_value-mapped a d e h i).numbers (term_value-mapped b d e h i)
    int_value-mapped (t.add a b) d e h = λ i. int_value-mapped a d e h i +ℤ int_value-mapped b d e h i
    int_value-mapped (t.sub a b) d e h = λ i. int_value-mapped a d e h i -ℤ int_value-mapped b d e h i
    int_value-mapped (t.neg a) d e h = λ i. neg_ℤ (int_value-mapped a d e h i)
    int_value-mapped (t.scale z a) d e h = λ i. z *ℤ int_value-mapped a d e h i
    int_value-mapped (t.card a) d e h = λ i. pos (count_below (suc (keeps.last i)) (set_value-mapped a d e h i))

    pub set_value-mapped : (a : SetTree) (d : ℕ) (e : List ℕ) → d ≤ length e → set_value (mapped_set a l d) m e ≡ set_value a n (view d e)
    set_value-mapped (t.free_set x) d e h = keeps.set x d e h
    set_value-mapped (t.read_set a b) d e h = λ i. (field_value-mapped a d e h i).sets (term_value-mapped b d e h i)
    set_value-mapped t.empty d e h = refl
    set_value-mapped t.univ d e h = refl
    set_value-mapped (t.single a) d e h = λ i. λ x. x == term_value-mapped a d e h i
    set_value-mapped (t.union a b) d e h = λ i. λ x. set_value-mapped a d e h i x || set_value-mapped b d e h i x
    set_value-mapped (t.inter a b) d e h = λ i. λ x. set_value-mapped a d e h i x && set_value-mapped b d e h i x
    set_value-mapped (t.diff a b) d e h = λ i. λ x. set_value-mapped a d e h i x && not (set_value-mapped b d e h i x)
    set_value-mapped (t.compl a) d e h = λ i. λ x. not (set_value-mapped a d e h i x)
    set_value-mapped (t.compr a) d e h = λ i. λ x. (truth-mapped a (d + 1) (x ∷ e) (deeper d e x h) ∙ ap (λ g. truth a n g) (keeps.under d e x)) i

    pub field_value-mapped : (a : FieldTree) (d : ℕ) (e : List ℕ) → d ≤ length e → field_value (mapped_field a l d) m e ≡ field_value a n (view d e)
    field_value-mapped (t.free_field x) d e h = keeps.field x d e h
    field_value-mapped (t.update a b c) d e h = λ i. updated (field_value-mapped a d e h i) (term_value-mapped b d e h i) (datum-mapped c d e h i)

    pub datum-mapped : (a : ValueTree) (d : ℕ) (e : List ℕ) → d ≤ length e → datum (mapped_value a l d) m e ≡ datum a n (view d e)
    datum-mapped (t.of_object a) d e h = λ i. an_object (term_value-mapped a d e h i)
    datum-mapped (t.of_number a) d e h = λ i. a_number (int_value-mapped a d e h i)
    datum-mapped (t.of_truth a) d e h = λ i. a_truth (truth-mapped a d e h i)
    datum-mapped (t.of_set a) d e h = λ i. a_set (set_value-mapped a d e h i)
    datum-mapped (t.of_field a) d e h = λ i. a_field (field_value-mapped a d e h i)

    pub truth-mapped : (a : FormulaTree) (d : ℕ) (e : List ℕ) → d ≤ length e → truth (mapped_formula a l d) m e ≡ truth a n (view d e)
    truth-mapped t.true_formula d e h = refl
    truth-mapped t.false_formula d e h = refl
    truth-mapped (t.free_truth x) d e h = keeps.truth x d e h
    truth-mapped (t.read_truth a b) d e h = λ i. (field_value-mapped a d e h i).truths (term_value-mapped b d e h i)
    truth-mapped (t.negation a) d e h = λ i. not (truth-mapped a d e h i)
    truth-mapped (t.and a b) d e h = λ i. truth-mapped a d e h i && truth-mapped b d e h i
    truth-mapped (t.or a b) d e h = λ i. truth-mapped a d e h i || truth-mapped b d e h i
    truth-mapped (t.implies a b) d e h = λ i. not (truth-mapped a d e h i) || truth-mapped b d e h i
    truth-mapped (t.iff a b) d e h = λ i. agree (truth-mapped a d e h i) (truth-mapped b d e h i)
    truth-mapped (t.all a) d e h = λ i. every (keeps.last i) (λ x. (truth-mapped a (d + 1) (x ∷ e) (deeper d e x h) ∙ ap (λ g. truth a n g) (keeps.under d e x)) i)
    truth-mapped (t.ex a) d e h = λ i. some (keeps.last i) (λ x. (truth-mapped a (d + 1) (x ∷ e) (deeper d e x h) ∙ ap (λ g. truth a n g) (keeps.under d e x)) i)
    truth-mapped (t.eq_object a b) d e h = λ i. term_value-mapped a d e h i == term_value-mapped b d e h i
    truth-mapped (t.eq_number a b) d e h = λ i. int_eq (int_value-mapped a d e h i) (int_value-mapped b d e h i)
    truth-mapped (t.eq_set a b) d e h = λ i. every (keeps.last i) (λ x. agree (set_value-mapped a d e h i x) (set_value-mapped b d e h i x))
    truth-mapped (t.less a b) d e h = λ i. int_lt (int_value-mapped a d e h i) (int_value-mapped b d e h i)
    truth-mapped (t.less_equal a b) d e h = λ i. int_le (int_value-mapped a d e h i) (int_value-mapped b d e h i)
    truth-mapped (t.divides z a) d e h = λ i. divides_number z (int_value-mapped a d e h i)
    truth-mapped (t.member a b) d e h = λ i. set_value-mapped b d e h i (term_value-mapped a d e h i)
    truth-mapped (t.subset a b) d e h = λ i. every (keeps.last i) (λ x. not (set_value-mapped a d e h i x) || set_value-mapped b d e h i x)
    truth-mapped (t.reach fs a b) d e h = λ i. reaches (keeps.last i) (fields_value-mapped fs d e h i) (term_value-mapped a d e h i) (term_value-mapped b d e h i)
    truth-mapped (t.tree fs) d e h = λ i. is_forest (keeps.last i) (fields_value-mapped fs d e h i)
    truth-mapped (t.mark k a) d e h = λ i. truth-mapped a d e h i

    pub fields_value-mapped : (fs : FieldTrees) (d : ℕ) (e : List ℕ) → d ≤ length e → fields_value (mapped_fields fs l d) m e ≡ fields_value fs n (view d e)
    fields_value-mapped t.none d e h = refl
    fields_value-mapped (t.more f fs) d e h = λ i. field_value-mapped f d e h i ∷ fields_value-mapped fs d e h i
