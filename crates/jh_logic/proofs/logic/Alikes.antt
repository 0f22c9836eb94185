-- Written by tools/alike.py.
-- Two interpretations that say the same of a universe give a formula the same meaning.
use Rattle.std.proofs.Common.{◌≡◌, refl, ap, ◌∙◌, ℕ, zero, suc, ◌<◌, ◌==◌, not, ◌&&◌, ◌||◌, List, ◌∷◌, pos, ◌+ℤ◌, ◌-ℤ◌, ◌*ℤ◌, neg_ℤ, int_lt, int_le}
use Rattle.std.specs.Ordering.{int_eq}
use Rattle.jh_form.specs.Tree.{TermTree, IntTree, SetTree, FieldTree, ValueTree, FormulaTree, FieldTrees}
use Rattle.jh_form.specs.Tree as t
use Rattle.jh_form.specs.Meaning.{Interp, InUniverse, every, some, agree, count_below, divides_number, reaches, is_forest, term_value, int_value, set_value, field_value, datum, truth, fields_value}
use Rattle.jh_form.proofs.Universes.{term_inside}
use Rattle.jh_boxed_operations.specs.comparison.Inside.{SameMembers, SameFields, SameIn, AreInside}
use Rattle.jh_boxed_operations.proofs.comparison.Insides.{AllSame, updated-same, count-same, every-same, some-same, reaches-same, forest-same}
use Rattle.jh_logic.specs.logic.Histories.{Alike}

-- one more object of the universe
inside-more : (n x : ℕ) (e : List ℕ) → x < suc n → AreInside n e → AreInside n (x ∷ e)
inside-more n x e lt i zero = lt
inside-more n x e lt i (suc k) = i k

module _ (m w : Interp) (universe : InUniverse m) (same : Alike m w) where
  mutual
    pub term_value-alike : (a : TermTree) (e : List ℕ) → AreInside m.last e → term_value a m e ≡ term_value a w e
    term_value-alike (t.bound k) e i = refl
    term_value-alike (t.free_object x) e i = same.object x
    term_value-alike t.null e i = refl
    term_value-alike (t.read_object a b) e i = λ j. (field_value-alike a e i).objects j (term_value-alike b e i j)

    pub int_value-alike : (a : IntTree) (e : List ℕ) → AreInside m.last e → int_value a m e ≡ int_value a w e
    int_value-alike (t.const z) e i = refl
    int_value-alike (t.free_number x) e i = same.number x
    int_value-alike (t.read_number a b) e i = λ j. (field_value-alike a e i).numbers j (term_value-alike b e i j)
    int_value-alike (t.add a b) e i = λ j. int_value-alike a e i j +ℤ int_value-alike b e i j
    int_value-alike (t.sub a b) e i = λ j. int_value-alike a e i j -ℤ int_value-alike b e i j
    int_value-alike (t.neg a) e i = λ j. neg_ℤ (int_value-alike a e i j)
    int_value-alike (t.scale z a) e i = λ j. z *ℤ int_value-alike a e i j
    int_value-alike (t.card a) e i = ap pos (count-same m.last (set_value a m e) (set_value a w e) (set_value-alike a e i)) ∙ (λ j. pos (count_below (suc (same.last j)) (set_value a w e)))

    pub set_value-alike : (a : SetTree) (e : List ℕ) → AreInside m.last e → SameMembers m.last (set_value a m e) (set_value a w e)
    set_value-alike (t.free_set x) e i = same.set x
    set_value-alike (t.read_set a b) e i = λ y lt. (field_value-alike a e i).sets (term_value b m e) y lt ∙ (λ j. (field_value a w e).sets (term_value-alike b e i j) y)
    set_value-alike t.empty e i = λ y lt. refl
    set_value-alike t.univ e i = λ y lt. refl
    set_value-alike (t.single a) e i = λ y lt j. y == term_value-alike a e i j
    set_value-alike (t.union a b) e i = λ y lt j. (set_value-alike a e i y lt j) || (set_value-alike b e i y lt j)
    set_value-alike (t.inter a b) e i = λ y lt j. (set_value-alike a e i y lt j) && (set_value-alike b e i y lt j)
    set_value-alike (t.diff a b) e i = λ y lt j. (set_value-alike a e i y lt j) && not ((set_value-alike b e i y lt j))
    set_value-alike (t.compl a) e i = λ y lt j. not ((set_value-alike a e i y lt j))
    set_value-alike (t.compr a) e i = λ y lt. truth-alike a (y ∷ e) (inside-more m.last y e lt i)

    pub field_value-alike : (a : FieldTree) (e : List ℕ) → AreInside m.last e → SameFields m.last (field_value a m e) (field_value a w e)
    field_value-alike (t.free_field x) e i = same.field x
    field_value-alike (t.update a b c) e i = updated-same m.last (field_value a m e) (field_value a w e) (term_value b m e) (term_value b w e) (datum c m e) (datum c w e) (field_value-alike a e i) (term_value-alike b e i) (datum-alike c e i)

    pub datum-alike : (a : ValueTree) (e : List ℕ) → AreInside m.last e → SameIn m.last (datum a m e) (datum a w e)
    datum-alike (t.of_object a) e i = term_value-alike a e i
    datum-alike (t.of_number a) e i = int_value-alike a e i
    datum-alike (t.of_truth a) e i = truth-alike a e i
    datum-alike (t.of_set a) e i = set_value-alike a e i
    datum-alike (t.of_field a) e i = field_value-alike a e i

    pub truth-alike : (a : FormulaTree) (e : List ℕ) → AreInside m.last e → truth a m e ≡ truth a w e
    truth-alike t.true_formula e i = refl
    truth-alike t.false_formula e i = refl
    truth-alike (t.free_truth x) e i = same.truth x
    truth-alike (t.read_truth a b) e i = λ j. (field_value-alike a e i).truths j (term_value-alike b e i j)
    truth-alike (t.negation a) e i = λ j. not (truth-alike a e i j)
    truth-alike (t.and a b) e i = λ j. truth-alike a e i j && truth-alike b e i j
    truth-alike (t.or a b) e i = λ j. truth-alike a e i j || truth-alike b e i j
    truth-alike (t.implies a b) e i = λ j. not (truth-alike a e i j) || truth-alike b e i j
    truth-alike (t.iff a b) e i = λ j. agree (truth-alike a e i j) (truth-alike b e i j)
    truth-alike (t.all a) e i = every-same m.last (λ x. truth a m (x ∷ e)) (λ x. truth a w (x ∷ e)) (λ x lt. truth-alike a (x ∷ e) (inside-more m.last x e lt i)) ∙ (λ j. every (same.last j) (λ x. truth a w (x ∷ e)))
    truth-alike (t.ex a) e i = some-same m.last (λ x. truth a m (x ∷ e)) (λ x. truth a w (x ∷ e)) (λ x lt. truth-alike a (x ∷ e) (inside-more m.last x e lt i)) ∙ (λ j. some (same.last j) (λ x. truth a w (x ∷ e)))
    truth-alike (t.eq_object a b) e i = λ j. term_value-alike a e i j == term_value-alike b e i j
    truth-alike (t.eq_number a b) e i = λ j. int_eq (int_value-alike a e i j) (int_value-alike b e i j)
    truth-alike (t.eq_set a b) e i = every-same m.last (λ x. agree (set_value a m e x) (set_value b m e x)) (λ x. agree (set_value a w e x) (set_value b w e x)) (λ x lt j. agree (set_value-alike a e i x lt j) (set_value-alike b e i x lt j)) ∙ (λ j. every (same.last j) (λ x. agree (set_value a w e x) (set_value b w e x)))
    truth-alike (t.less a b) e i = λ j. int_lt (int_value-alike a e i j) (int_value-alike b e i j)
    truth-alike (t.less_equal a b) e i = λ j. int_le (int_value-alike a e i j) (int_value-alike b e i j)
    truth-alike (t.divides z a) e i = λ j. divides_number z (int_value-alike a e i j)
    truth-alike (t.member a b) e i = set_value-alike b e i (term_value a m e) (term_inside m universe e i a) ∙ ap (set_value b w e) (term_value-alike a e i)
    truth-alike (t.subset a b) e i = every-same m.last (λ x. not (set_value a m e x) || set_value b m e x) (λ x. not (set_value a w e x) || set_value b w e x) (λ x lt j. not (set_value-alike a e i x lt j) || set_value-alike b e i x lt j) ∙ (λ j. every (same.last j) (λ x. not (set_value a w e x) || set_value b w e x))
    truth-alike (t.reach fs a b) e i = reaches-same m.last (fields_value fs m e) (fields_value fs w e) (fields_value-alike fs e i) (term_value a m e) (term_value b m e) ∙ (λ j. reaches (same.last j) (fields_value fs w e) (term_value-alike a e i j) (term_value-alike b e i j))
    truth-alike (t.tree fs) e i = forest-same m.last (fields_value fs m e) (fields_value fs w e) (fields_value-alike fs e i) ∙ (λ j. is_forest (same.last j) (fields_value fs w e))
    truth-alike (t.mark k a) e i = truth-alike a e i

    pub fields_value-alike : (a : FieldTrees) (e : List ℕ) → AreInside m.last e → AllSame m.last (fields_value a m e) (fields_value a w e)
    fields_value-alike t.none e i = tt
    fields_value-alike (t.more f fs) e i = (field_value-alike f e i, fields_value-alike fs e i)
