-- Written by tools/compare.py.
-- Exchanging parts for others of the same meaning keeps the meaning.
use Rattle.std.proofs.Common.{◌≡◌, refl, sym, ap, subst, ◌∙◌, ℕ, zero, suc, ◌<◌, ◌==◌, not, ◌&&◌, ◌||◌, List, [], ◌∷◌, pos, ◌+ℤ◌, ◌-ℤ◌, ◌*ℤ◌, neg_ℤ, int_lt, int_le, arith}
use Rattle.std.specs.Ordering.{int_eq}
use Rattle.jh_form.specs.Tree.{TermTree, IntTree, SetTree, FieldTree, ValueTree, FormulaTree, FieldTrees}
use Rattle.jh_form.specs.Tree as t
use Rattle.jh_form.specs.Meaning.{Datum, Interp, InUniverse, agree, divides_number, reaches, term_value, int_value, set_value, field_value, datum, truth, fields_value}
use Rattle.jh_form.proofs.Universes.{term_inside}
use Rattle.jh_form.proofs.ClosedLemmas.{datum-closed}
use Rattle.jh_boxed_operations.specs.comparison.Related.{TermsRelated, IntsRelated, SetsRelated, FieldsRelated, ValuesRelated, FormulasRelated, ListsRelated}
use Rattle.jh_boxed_operations.specs.comparison.Related as r
use Rattle.jh_boxed_operations.specs.comparison.Exchanged.{ExchangeKeepsMeaning}
use Rattle.jh_boxed_operations.specs.comparison.Inside.{SameMembers, SameFields, SameIn, AreInside}
use Rattle.jh_boxed_operations.proofs.comparison.Insides.{AllSame, fields-same, updated-same, count-same, every-same, some-same, reaches-same, forest-same}

-- one more object of the universe
inside-more : (n x : ℕ) (e : List ℕ) → x < suc n → AreInside n e → AreInside n (x ∷ e)
inside-more n x e lt w zero = lt
inside-more n x e lt w (suc k) = w k

module _ (X : ValueTree → ValueTree → Type 0) (m : Interp) (universe : InUniverse m)
    (keeps : (u v : ValueTree) → X u v → (e : List ℕ) → AreInside m.last e → SameIn m.last (datum u m e) (datum v m e)) where
  mutual
    pub term_value-related : (a b : TermTree) → TermsRelated X a b → (e : List ℕ) → AreInside m.last e → term_value a m e ≡ term_value b m e
    term_value-related _ _ (r.term_here a b x) e w = keeps (t.of_object a) (t.of_object b) x e w
    term_value-related _ _ (r.bound k) e w = refl
    term_value-related _ _ (r.free_object x) e w = refl
    term_value-related _ _ r.null e w = refl
    term_value-related _ _ (r.read_object a a' b b' h0 h1) e w = λ i. (field_value-related a a' h0 e w).objects i (term_value-related b b' h1 e w i)

    pub int_value-related : (a b : IntTree) → IntsRelated X a b → (e : List ℕ) → AreInside m.last e → int_value a m e ≡ int_value b m e
    int_value-related _ _ (r.int_here a b x) e w = keeps (t.of_number a) (t.of_number b) x e w
    int_value-related _ _ (r.const z) e w = refl
    int_value-related _ _ (r.free_number x) e w = refl
    int_value-related _ _ (r.read_number a a' b b' h0 h1) e w = λ i. (field_value-related a a' h0 e w).numbers i (term_value-related b b' h1 e w i)
    int_value-related _ _ (r.add a a' b b' h0 h1) e w = λ i. int_value-related a a' h0 e w i +ℤ int_value-related b b' h1 e w i
    int_value-related _ _ (r.sub a a' b b' h0 h1) e w = λ i. int_value-related a a' h0 e w i -ℤ int_value-related b b' h1 e w i
    int_value-related _ _ (r.neg a a' h0) e w = λ i. neg_ℤ (int_value-related a a' h0 e w i)
    int_value-related _ _ (r.scale z a a' h1) e w = λ i. z *ℤ int_value-related a a' h1 e w i
    int_value-related _ _ (r.card a a' h0) e w = ap pos (count-same m.last (set_value a m e) (set_value a' m e) (set_value-related a a' h0 e w))

    pub set_value-related : (a b : SetTree) → SetsRelated X a b → (e : List ℕ) → AreInside m.last e → SameMembers m.last (set_value a m e) (set_value b m e)
    set_value-related _ _ (r.set_here a b x) e w = keeps (t.of_set a) (t.of_set b) x e w
    set_value-related _ _ (r.free_set x) e w = λ y lt. refl
    set_value-related _ _ (r.read_set a a' b b' h0 h1) e w = λ y lt. (field_value-related a a' h0 e w).sets (term_value b m e) y lt ∙ (λ i. (field_value a' m e).sets (term_value-related b b' h1 e w i) y)
    set_value-related _ _ r.empty e w = λ y lt. refl
    set_value-related _ _ r.univ e w = λ y lt. refl
    set_value-related _ _ (r.single a a' h0) e w = λ y lt i. y == term_value-related a a' h0 e w i
    set_value-related _ _ (r.union a a' b b' h0 h1) e w = λ y lt i. (set_value-related a a' h0 e w y lt i) || (set_value-related b b' h1 e w y lt i)
    set_value-related _ _ (r.inter a a' b b' h0 h1) e w = λ y lt i. (set_value-related a a' h0 e w y lt i) && (set_value-related b b' h1 e w y lt i)
    set_value-related _ _ (r.diff a a' b b' h0 h1) e w = λ y lt i. (set_value-related a a' h0 e w y lt i) && not ((set_value-related b b' h1 e w y lt i))
    set_value-related _ _ (r.compl a a' h0) e w = λ y lt i. not ((set_value-related a a' h0 e w y lt i))
    set_value-related _ _ (r.compr a a' h0) e w = λ y lt. truth-related a a' h0 (y ∷ e) (inside-more m.last y e lt w)

    pub field_value-related : (a b : FieldTree) → FieldsRelated X a b → (e : List ℕ) → AreInside m.last e → SameFields m.last (field_value a m e) (field_value b m e)
    field_value-related _ _ (r.field_here a b x) e w = keeps (t.of_field a) (t.of_field b) x e w
    field_value-related _ _ (r.free_field x) e w = fields-same m.last (m.field x)
    field_value-related _ _ (r.update a a' b b' c c' h0 h1 h2) e w = updated-same m.last (field_value a m e) (field_value a' m e) (term_value b m e) (term_value b' m e) (datum c m e) (datum c' m e) (field_value-related a a' h0 e w) (term_value-related b b' h1 e w) (datum-related c c' h2 e w)

    pub datum-related : (a b : ValueTree) → ValuesRelated X a b → (e : List ℕ) → AreInside m.last e → SameIn m.last (datum a m e) (datum b m e)
    datum-related _ _ (r.of_object a a' h0) e w = term_value-related a a' h0 e w
    datum-related _ _ (r.of_number a a' h0) e w = int_value-related a a' h0 e w
    datum-related _ _ (r.of_truth a a' h0) e w = truth-related a a' h0 e w
    datum-related _ _ (r.of_set a a' h0) e w = set_value-related a a' h0 e w
    datum-related _ _ (r.of_field a a' h0) e w = field_value-related a a' h0 e w

    pub truth-related : (a b : FormulaTree) → FormulasRelated X a b → (e : List ℕ) → AreInside m.last e → truth a m e ≡ truth b m e
    truth-related _ _ (r.formula_here a b x) e w = keeps (t.of_truth a) (t.of_truth b) x e w
    truth-related _ _ r.true_formula e w = refl
    truth-related _ _ r.false_formula e w = refl
    truth-related _ _ (r.free_truth x) e w = refl
    truth-related _ _ (r.read_truth a a' b b' h0 h1) e w = λ i. (field_value-related a a' h0 e w).truths i (term_value-related b b' h1 e w i)
    truth-related _ _ (r.negation a a' h0) e w = λ i. not (truth-related a a' h0 e w i)
    truth-related _ _ (r.and a a' b b' h0 h1) e w = λ i. truth-related a a' h0 e w i && truth-related b b' h1 e w i
    truth-related _ _ (r.or a a' b b' h0 h1) e w = λ i. truth-related a a' h0 e w i || truth-related b b' h1 e w i
    truth-related _ _ (r.implies a a' b b' h0 h1) e w = λ i. not (truth-related a a' h0 e w i) || truth-related b b' h1 e w i
    truth-related _ _ (r.iff a a' b b' h0 h1) e w = λ i. agree (truth-related a a' h0 e w i) (truth-related b b' h1 e w i)
    truth-related _ _ (r.all a a' h0) e w = every-same m.last (λ x. truth a m (x ∷ e)) (λ x. truth a' m (x ∷ e)) (λ x lt. truth-related a a' h0 (x ∷ e) (inside-more m.last x e lt w))
    truth-related _ _ (r.ex a a' h0) e w = some-same m.last (λ x. truth a m (x ∷ e)) (λ x. truth a' m (x ∷ e)) (λ x lt. truth-related a a' h0 (x ∷ e) (inside-more m.last x e lt w))
    truth-related _ _ (r.eq_object a a' b b' h0 h1) e w = λ i. term_value-related a a' h0 e w i == term_value-related b b' h1 e w i
    truth-related _ _ (r.eq_number a a' b b' h0 h1) e w = λ i. int_eq (int_value-related a a' h0 e w i) (int_value-related b b' h1 e w i)
    truth-related _ _ (r.eq_set a a' b b' h0 h1) e w = every-same m.last (λ x. agree (set_value a m e x) (set_value b m e x)) (λ x. agree (set_value a' m e x) (set_value b' m e x)) (λ x lt i. agree (set_value-related a a' h0 e w x lt i) (set_value-related b b' h1 e w x lt i))
    truth-related _ _ (r.less a a' b b' h0 h1) e w = λ i. int_lt (int_value-related a a' h0 e w i) (int_value-related b b' h1 e w i)
    truth-related _ _ (r.less_equal a a' b b' h0 h1) e w = λ i. int_le (int_value-related a a' h0 e w i) (int_value-related b b' h1 e w i)
    truth-related _ _ (r.divides z a a' h1) e w = λ i. divides_number z (int_value-related a a' h1 e w i)
    truth-related _ _ (r.member a a' b b' h0 h1) e w = set_value-related b b' h1 e w (term_value a m e) (term_inside m universe e w a) ∙ ap (set_value b' m e) (term_value-related a a' h0 e w)
    truth-related _ _ (r.subset a a' b b' h0 h1) e w = every-same m.last (λ x. not (set_value a m e x) || set_value b m e x) (λ x. not (set_value a' m e x) || set_value b' m e x) (λ x lt i. not (set_value-related a a' h0 e w x lt i) || set_value-related b b' h1 e w x lt i)
    truth-related _ _ (r.reach fs fs' a a' b b' h0 h1 h2) e w = reaches-same m.last (fields_value fs m e) (fields_value fs' m e) (fields_value-related fs fs' h0 e w) (term_value a m e) (term_value b m e) ∙ (λ i. reaches m.last (fields_value fs' m e) (term_value-related a a' h1 e w i) (term_value-related b b' h2 e w i))
    truth-related _ _ (r.tree fs fs' h0) e w = forest-same m.last (fields_value fs m e) (fields_value fs' m e) (fields_value-related fs fs' h0 e w)
    truth-related _ _ (r.mark k a a' h1) e w = truth-related a a' h1 e w

    pub fields_value-related : (a b : FieldTrees) → ListsRelated X a b → (e : List ℕ) → AreInside m.last e → AllSame m.last (fields_value a m e) (fields_value b m e)
    fields_value-related _ _ r.none e w = tt
    fields_value-related _ _ (r.more f f' fs fs' h0 h1) e w = (field_value-related f f' h0 e w, fields_value-related fs fs' h1 e w)

pub exchange-keeps : ExchangeKeepsMeaning
exchange-keeps a b old new x closed closed' m universe same e inside =
    truth-related (λ u v. (u ≡ old) × (v ≡ new)) m universe
    (λ u v p g w.
    let left : datum old m [] ≡ datum u m g = datum-closed old m 0 [] g (λ k lt. absurd (omega arith)) closed ∙ ap (λ z. datum z m g) (sym p.0) in
    let right : datum new m [] ≡ datum v m g = datum-closed new m 0 [] g (λ k lt. absurd (omega arith)) closed' ∙ ap (λ z. datum z m g) (sym p.1) in
    subst (λ (d : Datum). SameIn m.last d (datum v m g)) left (subst (λ (d : Datum). SameIn m.last (datum old m []) d) right same))
    a b x e inside
