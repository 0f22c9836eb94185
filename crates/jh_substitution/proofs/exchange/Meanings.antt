-- Written by tools/exchange.py.
-- Exchanging parts for others of the same value keeps the meaning, whatever the objects of the binders that are passed on the way.
use Rattle.std.proofs.Common.{◌≡◌, refl, sym, ap, subst, ◌∙◌, ℕ, zero, suc, ◌<◌, ◌+◌, ◌==◌, not, ◌&&◌, ◌||◌, Bool, true, false, if◌then◌else◌, Option, Some, None, List, [], ◌∷◌, drop, pos, ◌+ℤ◌, ◌-ℤ◌, ◌*ℤ◌, neg_ℤ, int_lt, int_le, add-one, arith}
use Rattle.std.specs.Ordering.{int_eq}
use Rattle.jh_form.specs.Tree.{TermTree, IntTree, SetTree, FieldTree, ValueTree, FormulaTree, FieldTrees}
use Rattle.jh_form.specs.Tree as t
use Rattle.jh_form.specs.Meaning.{Datum, Interp, InUniverse, agree, divides_number, reaches, term_value, int_value, set_value, field_value, datum, truth, fields_value}
use Rattle.jh_form.proofs.Universes.{term_inside}
use Rattle.jh_boxed_operations.specs.comparison.Exchanged.{equal_trees}
use Rattle.jh_boxed_operations.specs.comparison.Inside.{SameMembers, SameFields, SameIn, AreInside}
use Rattle.jh_boxed_operations.proofs.comparison.Equalities.{equal_trees-true}
use Rattle.jh_boxed_operations.proofs.comparison.Insides.{AllSame, fields-same, updated-same, count-same, every-same, some-same, reaches-same, forest-same}
use Rattle.jh_substitution.specs.rewriting.Exchanging.{new_for}
use Rattle.jh_substitution.specs.rewriting.Rewritten.{Rewriting, object_or, number_or, set_or, field_or, truth_or, rewritten_term, rewritten_int, rewritten_set, rewritten_field, rewritten_value, rewritten_formula, rewritten_fields}
use Rattle.jh_substitution.specs.exchange.Under.{raised, new_at, exchanging_under}
use Rattle.jh_substitution.proofs.exchange.Liftings.{raised-means}

-- what stands for a part is the new value, and the part the old one
chosen-pair : (old new v w : ValueTree) (b : Bool) → equal_trees v old ≡ b → (if b then Some new else None) ≡ Some w → (v ≡ old) × (w ≡ new)
chosen-pair old new v w true is q = (equal_trees-true v old is, cc)
chosen-pair old new v w false is q = absurd (cc)

pair-of : (old new v w : ValueTree) → new_for old new v ≡ Some w → (v ≡ old) × (w ≡ new)
pair-of old new v w q = chosen-pair old new v w (equal_trees v old) refl q

-- one more object of the universe
pub inside-more : (n x : ℕ) (e : List ℕ) → x < suc n → AreInside n e → AreInside n (x ∷ e)
inside-more n x e lt w zero = lt
inside-more n x e lt w (suc k) = w k

-- the objects behind the first d, and all of the universe
abbrev Beyond : Interp → List ℕ → ℕ → List ℕ → Type 0
Beyond m e0 d e = (drop d e ≡ e0) × AreInside m.last e

deeper : (m : Interp) (e0 : List ℕ) (d x : ℕ) (e : List ℕ) → x < suc m.last → Beyond m e0 d e → Beyond m e0 (d + 1) (x ∷ e)
deeper m e0 d x e lt h = (ap (λ k. drop k (x ∷ e)) (add-one d) ∙ h.0, inside-more m.last x e lt h.1)

module _ (m : Interp) (e : List ℕ) where
  object-by : (o : Option ValueTree) (a b : TermTree) → ((w : ValueTree) → o ≡ Some w → SameIn m.last (datum (t.of_object a) m e) (datum w m e)) → term_value a m e ≡ term_value b m e → term_value a m e ≡ term_value (object_or o b) m e
  unfolding object_or
  object-by (Some (t.of_object x)) a b h k = h (t.of_object x) refl
  object-by _ a b h k = k

  number-by : (o : Option ValueTree) (a b : IntTree) → ((w : ValueTree) → o ≡ Some w → SameIn m.last (datum (t.of_number a) m e) (datum w m e)) → int_value a m e ≡ int_value b m e → int_value a m e ≡ int_value (number_or o b) m e
  unfolding number_or
  number-by (Some (t.of_number x)) a b h k = h (t.of_number x) refl
  number-by _ a b h k = k

  set-by : (o : Option ValueTree) (a b : SetTree) → ((w : ValueTree) → o ≡ Some w → SameIn m.last (datum (t.of_set a) m e) (datum w m e)) → SameMembers m.last (set_value a m e) (set_value b m e) → SameMembers m.last (set_value a m e) (set_value (set_or o b) m e)
  unfolding set_or
  set-by (Some (t.of_set x)) a b h k = h (t.of_set x) refl
  set-by _ a b h k = k

  field-by : (o : Option ValueTree) (a b : FieldTree) → ((w : ValueTree) → o ≡ Some w → SameIn m.last (datum (t.of_field a) m e) (datum w m e)) → SameFields m.last (field_value a m e) (field_value b m e) → SameFields m.last (field_value a m e) (field_value (field_or o b) m e)
  unfolding field_or
  field-by (Some (t.of_field x)) a b h k = h (t.of_field x) refl
  field-by _ a b h k = k

  truth-by : (o : Option ValueTree) (a b : FormulaTree) → ((w : ValueTree) → o ≡ Some w → SameIn m.last (datum (t.of_truth a) m e) (datum w m e)) → truth a m e ≡ truth b m e → truth a m e ≡ truth (truth_or o b) m e
  unfolding truth_or
  truth-by (Some (t.of_truth x)) a b h k = h (t.of_truth x) refl
  truth-by _ a b h k = k

module _ (old new : ValueTree) (m : Interp) (universe : InUniverse m) (e0 : List ℕ) (same : SameIn m.last (datum old m e0) (datum new m e0)) where
  keeps : (d : ℕ) (e : List ℕ) → Beyond m e0 d e → SameIn m.last (datum (raised d old) m e) (datum (raised d new) m e)
  keeps d e h =
      let left : datum old m e0 ≡ datum (raised d old) m e = ap (datum old m) (sym h.0) ∙ sym (raised-means d old m e) in
      let right : datum new m e0 ≡ datum (raised d new) m e = ap (datum new m) (sym h.0) ∙ sym (raised-means d new m e) in
      subst (λ (x : Datum). SameIn m.last x (datum (raised d new) m e)) left (subst (λ (x : Datum). SameIn m.last (datum old m e0) x) right same)

  here : (d : ℕ) (e : List ℕ) → Beyond m e0 d e → (v w : ValueTree) → new_at old new d v ≡ Some w → SameIn m.last (datum v m e) (datum w m e)
  here d e h v w q =
      let p = pair-of (raised d old) (raised d new) v w q in
      subst (λ (z : ValueTree). SameIn m.last (datum z m e) (datum w m e)) (sym p.0) (subst (λ (z : ValueTree). SameIn m.last (datum (raised d old) m e) (datum z m e)) (sym p.1) (keeps d e h))

  abbrev X : Rewriting
  X = exchanging_under old new

  mutual
    unfolding rewritten_term rewritten_int rewritten_set rewritten_field rewritten_value rewritten_formula rewritten_fields

    pub term_value-under : (a : TermTree) (d : ℕ) (e : List ℕ) → Beyond m e0 d e → term_value a m e ≡ term_value (rewritten_term a X d) m e
    term_value-under (t.bound k) d e h = object-by m e (new_at old new d (t.of_object (t.bound k))) (t.bound k) (t.bound k) (here d e h (t.of_object (t.bound k))) (refl)
    term_value-under (t.free_object x) d e h = object-by m e (new_at old new d (t.of_object (t.free_object x))) (t.free_object x) (t.free_object x) (here d e h (t.of_object (t.free_object x))) (refl)
    term_value-under t.null d e h = object-by m e (new_at old new d (t.of_object t.null)) t.null t.null (here d e h (t.of_object t.null)) (refl)
    term_value-under (t.read_object a b) d e h = object-by m e (new_at old new d (t.of_object (t.read_object a b))) (t.read_object a b) (t.read_object (rewritten_field a X d) (rewritten_term b X d)) (here d e h (t.of_object (t.read_object a b))) (λ i. (field_value-under a d e h).objects i (term_value-under b d e h i))

    pub int_value-under : (a : IntTree) (d : ℕ) (e : List ℕ) → Beyond m e0 d e → int_value a m e ≡ int_value (rewritten_int a X d) m e
    int_value-under (t.const z) d e h = number-by m e (new_at old new d (t.of_number (t.const z))) (t.const z) (t.const z) (here d e h (t.of_number (t.const z))) (refl)
    int_value-under (t.free_number x) d e h = number-by m e (new_at old new d (t.of_number (t.free_number x))) (t.free_number x) (t.free_number x) (here d e h (t.of_number (t.free_number x))) (refl)
    int_value-under (t.read_number a b) d e h = number-by m e (new_at old new d (t.of_number (t.read_number a b))) (t.read_number a b) (t.read_number (rewritten_field a X d) (rewritten_term b X d)) (here d e h (t.of_number (t.read_number a b))) (λ i. (field_value-under a d e h).numbers i (term_value-under b d e h i))
    int_value-under (t.add a b) d e h = number-by m e (new_at old new d (t.of_number (t.add a b))) (t.add a b) (t.add (rewritten_int a X d) (rewritten_int b X d)) (here d e h (t.of_number (t.add a b))) (λ i. int_value-under a d e h i +ℤ int_value-under b d e h i)
    int_value-under (t.sub a b) d e h = number-by m e (new_at old new d (t.of_number (t.sub a b))) (t.sub a b) (t.sub (rewritten_int a X d) (rewritten_int b X d)) (here d e h (t.of_number (t.sub a b))) (λ i. int_value-under a d e h i -ℤ int_value-under b d e h i)
    int_value-under (t.neg a) d e h = number-by m e (new_at old new d (t.of_number (t.neg a))) (t.neg a) (t.neg (rewritten_int a X d)) (here d e h (t.of_number (t.neg a))) (λ i. neg_ℤ (int_value-under a d e h i))
    int_value-under (t.scale z a) d e h = number-by m e (new_at old new d (t.of_number (t.scale z a))) (t.scale z a) (t.scale z (rewritten_int a X d)) (here d e h (t.of_number (t.scale z a))) (λ i. z *ℤ int_value-under a d e h i)
    int_value-under (t.card a) d e h = number-by m e (new_at old new d (t.of_number (t.card a))) (t.card a) (t.card (rewritten_set a X d)) (here d e h (t.of_number (t.card a))) (ap pos (count-same m.last (set_value a m e) (set_value (rewritten_set a X d) m e) (set_value-under a d e h)))

    pub set_value-under : (a : SetTree) (d : ℕ) (e : List ℕ) → Beyond m e0 d e → SameMembers m.last (set_value a m e) (set_value (rewritten_set a X d) m e)
    set_value-under (t.free_set x) d e h = set-by m e (new_at old new d (t.of_set (t.free_set x))) (t.free_set x) (t.free_set x) (here d e h (t.of_set (t.free_set x))) (λ y lt. refl)
    set_value-under (t.read_set a b) d e h = set-by m e (new_at old new d (t.of_set (t.read_set a b))) (t.read_set a b) (t.read_set (rewritten_field a X d) (rewritten_term b X d)) (here d e h (t.of_set (t.read_set a b))) (λ y lt. (field_value-under a d e h).sets (term_value b m e) y lt ∙ (λ i. (field_value (rewritten_field a X d) m e).sets (term_value-under b d e h i) y))
    set_value-under t.empty d e h = set-by m e (new_at old new d (t.of_set t.empty)) t.empty t.empty (here d e h (t.of_set t.empty)) (λ y lt. refl)
    set_value-under t.univ d e h = set-by m e (new_at old new d (t.of_set t.univ)) t.univ t.univ (here d e h (t.of_set t.univ)) (λ y lt. refl)
    set_value-under (t.single a) d e h = set-by m e (new_at old new d (t.of_set (t.single a))) (t.single a) (t.single (rewritten_term a X d)) (here d e h (t.of_set (t.single a))) (λ y lt i. y == term_value-under a d e h i)
    set_value-under (t.union a b) d e h = set-by m e (new_at old new d (t.of_set (t.union a b))) (t.union a b) (t.union (rewritten_set a X d) (rewritten_set b X d)) (here d e h (t.of_set (t.union a b))) (λ y lt i. (set_value-under a d e h y lt i) || (set_value-under b d e h y lt i))
    set_value-under (t.inter a b) d e h = set-by m e (new_at old new d (t.of_set (t.inter a b))) (t.inter a b) (t.inter (rewritten_set a X d) (rewritten_set b X d)) (here d e h (t.of_set (t.inter a b))) (λ y lt i. (set_value-under a d e h y lt i) && (set_value-under b d e h y lt i))
    set_value-under (t.diff a b) d e h = set-by m e (new_at old new d (t.of_set (t.diff a b))) (t.diff a b) (t.diff (rewritten_set a X d) (rewritten_set b X d)) (here d e h (t.of_set (t.diff a b))) (λ y lt i. (set_value-under a d e h y lt i) && not ((set_value-under b d e h y lt i)))
    set_value-under (t.compl a) d e h = set-by m e (new_at old new d (t.of_set (t.compl a))) (t.compl a) (t.compl (rewritten_set a X d)) (here d e h (t.of_set (t.compl a))) (λ y lt i. not ((set_value-under a d e h y lt i)))
    set_value-under (t.compr a) d e h = set-by m e (new_at old new d (t.of_set (t.compr a))) (t.compr a) (t.compr (rewritten_formula a X (d + 1))) (here d e h (t.of_set (t.compr a))) (λ y lt. truth-under a (d + 1) (y ∷ e) (deeper m e0 d y e lt h))

    pub field_value-under : (a : FieldTree) (d : ℕ) (e : List ℕ) → Beyond m e0 d e → SameFields m.last (field_value a m e) (field_value (rewritten_field a X d) m e)
    field_value-under (t.free_field x) d e h = field-by m e (new_at old new d (t.of_field (t.free_field x))) (t.free_field x) (t.free_field x) (here d e h (t.of_field (t.free_field x))) (fields-same m.last (m.field x))
    field_value-under (t.update a b c) d e h = field-by m e (new_at old new d (t.of_field (t.update a b c))) (t.update a b c) (t.update (rewritten_field a X d) (rewritten_term b X d) (rewritten_value c X d)) (here d e h (t.of_field (t.update a b c))) (updated-same m.last (field_value a m e) (field_value (rewritten_field a X d) m e) (term_value b m e) (term_value (rewritten_term b X d) m e) (datum c m e) (datum (rewritten_value c X d) m e) (field_value-under a d e h) (term_value-under b d e h) (datum-under c d e h))

    pub datum-under : (a : ValueTree) (d : ℕ) (e : List ℕ) → Beyond m e0 d e → SameIn m.last (datum a m e) (datum (rewritten_value a X d) m e)
    datum-under (t.of_object a) d e h = term_value-under a d e h
    datum-under (t.of_number a) d e h = int_value-under a d e h
    datum-under (t.of_truth a) d e h = truth-under a d e h
    datum-under (t.of_set a) d e h = set_value-under a d e h
    datum-under (t.of_field a) d e h = field_value-under a d e h

    pub truth-under : (a : FormulaTree) (d : ℕ) (e : List ℕ) → Beyond m e0 d e → truth a m e ≡ truth (rewritten_formula a X d) m e
    truth-under t.true_formula d e h = truth-by m e (new_at old new d (t.of_truth t.true_formula)) t.true_formula t.true_formula (here d e h (t.of_truth t.true_formula)) (refl)
    truth-under t.false_formula d e h = truth-by m e (new_at old new d (t.of_truth t.false_formula)) t.false_formula t.false_formula (here d e h (t.of_truth t.false_formula)) (refl)
    truth-under (t.free_truth x) d e h = truth-by m e (new_at old new d (t.of_truth (t.free_truth x))) (t.free_truth x) (t.free_truth x) (here d e h (t.of_truth (t.free_truth x))) (refl)
    truth-under (t.read_truth a b) d e h = truth-by m e (new_at old new d (t.of_truth (t.read_truth a b))) (t.read_truth a b) (t.read_truth (rewritten_field a X d) (rewritten_term b X d)) (here d e h (t.of_truth (t.read_truth a b))) (λ i. (field_value-under a d e h).truths i (term_value-under b d e h i))
    truth-under (t.negation a) d e h = truth-by m e (new_at old new d (t.of_truth (t.negation a))) (t.negation a) (t.negation (rewritten_formula a X d)) (here d e h (t.of_truth (t.negation a))) (λ i. not (truth-under a d e h i))
    truth-under (t.and a b) d e h = truth-by m e (new_at old new d (t.of_truth (t.and a b))) (t.and a b) (t.and (rewritten_formula a X d) (rewritten_formula b X d)) (here d e h (t.of_truth (t.and a b))) (λ i. truth-under a d e h i && truth-under b d e h i)
    truth-under (t.or a b) d e h = truth-by m e (new_at old new d (t.of_truth (t.or a b))) (t.or a b) (t.or (rewritten_formula a X d) (rewritten_formula b X d)) (here d e h (t.of_truth (t.or a b))) (λ i. truth-under a d e h i || truth-under b d e h i)
    truth-under (t.implies a b) d e h = truth-by m e (new_at old new d (t.of_truth (t.implies a b))) (t.implies a b) (t.implies (rewritten_formula a X d) (rewritten_formula b X d)) (here d e h (t.of_truth (t.implies a b))) (λ i. not (truth-under a d e h i) || truth-under b d e h i)
    truth-under (t.iff a b) d e h = truth-by m e (new_at old new d (t.of_truth (t.iff a b))) (t.iff a b) (t.iff (rewritten_formula a X d) (rewritten_formula b X d)) (here d e h (t.of_truth (t.iff a b))) (λ i. agree (truth-under a d e h i) (truth-under b d e h i))
    truth-under (t.all a) d e h = truth-by m e (new_at old new d (t.of_truth (t.all a))) (t.all a) (t.all (rewritten_formula a X (d + 1))) (here d e h (t.of_truth (t.all a))) (every-same m.last (λ x. truth a m (x ∷ e)) (λ x. truth (rewritten_formula a X (d + 1)) m (x ∷ e)) (λ x lt. truth-under a (d + 1) (x ∷ e) (deeper m e0 d x e lt h)))
    truth-under (t.ex a) d e h = truth-by m e (new_at old new d (t.of_truth (t.ex a))) (t.ex a) (t.ex (rewritten_formula a X (d + 1))) (here d e h (t.of_truth (t.ex a))) (some-same m.last (λ x. truth a m (x ∷ e)) (λ x. truth (rewritten_formula a X (d + 1)) m (x ∷ e)) (λ x lt. truth-under a (d + 1) (x ∷ e) (deeper m e0 d x e lt h)))
    truth-under (t.eq_object a b) d e h = truth-by m e (new_at old new d (t.of_truth (t.eq_object a b))) (t.eq_object a b) (t.eq_object (rewritten_term a X d) (rewritten_term b X d)) (here d e h (t.of_truth (t.eq_object a b))) (λ i. term_value-under a d e h i == term_value-under b d e h i)
    truth-under (t.eq_number a b) d e h = truth-by m e (new_at old new d (t.of_truth (t.eq_number a b))) (t.eq_number a b) (t.eq_number (rewritten_int a X d) (rewritten_int b X d)) (here d e h (t.of_truth (t.eq_number a b))) (λ i. int_eq (int_value-under a d e h i) (int_value-under b d e h i))
    truth-under (t.eq_set a b) d e h = truth-by m e (new_at old new d (t.of_truth (t.eq_set a b))) (t.eq_set a b) (t.eq_set (rewritten_set a X d) (rewritten_set b X d)) (here d e h (t.of_truth (t.eq_set a b))) (every-same m.last (λ x. agree (set_value a m e x) (set_value b m e x)) (λ x. agree (set_value (rewritten_set a X d) m e x) (set_value (rewritten_set b X d) m e x)) (λ x lt i. agree (set_value-under a d e h x lt i) (set_value-under b d e h x lt i)))
    truth-under (t.less a b) d e h = truth-by m e (new_at old new d (t.of_truth (t.less a b))) (t.less a b) (t.less (rewritten_int a X d) (rewritten_int b X d)) (here d e h (t.of_truth (t.less a b))) (λ i. int_lt (int_value-under a d e h i) (int_value-under b d e h i))
    truth-under (t.less_equal a b) d e h = truth-by m e (new_at old new d (t.of_truth (t.less_equal a b))) (t.less_equal a b) (t.less_equal (rewritten_int a X d) (rewritten_int b X d)) (here d e h (t.of_truth (t.less_equal a b))) (λ i. int_le (int_value-under a d e h i) (int_value-under b d e h i))
    truth-under (t.divides z a) d e h = truth-by m e (new_at old new d (t.of_truth (t.divides z a))) (t.divides z a) (t.divides z (rewritten_int a X d)) (here d e h (t.of_truth (t.divides z a))) (λ i. divides_number z (int_value-under a d e h i))
    truth-under (t.member a b) d e h = truth-by m e (new_at old new d (t.of_truth (t.member a b))) (t.member a b) (t.member (rewritten_term a X d) (rewritten_set b X d)) (here d e h (t.of_truth (t.member a b))) (set_value-under b d e h (term_value a m e) (term_inside m universe e h.1 a) ∙ ap (set_value (rewritten_set b X d) m e) (term_value-under a d e h))
    truth-under (t.subset a b) d e h = truth-by m e (new_at old new d (t.of_truth (t.subset a b))) (t.subset a b) (t.subset (rewritten_set a X d) (rewritten_set b X d)) (here d e h (t.of_truth (t.subset a b))) (every-same m.last (λ x. not (set_value a m e x) || set_value b m e x) (λ x. not (set_value (rewritten_set a X d) m e x) || set_value (rewritten_set b X d) m e x) (λ x lt i. not (set_value-under a d e h x lt i) || set_value-under b d e h x lt i))
    truth-under (t.reach fs a b) d e h = truth-by m e (new_at old new d (t.of_truth (t.reach fs a b))) (t.reach fs a b) (t.reach (rewritten_fields fs X d) (rewritten_term a X d) (rewritten_term b X d)) (here d e h (t.of_truth (t.reach fs a b))) (reaches-same m.last (fields_value fs m e) (fields_value (rewritten_fields fs X d) m e) (fields_value-under fs d e h) (term_value a m e) (term_value b m e) ∙ (λ i. reaches m.last (fields_value (rewritten_fields fs X d) m e) (term_value-under a d e h i) (term_value-under b d e h i)))
    truth-under (t.tree fs) d e h = truth-by m e (new_at old new d (t.of_truth (t.tree fs))) (t.tree fs) (t.tree (rewritten_fields fs X d)) (here d e h (t.of_truth (t.tree fs))) (forest-same m.last (fields_value fs m e) (fields_value (rewritten_fields fs X d) m e) (fields_value-under fs d e h))
    truth-under (t.mark k a) d e h = truth-by m e (new_at old new d (t.of_truth (t.mark k a))) (t.mark k a) (t.mark k (rewritten_formula a X d)) (here d e h (t.of_truth (t.mark k a))) (truth-under a d e h)

    pub fields_value-under : (a : FieldTrees) (d : ℕ) (e : List ℕ) → Beyond m e0 d e → AllSame m.last (fields_value a m e) (fields_value (rewritten_fields a X d) m e)
    fields_value-under t.none d e h = tt
    fields_value-under (t.more f fs) d e h = (field_value-under f d e h, fields_value-under fs d e h)
