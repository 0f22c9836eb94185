-- A tree that is made anew by a sound rule stands for the old one.
use Rattle.std.proofs.Common.{◌≡◌, refl, sym, ap, ◌∙◌, ℕ, zero, suc, ◌==◌, Bool, true, false, not, ◌&&◌, ◌||◌, List, ◌∷◌, pos, ◌+ℤ◌, ◌-ℤ◌, ◌*ℤ◌, neg_ℤ, int_lt, int_le}
use Rattle.std.proofs.lemmas.Bool.{true≢false}
use Rattle.std.specs.Ordering.{int_eq}
use Rattle.jh_form.specs.Tree.{TermTree, IntTree, SetTree, FieldTree, ValueTree, FormulaTree, FieldTrees}
use Rattle.jh_form.specs.Tree as t
use Rattle.jh_form.specs.Meaning.{an_object, a_number, a_truth, a_set, a_field, Interp, all_below, any_below, count_below, every, agree, divides_number, updated, reaches, is_forest, term_value, int_value, set_value, field_value, datum, truth, fields_value}
use Rattle.jh_form.proofs.ClosedLemmas.{both-left, both-right}
use Rattle.jh_normal_forms.specs.declared.rebuilding.polarity.Polarity.{Polarity}
use Rattle.jh_normal_forms.specs.declared.rebuilding.polarity.Polarity.TheVariants as pol
use Rattle.jh_normal_forms.specs.rebuilding.Built.{turned, Rule, built_term, built_int, built_set, built_field, built_value, built_formula, built_fields}
use Rattle.jh_normal_forms.specs.rebuilding.Sound.{StandsIn, Sound}

in-same : (s : Polarity) (p q : Bool) → p ≡ q → StandsIn s p q
in-same pol.Positive p q e = λ h. sym e ∙ h
in-same pol.Negative p q e = λ h. e ∙ h
in-same pol.Both p q e = e

in-trans : (s : Polarity) (p q w : Bool) → StandsIn s p q → StandsIn s q w → StandsIn s p w
in-trans pol.Positive p q w f g = λ h. g (f h)
in-trans pol.Negative p q w f g = λ h. f (g h)
in-trans pol.Both p q w f g = f ∙ g

not-less : (p q : Bool) → (q ≡ true → p ≡ true) → not p ≡ true → not q ≡ true
not-less true q f h = absurd (true≢false (sym h))
not-less false true f h = absurd (true≢false (sym (f refl)))
not-less false false f h = refl

in-not : (s : Polarity) (p q : Bool) → StandsIn (turned s) p q → StandsIn s (not p) (not q)
unfolding turned
in-not pol.Positive p q f = not-less p q f
in-not pol.Negative p q f = not-less q p f
in-not pol.Both p q f = ap not f

and-less : (p q u v : Bool) → (p ≡ true → q ≡ true) → (u ≡ true → v ≡ true) → (p && u) ≡ true → (q && v) ≡ true
and-less p q u v f g h = λ i. f (both-left p u h) i && g (both-right p u h) i

or-less : (p q u v : Bool) → (p ≡ true → q ≡ true) → (u ≡ true → v ≡ true) → (p || u) ≡ true → (q || v) ≡ true
or-less true q u v f g h = λ i. f refl i || v
or-less false true u v f g h = refl
or-less false false u v f g h = g h

in-and : (s : Polarity) (p q u v : Bool) → StandsIn s p q → StandsIn s u v → StandsIn s (p && u) (q && v)
in-and pol.Positive p q u v f g = and-less p q u v f g
in-and pol.Negative p q u v f g = and-less q p v u f g
in-and pol.Both p q u v f g = λ i. f i && g i

in-or : (s : Polarity) (p q u v : Bool) → StandsIn s p q → StandsIn s u v → StandsIn s (p || u) (q || v)
in-or pol.Positive p q u v f g = or-less p q u v f g
in-or pol.Negative p q u v f g = or-less q p v u f g
in-or pol.Both p q u v f g = λ i. f i || g i

in-all : (s : Polarity) (n : ℕ) (f g : ℕ → Bool) → ((x : ℕ) → StandsIn s (f x) (g x)) → StandsIn s (all_below n f) (all_below n g)
in-all s zero f g h = in-same s true true refl
in-all s (suc n) f g h = in-and s (all_below n f) (all_below n g) (f n) (g n) (in-all s n f g h) (h n)

in-any : (s : Polarity) (n : ℕ) (f g : ℕ → Bool) → ((x : ℕ) → StandsIn s (f x) (g x)) → StandsIn s (any_below n f) (any_below n g)
in-any s zero f g h = in-same s false false refl
in-any s (suc n) f g h = in-or s (any_below n f) (any_below n g) (f n) (g n) (in-any s n f g h) (h n)

module _ (r : Rule) (sound : Sound r) where
  mutual
    unfolding built_term built_int built_set built_field built_value built_formula built_fields

    pub term_value-built : (a : TermTree) (m : Interp) (e : List ℕ) → term_value (built_term a r) m e ≡ term_value a m e
    term_value-built (t.bound k) m e = sound.object (t.bound k) m e
    term_value-built (t.free_object x) m e = sound.object (t.free_object x) m e
    term_value-built t.null m e = sound.object t.null m e
    term_value-built (t.read_object a b) m e = sound.object (t.read_object (built_field a r) (built_term b r)) m e ∙ (λ i. (field_value-built a m e i).objects (term_value-built b m e i))

    pub int_value-built : (a : IntTree) (m : Interp) (e : List ℕ) → int_value (built_int a r) m e ≡ int_value a m e
    int_value-built (t.const z) m e = sound.number (t.const z) m e
    int_value-built (t.free_number x) m e = sound.number (t.free_number x) m e
    int_value-built (t.read_number a b) m e = sound.number (t.read_number (built_field a r) (built_term b r)) m e ∙ (λ i. (field_value-built a m e i).numbers (term_value-built b m e i))
    int_value-built (t.add a b) m e = sound.number (t.add (built_int a r) (built_int b r)) m e ∙ (λ i. int_value-built a m e i +ℤ int_value-built b m e i)
    int_value-built (t.sub a b) m e = sound.number (t.sub (built_int a r) (built_int b r)) m e ∙ (λ i. int_value-built a m e i -ℤ int_value-built b m e i)
    int_value-built (t.neg a) m e = sound.number (t.neg (built_int a r)) m e ∙ (λ i. neg_ℤ (int_value-built a m e i))
    int_value-built (t.scale z a) m e = sound.number (t.scale z (built_int a r)) m e ∙ (λ i. z *ℤ int_value-built a m e i)
    int_value-built (t.card a) m e = sound.number (t.card (built_set a r)) m e ∙ (λ i. pos (count_below (suc m.last) (set_value-built a m e i)))

    pub set_value-built : (a : SetTree) (m : Interp) (e : List ℕ) → set_value (built_set a r) m e ≡ set_value a m e
    set_value-built (t.free_set x) m e = sound.set (t.free_set x) m e
    set_value-built (t.read_set a b) m e = sound.set (t.read_set (built_field a r) (built_term b r)) m e ∙ (λ i. (field_value-built a m e i).sets (term_value-built b m e i))
    set_value-built t.empty m e = sound.set t.empty m e
    set_value-built t.univ m e = sound.set t.univ m e
    set_value-built (t.single a) m e = sound.set (t.single (built_term a r)) m e ∙ (λ i. λ x. x == term_value-built a m e i)
    set_value-built (t.union a b) m e = sound.set (t.union (built_set a r) (built_set b r)) m e ∙ (λ i. λ x. set_value-built a m e i x || set_value-built b m e i x)
    set_value-built (t.inter a b) m e = sound.set (t.inter (built_set a r) (built_set b r)) m e ∙ (λ i. λ x. set_value-built a m e i x && set_value-built b m e i x)
    set_value-built (t.diff a b) m e = sound.set (t.diff (built_set a r) (built_set b r)) m e ∙ (λ i. λ x. set_value-built a m e i x && not (set_value-built b m e i x))
    set_value-built (t.compl a) m e = sound.set (t.compl (built_set a r)) m e ∙ (λ i. λ x. not (set_value-built a m e i x))
    set_value-built (t.compr a) m e = sound.set (t.compr (built_formula a r pol.Both)) m e ∙ (λ i. λ x. truth-built a pol.Both m (x ∷ e) i)

    pub field_value-built : (a : FieldTree) (m : Interp) (e : List ℕ) → field_value (built_field a r) m e ≡ field_value a m e
    field_value-built (t.free_field x) m e = sound.field (t.free_field x) m e
    field_value-built (t.update a b c) m e = sound.field (t.update (built_field a r) (built_term b r) (built_value c r)) m e ∙ (λ i. updated (field_value-built a m e i) (term_value-built b m e i) (datum-built c m e i))

    pub datum-built : (a : ValueTree) (m : Interp) (e : List ℕ) → datum (built_value a r) m e ≡ datum a m e
    datum-built (t.of_object a) m e = λ i. an_object (term_value-built a m e i)
    datum-built (t.of_number a) m e = λ i. a_number (int_value-built a m e i)
    datum-built (t.of_truth a) m e = λ i. a_truth (truth-built a pol.Both m e i)
    datum-built (t.of_set a) m e = λ i. a_set (set_value-built a m e i)
    datum-built (t.of_field a) m e = λ i. a_field (field_value-built a m e i)

    pub truth-built : (a : FormulaTree) (s : Polarity) (m : Interp) (e : List ℕ) → StandsIn s (truth (built_formula a r s) m e) (truth a m e)
    truth-built t.true_formula s m e = sound.truth t.true_formula s m e
    truth-built t.false_formula s m e = sound.truth t.false_formula s m e
    truth-built (t.free_truth x) s m e = sound.truth (t.free_truth x) s m e
    truth-built (t.read_truth a b) s m e = in-trans s (truth (r.truth (t.read_truth (built_field a r) (built_term b r)) s) m e) (truth (t.read_truth (built_field a r) (built_term b r)) m e) (truth (t.read_truth a b) m e) (sound.truth (t.read_truth (built_field a r) (built_term b r)) s m e) (in-same s (truth (t.read_truth (built_field a r) (built_term b r)) m e) (truth (t.read_truth a b) m e) (λ i. (field_value-built a m e i).truths (term_value-built b m e i)))
    truth-built (t.negation a) s m e = in-trans s (truth (r.truth (t.negation (built_formula a r (turned s))) s) m e) (truth (t.negation (built_formula a r (turned s))) m e) (truth (t.negation a) m e) (sound.truth (t.negation (built_formula a r (turned s))) s m e) (in-not s (truth (built_formula a r (turned s)) m e) (truth a m e) (truth-built a (turned s) m e))
    truth-built (t.and a b) s m e = in-trans s (truth (r.truth (t.and (built_formula a r s) (built_formula b r s)) s) m e) (truth (t.and (built_formula a r s) (built_formula b r s)) m e) (truth (t.and a b) m e) (sound.truth (t.and (built_formula a r s) (built_formula b r s)) s m e) (in-and s (truth (built_formula a r s) m e) (truth a m e) (truth (built_formula b r s) m e) (truth b m e) (truth-built a s m e) (truth-built b s m e))
    truth-built (t.or a b) s m e = in-trans s (truth (r.truth (t.or (built_formula a r s) (built_formula b r s)) s) m e) (truth (t.or (built_formula a r s) (built_formula b r s)) m e) (truth (t.or a b) m e) (sound.truth (t.or (built_formula a r s) (built_formula b r s)) s m e) (in-or s (truth (built_formula a r s) m e) (truth a m e) (truth (built_formula b r s) m e) (truth b m e) (truth-built a s m e) (truth-built b s m e))
    truth-built (t.implies a b) s m e = in-trans s (truth (r.truth (t.implies (built_formula a r (turned s)) (built_formula b r s)) s) m e) (truth (t.implies (built_formula a r (turned s)) (built_formula b r s)) m e) (truth (t.implies a b) m e) (sound.truth (t.implies (built_formula a r (turned s)) (built_formula b r s)) s m e) (in-or s (not (truth (built_formula a r (turned s)) m e)) (not (truth a m e)) (truth (built_formula b r s) m e) (truth b m e) (in-not s (truth (built_formula a r (turned s)) m e) (truth a m e) (truth-built a (turned s) m e)) (truth-built b s m e))
    truth-built (t.iff a b) s m e = in-trans s (truth (r.truth (t.iff (built_formula a r pol.Both) (built_formula b r pol.Both)) s) m e) (truth (t.iff (built_formula a r pol.Both) (built_formula b r pol.Both)) m e) (truth (t.iff a b) m e) (sound.truth (t.iff (built_formula a r pol.Both) (built_formula b r pol.Both)) s m e) (in-same s (truth (t.iff (built_formula a r pol.Both) (built_formula b r pol.Both)) m e) (truth (t.iff a b) m e) (λ i. agree (truth-built a pol.Both m e i) (truth-built b pol.Both m e i)))
    truth-built (t.all a) s m e = in-trans s (truth (r.truth (t.all (built_formula a r s)) s) m e) (truth (t.all (built_formula a r s)) m e) (truth (t.all a) m e) (sound.truth (t.all (built_formula a r s)) s m e) (in-all s (suc m.last) (λ x. truth (built_formula a r s) m (x ∷ e)) (λ x. truth a m (x ∷ e)) (λ x. truth-built a s m (x ∷ e)))
    truth-built (t.ex a) s m e = in-trans s (truth (r.truth (t.ex (built_formula a r s)) s) m e) (truth (t.ex (built_formula a r s)) m e) (truth (t.ex a) m e) (sound.truth (t.ex (built_formula a r s)) s m e) (in-any s (suc m.last) (λ x. truth (built_formula a r s) m (x ∷ e)) (λ x. truth a m (x ∷ e)) (λ x. truth-built a s m (x ∷ e)))
    truth-built (t.eq_object a b) s m e = in-trans s (truth (r.truth (t.eq_object (built_term a r) (built_term b r)) s) m e) (truth (t.eq_object (built_term a r) (built_term b r)) m e) (truth (t.eq_object a b) m e) (sound.truth (t.eq_object (built_term a r) (built_term b r)) s m e) (in-same s (truth (t.eq_object (built_term a r) (built_term b r)) m e) (truth (t.eq_object a b) m e) (λ i. term_value-built a m e i == term_value-built b m e i))
    truth-built (t.eq_number a b) s m e = in-trans s (truth (r.truth (t.eq_number (built_int a r) (built_int b r)) s) m e) (truth (t.eq_number (built_int a r) (built_int b r)) m e) (truth (t.eq_number a b) m e) (sound.truth (t.eq_number (built_int a r) (built_int b r)) s m e) (in-same s (truth (t.eq_number (built_int a r) (built_int b r)) m e) (truth (t.eq_number a b) m e) (λ i. int_eq (int_value-built a m e i) (int_value-built b m e i)))
    truth-built (t.eq_set a b) s m e = in-trans s (truth (r.truth (t.eq_set (built_set a r) (built_set b r)) s) m e) (truth (t.eq_set (built_set a r) (built_set b r)) m e) (truth (t.eq_set a b) m e) (sound.truth (t.eq_set (built_set a r) (built_set b r)) s m e) (in-same s (truth (t.eq_set (built_set a r) (built_set b r)) m e) (truth (t.eq_set a b) m e) (λ i. every m.last (λ x. agree (set_value-built a m e i x) (set_value-built b m e i x))))
    truth-built (t.less a b) s m e = in-trans s (truth (r.truth (t.less (built_int a r) (built_int b r)) s) m e) (truth (t.less (built_int a r) (built_int b r)) m e) (truth (t.less a b) m e) (sound.truth (t.less (built_int a r) (built_int b r)) s m e) (in-same s (truth (t.less (built_int a r) (built_int b r)) m e) (truth (t.less a b) m e) (λ i. int_lt (int_value-built a m e i) (int_value-built b m e i)))
    truth-built (t.less_equal a b) s m e = in-trans s (truth (r.truth (t.less_equal (built_int a r) (built_int b r)) s) m e) (truth (t.less_equal (built_int a r) (built_int b r)) m e) (truth (t.less_equal a b) m e) (sound.truth (t.less_equal (built_int a r) (built_int b r)) s m e) (in-same s (truth (t.less_equal (built_int a r) (built_int b r)) m e) (truth (t.less_equal a b) m e) (λ i. int_le (int_value-built a m e i) (int_value-built b m e i)))
    truth-built (t.divides z a) s m e = in-trans s (truth (r.truth (t.divides z (built_int a r)) s) m e) (truth (t.divides z (built_int a r)) m e) (truth (t.divides z a) m e) (sound.truth (t.divides z (built_int a r)) s m e) (in-same s (truth (t.divides z (built_int a r)) m e) (truth (t.divides z a) m e) (λ i. divides_number z (int_value-built a m e i)))
    truth-built (t.member a b) s m e = in-trans s (truth (r.truth (t.member (built_term a r) (built_set b r)) s) m e) (truth (t.member (built_term a r) (built_set b r)) m e) (truth (t.member a b) m e) (sound.truth (t.member (built_term a r) (built_set b r)) s m e) (in-same s (truth (t.member (built_term a r) (built_set b r)) m e) (truth (t.member a b) m e) (λ i. set_value-built b m e i (term_value-built a m e i)))
    truth-built (t.subset a b) s m e = in-trans s (truth (r.truth (t.subset (built_set a r) (built_set b r)) s) m e) (truth (t.subset (built_set a r) (built_set b r)) m e) (truth (t.subset a b) m e) (sound.truth (t.subset (built_set a r) (built_set b r)) s m e) (in-same s (truth (t.subset (built_set a r) (built_set b r)) m e) (truth (t.subset a b) m e) (λ i. every m.last (λ x. not (set_value-built a m e i x) || set_value-built b m e i x)))
    truth-built (t.reach fs a b) s m e = in-trans s (truth (r.truth (t.reach (built_fields fs r) (built_term a r) (built_term b r)) s) m e) (truth (t.reach (built_fields fs r) (built_term a r) (built_term b r)) m e) (truth (t.reach fs a b) m e) (sound.truth (t.reach (built_fields fs r) (built_term a r) (built_term b r)) s m e) (in-same s (truth (t.reach (built_fields fs r) (built_term a r) (built_term b r)) m e) (truth (t.reach fs a b) m e) (λ i. reaches m.last (fields_value-built fs m e i) (term_value-built a m e i) (term_value-built b m e i)))
    truth-built (t.tree fs) s m e = in-trans s (truth (r.truth (t.tree (built_fields fs r)) s) m e) (truth (t.tree (built_fields fs r)) m e) (truth (t.tree fs) m e) (sound.truth (t.tree (built_fields fs r)) s m e) (in-same s (truth (t.tree (built_fields fs r)) m e) (truth (t.tree fs) m e) (λ i. is_forest m.last (fields_value-built fs m e i)))
    truth-built (t.mark k a) s m e = in-trans s (truth (r.truth (t.mark k (built_formula a r s)) s) m e) (truth (t.mark k (built_formula a r s)) m e) (truth (t.mark k a) m e) (sound.truth (t.mark k (built_formula a r s)) s m e) (truth-built a s m e)

    pub fields_value-built : (a : FieldTrees) (m : Interp) (e : List ℕ) → fields_value (built_fields a r) m e ≡ fields_value a m e
    fields_value-built t.none m e = refl
    fields_value-built (t.more f fs) m e = λ i. field_value-built f m e i ∷ fields_value-built fs m e i
