-- What the formulas that steps add mean: a negation one level in, what an update gives, a relation of sets opened.
use Rattle.std.proofs.Common.{◌≡◌, refl, sym, ap, ◌∙◌, ℕ, ◌==◌, Bool, true, false, not, ◌&&◌, ◌||◌, if◌then◌else◌, List, [], ◌∷◌, Option, Some, None, arith}
use Rattle.std.proofs.lemmas.Bool.{eq-eqb}
use Rattle.jh_form.specs.Tree.{TermTree, IntTree, SetTree, FieldTree, ValueTree, FormulaTree}
use Rattle.jh_form.specs.Tree as t
use Rattle.jh_form.specs.Closed.{is_closed_term, is_closed_set, is_closed_formula}
use Rattle.jh_form.specs.Meaning.{Interp, agree, every, term_value, int_value, set_value, field_value, truth}
use Rattle.jh_form.proofs.ClosedLemmas.{AgreeBelow, both-left, both-right, set_value-closed}
use Rattle.jh_seq.proofs.of_jh_boxed_operations.substitution.Openings.{truth-opened}
use Rattle.jh_derivation_rules.specs.Rules.{pushed, at_each, described, member_opened, relation_opened, negated, fact_opened}
use Rattle.jh_derivation_rules.proofs.Truths.{not-not, not-and, not-or, not-implies, not-agree, not-every, not-some, by-cases, every-made, agree-same}
use Rattle.jh_derivation_rules.proofs.Equations.{HoldsIf, int-eq-same}

pub pushed-true : (m : Interp) (a : FormulaTree) → not (truth a m []) ≡ true → HoldsIf m (pushed a)
unfolding pushed
pushed-true m (t.negation a) h = sym (not-not (truth a m [])) ∙ h
pushed-true m (t.and a b) h = sym (not-and (truth a m []) (truth b m [])) ∙ h
pushed-true m (t.or a b) h = sym (not-or (truth a m []) (truth b m [])) ∙ h
pushed-true m (t.implies a b) h = sym (not-implies (truth a m []) (truth b m [])) ∙ h
pushed-true m (t.iff a b) h = sym (not-agree (truth a m []) (truth b m [])) ∙ h
pushed-true m (t.all a) h = sym (not-every m.last (λ x. truth a m (x ∷ []))) ∙ h
pushed-true m (t.ex a) h = sym (not-some m.last (λ x. truth a m (x ∷ []))) ∙ h
pushed-true m t.true_formula h = h
pushed-true m t.false_formula h = refl
pushed-true m _ h = tt

-- a value that is chosen by a condition, where the condition is known
chosen : {X : Type 0} (v w : X) (c : Bool) → c ≡ true → (if c then v else w) ≡ v
chosen v w c e = λ i. if e i then v else w

other : {X : Type 0} (v w : X) (c : Bool) → c ≡ false → (if c then v else w) ≡ w
other v w c e = λ i. if e i then v else w

-- it is enough to look at each object
each-true : (m : Interp) (a : TermTree) (this that : FormulaTree) →
    ((x : ℕ) → (x == term_value a m (x ∷ [])) ≡ true → truth this m (x ∷ []) ≡ true) →
    ((x : ℕ) → (x == term_value a m (x ∷ [])) ≡ false → truth that m (x ∷ []) ≡ true) → truth (at_each a this that) m [] ≡ true
each-true m a this that h k =
    every-made m.last
    (λ x. (not (x == term_value a m (x ∷ [])) || truth this m (x ∷ [])) && (not (not (x == term_value a m (x ∷ []))) || truth that m (x ∷ [])))
    (λ x lt. by-cases (x == term_value a m (x ∷ [])) (truth this m (x ∷ [])) (truth that m (x ∷ [])) (h x) (k x))

pub described-true : (m : Interp) (f : FieldTree) (a : TermTree) (v : ValueTree) → HoldsIf m (described (t.update f a v) f a v)
unfolding described
described-true m f a (t.of_object v) =
    each-true m a (t.eq_object (t.read_object (t.update f a (t.of_object v)) (t.bound 0)) v) (t.eq_object (t.read_object (t.update f a (t.of_object v)) (t.bound 0)) (t.read_object f (t.bound 0)))
    (λ x e. eq-eqb (if x == term_value a m (x ∷ []) then term_value v m (x ∷ []) else (field_value f m (x ∷ [])).objects x) (term_value v m (x ∷ [])) (chosen (term_value v m (x ∷ [])) ((field_value f m (x ∷ [])).objects x) (x == term_value a m (x ∷ [])) e))
    (λ x e. eq-eqb (if x == term_value a m (x ∷ []) then term_value v m (x ∷ []) else (field_value f m (x ∷ [])).objects x) ((field_value f m (x ∷ [])).objects x) (other (term_value v m (x ∷ [])) ((field_value f m (x ∷ [])).objects x) (x == term_value a m (x ∷ [])) e))
described-true m f a (t.of_number v) =
    each-true m a (t.eq_number (t.read_number (t.update f a (t.of_number v)) (t.bound 0)) v) (t.eq_number (t.read_number (t.update f a (t.of_number v)) (t.bound 0)) (t.read_number f (t.bound 0)))
    (λ x e. int-eq-same (if x == term_value a m (x ∷ []) then int_value v m (x ∷ []) else (field_value f m (x ∷ [])).numbers x) (int_value v m (x ∷ [])) (chosen (int_value v m (x ∷ [])) ((field_value f m (x ∷ [])).numbers x) (x == term_value a m (x ∷ [])) e))
    (λ x e. int-eq-same (if x == term_value a m (x ∷ []) then int_value v m (x ∷ []) else (field_value f m (x ∷ [])).numbers x) ((field_value f m (x ∷ [])).numbers x) (other (int_value v m (x ∷ [])) ((field_value f m (x ∷ [])).numbers x) (x == term_value a m (x ∷ [])) e))
described-true m f a (t.of_truth v) =
    each-true m a (t.iff (t.read_truth (t.update f a (t.of_truth v)) (t.bound 0)) v) (t.iff (t.read_truth (t.update f a (t.of_truth v)) (t.bound 0)) (t.read_truth f (t.bound 0)))
    (λ x e. agree-same (if x == term_value a m (x ∷ []) then truth v m (x ∷ []) else (field_value f m (x ∷ [])).truths x) (truth v m (x ∷ [])) (chosen (truth v m (x ∷ [])) ((field_value f m (x ∷ [])).truths x) (x == term_value a m (x ∷ [])) e))
    (λ x e. agree-same (if x == term_value a m (x ∷ []) then truth v m (x ∷ []) else (field_value f m (x ∷ [])).truths x) ((field_value f m (x ∷ [])).truths x) (other (truth v m (x ∷ [])) ((field_value f m (x ∷ [])).truths x) (x == term_value a m (x ∷ [])) e))
described-true m f a (t.of_set v) =
    each-true m a (t.eq_set (t.read_set (t.update f a (t.of_set v)) (t.bound 0)) v) (t.eq_set (t.read_set (t.update f a (t.of_set v)) (t.bound 0)) (t.read_set f (t.bound 0)))
    (λ x e. every-made m.last (λ y. agree ((if x == term_value a m (x ∷ []) then set_value v m (x ∷ []) else (field_value f m (x ∷ [])).sets x) y) (set_value v m (x ∷ []) y))
    (λ y lt. agree-same ((if x == term_value a m (x ∷ []) then set_value v m (x ∷ []) else (field_value f m (x ∷ [])).sets x) y) (set_value v m (x ∷ []) y) (λ i. chosen (set_value v m (x ∷ [])) ((field_value f m (x ∷ [])).sets x) (x == term_value a m (x ∷ [])) e i y)))
    (λ x e. every-made m.last (λ y. agree ((if x == term_value a m (x ∷ []) then set_value v m (x ∷ []) else (field_value f m (x ∷ [])).sets x) y) ((field_value f m (x ∷ [])).sets x y))
    (λ y lt. agree-same ((if x == term_value a m (x ∷ []) then set_value v m (x ∷ []) else (field_value f m (x ∷ [])).sets x) y) ((field_value f m (x ∷ [])).sets x y) (λ i. other (set_value v m (x ∷ [])) ((field_value f m (x ∷ [])).sets x) (x == term_value a m (x ∷ [])) e i y)))
described-true m f a (t.of_field v) = tt

-- where a formula is made, it means the same
abbrev MeansSame : Interp → FormulaTree → Option FormulaTree → Type 0
MeansSame m a (Some b) = truth b m [] ≡ truth a m []
MeansSame m a None = Unit {0}

none-below : (e g : List ℕ) → AgreeBelow 0 e g
none-below e g k h = absurd (omega arith)

member-same : (m : Interp) (x : TermTree) (a : SetTree) → is_closed_term x 0 ≡ true → MeansSame m (t.member x a) (member_opened x a)
unfolding member_opened
member-same m x t.empty closed = refl
member-same m x t.univ closed = refl
member-same m x (t.single a) closed = refl
member-same m x (t.union a b) closed = refl
member-same m x (t.inter a b) closed = refl
member-same m x (t.diff a b) closed = refl
member-same m x (t.compl a) closed = refl
member-same m x (t.compr a) closed = truth-opened a x closed m []
member-same m x (t.free_set y) closed = tt
member-same m x (t.read_set f a) closed = tt

pub relation-same : (m : Interp) (a : FormulaTree) → is_closed_formula a 0 ≡ true → MeansSame m a (relation_opened a)
unfolding relation_opened is_closed_formula
relation-same m (t.eq_set a b) closed = λ i. every m.last (λ x. agree
    (set_value-closed a m 0 (x ∷ []) [] (none-below (x ∷ []) []) (both-left (is_closed_set a 0) (is_closed_set b 0) closed) i x)
    (set_value-closed b m 0 (x ∷ []) [] (none-below (x ∷ []) []) (both-right (is_closed_set a 0) (is_closed_set b 0) closed) i x))
relation-same m (t.subset a b) closed = λ i. every m.last (λ x. not
    (set_value-closed a m 0 (x ∷ []) [] (none-below (x ∷ []) []) (both-left (is_closed_set a 0) (is_closed_set b 0) closed) i x) ||
    set_value-closed b m 0 (x ∷ []) [] (none-below (x ∷ []) []) (both-right (is_closed_set a 0) (is_closed_set b 0) closed) i x)
relation-same m (t.member x a) closed = member-same m x a (both-left (is_closed_term x 0) (is_closed_set a 0) closed)
relation-same m _ closed = tt

positive : (m : Interp) (a : FormulaTree) (made : Option FormulaTree) → MeansSame m a made → truth a m [] ≡ true → HoldsIf m made
positive m a (Some b) same h = same ∙ h
positive m a None same h = tt

negative : (m : Interp) (a : FormulaTree) (made : Option FormulaTree) → MeansSame m a made → not (truth a m []) ≡ true → HoldsIf m (negated made)
unfolding negated
negative m a (Some b) same h = ap not same ∙ h
negative m a None same h = tt

pub opened-true : (m : Interp) (a : FormulaTree) → is_closed_formula a 0 ≡ true → truth a m [] ≡ true → HoldsIf m (fact_opened a)
unfolding fact_opened is_closed_formula
opened-true m (t.negation a) closed h = negative m a (relation_opened a) (relation-same m a closed) h
opened-true m a closed h = positive m a (relation_opened a) (relation-same m a closed) h
