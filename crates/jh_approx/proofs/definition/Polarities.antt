-- What is shown of a formula says no more than the formula where it is a hypothesis, and no less where it is the goal.
use Rattle.std.proofs.Common.{◌≡◌, refl, sym, ap, ◌∙◌, Bool, true, false, not, ◌&&◌, ◌||◌, if◌then◌else◌, []}
use Rattle.std.proofs.lemmas.Bool.{true≢false}
use Rattle.jh_form.specs.Tree.{FormulaTree}
use Rattle.jh_form.specs.Tree as t
use Rattle.jh_form.specs.Meaning.{Interp, truth, agree}
use Rattle.jh_query.specs.queries.Named.{is_divisor}
use Rattle.jh_approx.specs.definition.Shown.{replacement, negation_of, and_before, and_of, or_before, or_of, implies_before, implies_of, iff_before, iff_of, is_sayable, shown}
use Rattle.jh_approx.proofs.definition.Counts.{first, second, not-true}
use Rattle.jh_approx.proofs.definition.Tellings.{IsTold}

-- ---- connectives of which True and False are folded away say what the connectives do

and_true : (p : Bool) → p ≡ (p && true)
and_true true = refl
and_true false = refl

and_false : (p : Bool) → false ≡ (p && false)
and_false true = refl
and_false false = refl

or_true : (p : Bool) → true ≡ (p || true)
or_true true = refl
or_true false = refl

or_false : (p : Bool) → p ≡ (p || false)
or_false true = refl
or_false false = refl

agree_true : (p : Bool) → p ≡ agree p true
agree_true true = refl
agree_true false = refl

agree_false : (p : Bool) → not p ≡ agree p false
agree_false true = refl
agree_false false = refl

module _ (m : Interp) where
  negation-says : (a : FormulaTree) → truth (negation_of a) m [] ≡ not (truth a m [])
  unfolding negation_of
  negation-says t.true_formula = refl
  negation-says t.false_formula = refl
  negation-says a = refl

  and-before-says : (a b : FormulaTree) → truth (and_before a b) m [] ≡ (truth a m [] && truth b m [])
  unfolding and_before
  and-before-says a t.true_formula = and_true (truth a m [])
  and-before-says a t.false_formula = and_false (truth a m [])
  and-before-says a b = refl

  and-says : (a b : FormulaTree) → truth (and_of a b) m [] ≡ (truth a m [] && truth b m [])
  unfolding and_of
  and-says t.true_formula b = refl
  and-says t.false_formula b = refl
  and-says a b = and-before-says a b

  or-before-says : (a b : FormulaTree) → truth (or_before a b) m [] ≡ (truth a m [] || truth b m [])
  unfolding or_before
  or-before-says a t.true_formula = or_true (truth a m [])
  or-before-says a t.false_formula = or_false (truth a m [])
  or-before-says a b = refl

  or-says : (a b : FormulaTree) → truth (or_of a b) m [] ≡ (truth a m [] || truth b m [])
  unfolding or_of
  or-says t.true_formula b = refl
  or-says t.false_formula b = refl
  or-says a b = or-before-says a b

  implies-before-says : (a b : FormulaTree) → truth (implies_before a b) m [] ≡ (not (truth a m []) || truth b m [])
  unfolding implies_before
  implies-before-says a t.true_formula = or_true (not (truth a m []))
  implies-before-says a t.false_formula = negation-says a ∙ or_false (not (truth a m []))
  implies-before-says a b = refl

  implies-says : (a b : FormulaTree) → truth (implies_of a b) m [] ≡ (not (truth a m []) || truth b m [])
  unfolding implies_of
  implies-says t.true_formula b = refl
  implies-says t.false_formula b = refl
  implies-says a b = implies-before-says a b

  iff-before-says : (a b : FormulaTree) → truth (iff_before a b) m [] ≡ agree (truth a m []) (truth b m [])
  unfolding iff_before
  iff-before-says a t.true_formula = agree_true (truth a m [])
  iff-before-says a t.false_formula = negation-says a ∙ agree_false (truth a m [])
  iff-before-says a b = refl

  iff-says : (a b : FormulaTree) → truth (iff_of a b) m [] ≡ agree (truth a m []) (truth b m [])
  unfolding iff_of
  iff-says t.true_formula b = refl
  iff-says t.false_formula b = negation-says b
  iff-says a b = iff-before-says a b

  -- ---- by polarity

  -- the second is true where the first is
  abbrev Gives : Bool → Bool → Type 0
  Gives p q = p ≡ true → q ≡ true

  same-gives : (p q : Bool) → p ≡ q → Gives p q
  same-gives p q e h = sym e ∙ h

  back-gives : (p q : Bool) → p ≡ q → Gives q p
  back-gives p q e h = e ∙ h

  not-gives : (p q : Bool) → Gives p q → Gives (not q) (not p)
  not-gives true q h k = absurd (true≢false (sym (h refl) ∙ not-true q k))
  not-gives false q h k = refl

  and-gives : (p q r s : Bool) → Gives p r → Gives q s → Gives (p && q) (r && s)
  and-gives p q r s h k e = λ i. h (first p q e) i && k (second p q e) i

  or-gives : (p q r s : Bool) → Gives p r → Gives q s → Gives (p || q) (r || s)
  or-gives true q r s h k e = λ i. h refl i || s
  or-gives false q r s h k e = (λ i. r || k e i) ∙ sym (or_true r)

  implies-gives : (p q r s : Bool) → Gives r p → Gives q s → Gives (not p || q) (not r || s)
  implies-gives p q r s h k = or-gives (not p) q (not r) s (not-gives r p h) k

  -- an equivalence is two implications
  agree_is : (p q : Bool) → agree p q ≡ ((not p || q) && (not q || p))
  agree_is true true = refl
  agree_is true false = refl
  agree_is false true = refl
  agree_is false false = refl

  -- what is said of a formula that a query can say is the formula
  pub sayable-same : (a : FormulaTree) (s : Bool) → is_sayable a ≡ true → truth (shown a s) m [] ≡ truth a m []
  unfolding shown is_sayable
  sayable-same t.true_formula s h = refl
  sayable-same t.false_formula s h = refl
  sayable-same (t.free_truth x) s h = refl
  sayable-same (t.read_truth f b) s h = refl
  sayable-same (t.negation a) s h = negation-says (shown a (not s)) ∙ ap not (sayable-same a (not s) h)
  sayable-same (t.and a b) s h = and-says (shown a s) (shown b s) ∙ (λ i. sayable-same a s (first (is_sayable a) (is_sayable b) h) i && sayable-same b s (second (is_sayable a) (is_sayable b) h) i)
  sayable-same (t.or a b) s h = or-says (shown a s) (shown b s) ∙ (λ i. sayable-same a s (first (is_sayable a) (is_sayable b) h) i || sayable-same b s (second (is_sayable a) (is_sayable b) h) i)
  sayable-same (t.implies a b) s h = implies-says (shown a (not s)) (shown b s) ∙ (λ i. not (sayable-same a (not s) (first (is_sayable a) (is_sayable b) h) i) || sayable-same b s (second (is_sayable a) (is_sayable b) h) i)
  sayable-same (t.iff a b) s h =
      ap (λ c. truth (if c then iff_of (shown a s) (shown b s) else and_of (implies_of (shown a (not s)) (shown b s)) (implies_of (shown b (not s)) (shown a s))) m []) h
      ∙ iff-says (shown a s) (shown b s) ∙ (λ i. agree (sayable-same a s (first (is_sayable a) (is_sayable b) h) i) (sayable-same b s (second (is_sayable a) (is_sayable b) h) i))
  sayable-same (t.mark k a) s h = sayable-same a s h
  sayable-same (t.all a) s h = absurd (true≢false (sym h))
  sayable-same (t.ex a) s h = absurd (true≢false (sym h))
  sayable-same (t.reach fs a b) s h = absurd (true≢false (sym h))
  sayable-same (t.tree fs) s h = absurd (true≢false (sym h))
  sayable-same (t.divides z a) s h = ap (λ c. truth (if c then t.divides z a else replacement s) m []) h
  sayable-same (t.eq_object a b) s h = refl
  sayable-same (t.eq_number a b) s h = refl
  sayable-same (t.eq_set a b) s h = refl
  sayable-same (t.less a b) s h = refl
  sayable-same (t.less_equal a b) s h = refl
  sayable-same (t.member a b) s h = refl
  sayable-same (t.subset a b) s h = refl

  -- the two implications of an equivalence
  turns : FormulaTree → FormulaTree → Bool → FormulaTree
  unfolding shown
  turns a b s = and_of (implies_of (shown a (not s)) (shown b s)) (implies_of (shown b (not s)) (shown a s))

  turns-say : (a b : FormulaTree) (s : Bool) → truth (turns a b s) m [] ≡ ((not (truth (shown a (not s)) m []) || truth (shown b s) m []) && (not (truth (shown b (not s)) m []) || truth (shown a s) m []))
  unfolding turns
  turns-say a b s = and-says (implies_of (shown a (not s)) (shown b s)) (implies_of (shown b (not s)) (shown a s)) ∙ (λ i. implies-says (shown a (not s)) (shown b s) i && implies-says (shown b (not s)) (shown a s) i)

  iff-cases : (P : FormulaTree → Type 0) (c : Bool) (a b : FormulaTree) → (c ≡ true → P a) → (c ≡ false → P b) → P (if c then a else b)
  iff-cases P true a b h k = h refl
  iff-cases P false a b h k = k refl

  mutual
    unfolding shown turns

    -- where what is shown of the goal is true, the goal is
    pub goal-true : (a : FormulaTree) → Gives (truth (shown a true) m []) (truth a m [])
    goal-true t.true_formula h = h
    goal-true t.false_formula h = h
    goal-true (t.free_truth x) h = h
    goal-true (t.read_truth f b) h = h
    goal-true (t.negation a) h = not-gives (truth a m []) (truth (shown a false) m []) (fact-true a) (sym (negation-says (shown a false)) ∙ h)
    goal-true (t.and a b) h = and-gives (truth (shown a true) m []) (truth (shown b true) m []) (truth a m []) (truth b m []) (goal-true a) (goal-true b) (sym (and-says (shown a true) (shown b true)) ∙ h)
    goal-true (t.or a b) h = or-gives (truth (shown a true) m []) (truth (shown b true) m []) (truth a m []) (truth b m []) (goal-true a) (goal-true b) (sym (or-says (shown a true) (shown b true)) ∙ h)
    goal-true (t.implies a b) h = implies-gives (truth (shown a false) m []) (truth (shown b true) m []) (truth a m []) (truth b m []) (fact-true a) (goal-true b) (sym (implies-says (shown a false) (shown b true)) ∙ h)
    goal-true (t.iff a b) h =
        iff-cases (λ c. truth c m [] ≡ true → truth (t.iff a b) m [] ≡ true) (is_sayable a && is_sayable b) (iff_of (shown a true) (shown b true)) (turns a b true)
        (λ e k. sym (λ i. agree (sayable-same a true (first (is_sayable a) (is_sayable b) e) i) (sayable-same b true (second (is_sayable a) (is_sayable b) e) i)) ∙ sym (iff-says (shown a true) (shown b true)) ∙ k)
        (λ e k. agree_is (truth a m []) (truth b m []) ∙ and-gives _ _ (not (truth a m []) || truth b m []) (not (truth b m []) || truth a m [])
        (implies-gives (truth (shown a false) m []) (truth (shown b true) m []) (truth a m []) (truth b m []) (fact-true a) (goal-true b))
        (implies-gives (truth (shown b false) m []) (truth (shown a true) m []) (truth b m []) (truth a m []) (fact-true b) (goal-true a))
        (sym (turns-say a b true) ∙ k))
        h
    goal-true (t.mark k a) h = goal-true a h
    goal-true (t.all a) h = absurd (true≢false (sym h))
    goal-true (t.ex a) h = absurd (true≢false (sym h))
    goal-true (t.reach fs a b) h = absurd (true≢false (sym h))
    goal-true (t.tree fs) h = absurd (true≢false (sym h))
    goal-true (t.divides z a) h = iff-cases (λ c. truth c m [] ≡ true → truth (t.divides z a) m [] ≡ true) (is_divisor z) (t.divides z a) t.false_formula (λ e k. k) (λ e k. absurd (true≢false (sym k))) h
    goal-true (t.eq_object a b) h = h
    goal-true (t.eq_number a b) h = h
    goal-true (t.eq_set a b) h = h
    goal-true (t.less a b) h = h
    goal-true (t.less_equal a b) h = h
    goal-true (t.member a b) h = h
    goal-true (t.subset a b) h = h

    -- what is shown of a hypothesis is true where the hypothesis is
    pub fact-true : (a : FormulaTree) → Gives (truth a m []) (truth (shown a false) m [])
    fact-true t.true_formula h = h
    fact-true t.false_formula h = h
    fact-true (t.free_truth x) h = h
    fact-true (t.read_truth f b) h = h
    fact-true (t.negation a) h = negation-says (shown a true) ∙ not-gives (truth (shown a true) m []) (truth a m []) (goal-true a) h
    fact-true (t.and a b) h = and-says (shown a false) (shown b false) ∙ and-gives (truth a m []) (truth b m []) (truth (shown a false) m []) (truth (shown b false) m []) (fact-true a) (fact-true b) h
    fact-true (t.or a b) h = or-says (shown a false) (shown b false) ∙ or-gives (truth a m []) (truth b m []) (truth (shown a false) m []) (truth (shown b false) m []) (fact-true a) (fact-true b) h
    fact-true (t.implies a b) h = implies-says (shown a true) (shown b false) ∙ implies-gives (truth a m []) (truth b m []) (truth (shown a true) m []) (truth (shown b false) m []) (goal-true a) (fact-true b) h
    fact-true (t.iff a b) h =
        iff-cases (λ c. truth c m [] ≡ true) (is_sayable a && is_sayable b) (iff_of (shown a false) (shown b false)) (turns a b false)
        (λ e. iff-says (shown a false) (shown b false) ∙ (λ i. agree (sayable-same a false (first (is_sayable a) (is_sayable b) e) i) (sayable-same b false (second (is_sayable a) (is_sayable b) e) i)) ∙ h)
        (λ e. turns-say a b false ∙ and-gives (not (truth a m []) || truth b m []) (not (truth b m []) || truth a m []) _ _
        (implies-gives (truth a m []) (truth b m []) (truth (shown a true) m []) (truth (shown b false) m []) (goal-true a) (fact-true b))
        (implies-gives (truth b m []) (truth a m []) (truth (shown b true) m []) (truth (shown a false) m []) (goal-true b) (fact-true a))
        (sym (agree_is (truth a m []) (truth b m [])) ∙ h))
    fact-true (t.mark k a) h = fact-true a h
    fact-true (t.all a) h = refl
    fact-true (t.ex a) h = refl
    fact-true (t.reach fs a b) h = refl
    fact-true (t.tree fs) h = refl
    fact-true (t.divides z a) h = iff-cases (λ c. truth c m [] ≡ true) (is_divisor z) (t.divides z a) t.true_formula (λ e. h) (λ e. refl)
    fact-true (t.eq_object a b) h = h
    fact-true (t.eq_number a b) h = h
    fact-true (t.eq_set a b) h = h
    fact-true (t.less a b) h = h
    fact-true (t.less_equal a b) h = h
    fact-true (t.member a b) h = h
    fact-true (t.subset a b) h = h

-- ---- a query can say what is shown

negation-told : (a : FormulaTree) → IsTold a → IsTold (negation_of a)
unfolding negation_of
negation-told t.true_formula h = h
negation-told t.false_formula h = h
negation-told a h = h

and-before-told : (a b : FormulaTree) → IsTold a → IsTold b → IsTold (and_before a b)
unfolding and_before
and-before-told a t.true_formula h k = h
and-before-told a t.false_formula h k = k
and-before-told a b h k = (h, k)

and-told : (a b : FormulaTree) → IsTold a → IsTold b → IsTold (and_of a b)
unfolding and_of
and-told t.true_formula b h k = k
and-told t.false_formula b h k = h
and-told a b h k = and-before-told a b h k

or-before-told : (a b : FormulaTree) → IsTold a → IsTold b → IsTold (or_before a b)
unfolding or_before
or-before-told a t.true_formula h k = k
or-before-told a t.false_formula h k = h
or-before-told a b h k = (h, k)

or-told : (a b : FormulaTree) → IsTold a → IsTold b → IsTold (or_of a b)
unfolding or_of
or-told t.true_formula b h k = h
or-told t.false_formula b h k = k
or-told a b h k = or-before-told a b h k

implies-before-told : (a b : FormulaTree) → IsTold a → IsTold b → IsTold (implies_before a b)
unfolding implies_before
implies-before-told a t.true_formula h k = k
implies-before-told a t.false_formula h k = negation-told a h
implies-before-told a b h k = (h, k)

implies-told : (a b : FormulaTree) → IsTold a → IsTold b → IsTold (implies_of a b)
unfolding implies_of
implies-told t.true_formula b h k = k
implies-told t.false_formula b h k = h
implies-told a b h k = implies-before-told a b h k

iff-before-told : (a b : FormulaTree) → IsTold a → IsTold b → IsTold (iff_before a b)
unfolding iff_before
iff-before-told a t.true_formula h k = h
iff-before-told a t.false_formula h k = negation-told a h
iff-before-told a b h k = (h, k)

iff-told : (a b : FormulaTree) → IsTold a → IsTold b → IsTold (iff_of a b)
unfolding iff_of
iff-told t.true_formula b h k = k
iff-told t.false_formula b h k = negation-told b k
iff-told a b h k = iff-before-told a b h k

replacement-told : (s : Bool) → IsTold (replacement s)
replacement-told true = tt
replacement-told false = tt

chosen : (P : FormulaTree → Type 0) (c : Bool) (a b : FormulaTree) → (c ≡ true → P a) → P b → P (if c then a else b)
chosen P true a b h k = h refl
chosen P false a b h k = k

pub shown-told : (a : FormulaTree) (s : Bool) → IsTold (shown a s)
unfolding shown
shown-told t.true_formula s = tt
shown-told t.false_formula s = tt
shown-told (t.free_truth x) s = tt
shown-told (t.read_truth f b) s = tt
shown-told (t.negation a) s = negation-told (shown a (not s)) (shown-told a (not s))
shown-told (t.and a b) s = and-told (shown a s) (shown b s) (shown-told a s) (shown-told b s)
shown-told (t.or a b) s = or-told (shown a s) (shown b s) (shown-told a s) (shown-told b s)
shown-told (t.implies a b) s = implies-told (shown a (not s)) (shown b s) (shown-told a (not s)) (shown-told b s)
shown-told (t.iff a b) s =
    chosen IsTold (is_sayable a && is_sayable b) (iff_of (shown a s) (shown b s)) (and_of (implies_of (shown a (not s)) (shown b s)) (implies_of (shown b (not s)) (shown a s)))
    (λ e. iff-told (shown a s) (shown b s) (shown-told a s) (shown-told b s))
    (and-told (implies_of (shown a (not s)) (shown b s)) (implies_of (shown b (not s)) (shown a s))
    (implies-told (shown a (not s)) (shown b s) (shown-told a (not s)) (shown-told b s))
    (implies-told (shown b (not s)) (shown a s) (shown-told b (not s)) (shown-told a s)))
shown-told (t.mark k a) s = shown-told a s
shown-told (t.all a) s = replacement-told s
shown-told (t.ex a) s = replacement-told s
shown-told (t.reach fs a b) s = replacement-told s
shown-told (t.tree fs) s = replacement-told s
shown-told (t.divides z a) s = chosen IsTold (is_divisor z) (t.divides z a) (replacement s) (λ e. e) (replacement-told s)
shown-told (t.eq_object a b) s = tt
shown-told (t.eq_number a b) s = tt
shown-told (t.eq_set a b) s = tt
shown-told (t.less a b) s = tt
shown-told (t.less_equal a b) s = tt
shown-told (t.member a b) s = tt
shown-told (t.subset a b) s = tt
