-- After the step of a field that stands in no update, no comprehension and no list, the field is read for no object.
use Rattle.std.proofs.Common.{◌≡◌, refl, sym, ap, subst, ◌∙◌, ℕ, ◌+◌, ◌-◌, ◌==◌, nat_lt, Bool, true, false, not, ◌||◌, if◌then◌else◌, List, [], ◌∷◌, ◌++◌, ◌⊎◌, inl, inr, arith}
use Rattle.std.specs.Prelude.{filter}
use Rattle.std.proofs.lemmas.Bool.{true≢false}
use Rattle.jh_name.specs.declared.naming.Name.{Name}
use Rattle.jh_form.specs.Tree.{TermTree, FieldTree, FormulaTree}
use Rattle.jh_form.specs.Tree as t
use Rattle.jh_form.specs.Passing.{formula_passes}
use Rattle.jh_form.proofs.Names.{name_equal-true}
use Rattle.jh_boxed.specs.Mapped.{unchanged, mapped_term, mapped_field, mapped_value, mapped_formula}
use Rattle.jh_boxed.proofs.Identity.{mapped_term-unchanged}
use Rattle.jh_boxed_operations.specs.comparison.Exchanged.{equal_trees}
use Rattle.jh_boxed_operations.proofs.comparison.Equalities.{equal_trees-true, equal_trees-same}
use Rattle.jh_substitution.specs.rewriting.Rewritten.{rewritten_term}
use Rattle.jh_substitution.specs.simultaneous.Lifted.{lifting}
use Rattle.jh_substitution.specs.exchange.Under.{raised, exchanging_under, varied}
use Rattle.jh_substitution.specs.instantiation.Putting.{put}
use Rattle.jh_normal_forms.specs.declared.parts.order.Order.TheVariants as order
use Rattle.jh_normal_forms.specs.parts.Standing.{formula_parts}
use Rattle.jh_fca.specs.elimination.Constraints.{Constraint, other_than, is_name}
use Rattle.jh_fca.specs.elimination.Reads.{holds_read, formula_reads}
use Rattle.jh_fca.specs.elimination.Exchanged.{said, read_at, varied_term, quantified, terms_once, exchanged, atom_exchanged, eliminated}
use Rattle.jh_fca.proofs.elimination.Readings.{Never, TermReads, FormulaReads, term-weaker, term-more}
use Rattle.jh_fca.proofs.elimination.Raisings.{never, term-mapped, formula-mapped}
use Rattle.jh_fca.proofs.elimination.Variations.{Others, term-varied, formula-varied}
use Rattle.jh_fca.proofs.elimination.Absences.{formula-apart}
use Rattle.jh_fca.proofs.elimination.Gathered.{In, AreOrdered, itself, Bare, bare-left, bare-right, or-none-left, or-none-right, is_atom, formula-held, formula-ordered, formula-bare}

-- ---- raised and put

raised-bound : (f : Name) (by k : ℕ) (below : Bool) → TermReads (if below then t.bound k else t.bound (k + by)) f false Never
raised-bound f by k true = tt
raised-bound f by k false = tt

lifted-gone : (f : Name) (by : ℕ) (a : TermTree) → TermReads a f false Never → TermReads (mapped_term a (lifting by) 0) f false Never
lifted-gone f by a h = term-mapped f (λ k d. if nat_lt k d then t.bound k else t.bound (k + by)) (λ k d. raised-bound f by k (nat_lt k d)) a false Never Never 0 never h

put-bound : (f : Name) (b : TermTree) (k d : ℕ) (below here : Bool) → TermReads b f false Never → TermReads (if below then t.bound k else (if here then mapped_term b (lifting d) 0 else t.bound (k - 1))) f false Never
put-bound f b k d true here h = tt
put-bound f b k d false true h = lifted-gone f d b h
put-bound f b k d false false h = tt

put-gone : (f : Name) (a : FormulaTree) (b : TermTree) → FormulaReads a f true Never → TermReads b f false Never → FormulaReads (put a b) f true Never
put-gone f a b h k =
    formula-mapped f (λ j d. if nat_lt j d then t.bound j else (if j == d then mapped_term b (lifting d) 0 else t.bound (j - 1))) (λ j d. put-bound f b j d (nat_lt j d) (j == d) k) a true Never Never 0 never h

-- ---- raised by nothing

lift-none : (k : ℕ) (below : Bool) → (if below then t.bound k else t.bound (k + 0)) ≡ t.bound k
lift-none k true = refl
lift-none k false = let same : k + 0 ≡ k = omega arith in ap t.bound same

raised-none : (a : TermTree) → mapped_term a (lifting 0) 0 ≡ a
raised-none a = (λ i. mapped_term a (record unchanged { bound_at = λ k d. lift-none k (nat_lt k d) i }) 0) ∙ mapped_term-unchanged a 0

-- ---- one exchange

module _ (c : Constraint) (x : TermTree) where
  abbrev f : Name
  f = c.field

  abbrev b : TermTree
  b = read_at c x

  abbrev lifted : TermTree → TermTree
  lifted a = mapped_term a (lifting 1) 0

  -- a term is the raised form of one that holds
  abbrev Raised : (TermTree → Type 0) → TermTree → Type 0
  Raised Q r = (s : TermTree) × (Q s × (r ≡ lifted s))

  name-is : (a : FieldTree) → is_name f a ≡ true → a ≡ t.free_field f
  unfolding is_name
  name-is (t.free_field y) h = ap t.free_field (name_equal-true y f h)
  name-is (t.update a d v) h = absurd (true≢false (sym h))

  met : (a : FieldTree) (r s : TermTree) → is_name f a ≡ true → r ≡ lifted s → s ≡ x → t.of_object (t.read_object a r) ≡ raised 0 (t.of_object (lifted b))
  unfolding mapped_value mapped_term mapped_field
  met a r s name e same = (λ i. t.of_object (t.read_object (name-is a name i) (e i))) ∙ (λ i. t.of_object (t.read_object (t.free_field f) (lifted (same i)))) ∙ ap t.of_object (sym (raised-none (lifted b)))

  others : (Q P : TermTree → Type 0) → ((s : TermTree) → Q s → (s ≡ x → ⊥) → P (varied_term s b)) → Others f (lifted b) (Raised Q) P 0
  unfolding varied_term mapped_value
  others Q P q a r name miss h =
      let differs : h.0 ≡ x → ⊥ = λ same. true≢false (sym (equal_trees-same (t.of_object (t.read_object a r)) (raised 0 (t.of_object (lifted b))) (met a r h.0 name h.1.1 same)) ∙ miss) in
      subst (λ (y : TermTree). P (rewritten_term y (exchanging_under (t.of_object (lifted b)) (t.of_object (t.bound 0))) 0)) (sym h.1.1) (q h.0 h.1.0 differs)

  abbrev lift_bound : ℕ → ℕ → TermTree
  lift_bound k d = if nat_lt k d then t.bound k else t.bound (k + 1)

  term-step : (a : TermTree) (Q P : TermTree → Type 0) → ((s : TermTree) → Q s → (s ≡ x → ⊥) → P (varied_term s b)) → TermReads a f true Q → TermReads (varied_term a b) f true P
  unfolding varied_term mapped_value
  term-step a Q P q h =
      term-varied f (lifted b) (lifted a) true (Raised Q) P 0 (others Q P q)
      (term-mapped f lift_bound (λ k d. raised-bound f 1 k (nat_lt k d)) a true Q (Raised Q) 0 (λ s m. (s, (m, refl))) h)

  formula-step : (a : FormulaTree) (Q P : TermTree → Type 0) → ((s : TermTree) → Q s → (s ≡ x → ⊥) → P (varied_term s b)) → FormulaReads a f true Q → FormulaReads (varied a b) f true P
  unfolding mapped_value
  formula-step a Q P q h =
      formula-varied f (lifted b) (mapped_formula a (lifting 1) 0) true (Raised Q) P 0 (others Q P q)
      (formula-mapped f lift_bound (λ k d. raised-bound f 1 k (nat_lt k d)) a true Q (Raised Q) 0 (λ s m. (s, (m, refl))) h)

  ordered-step : (more : List TermTree) (now : TermTree → TermTree) (Q P : TermTree → Type 0) → ((s : TermTree) → Q s → (s ≡ x → ⊥) → P (varied_term s b)) → AreOrdered f Q now more → AreOrdered f P (λ y. varied_term (now y) b) more
  ordered-step [] now Q P q h = tt
  ordered-step (a ∷ more) now Q P q h =
      (term-step (now a) Q P q h.0, ordered-step more now (λ s. Q s ⊎ (s ≡ now a)) (λ s. P s ⊎ (s ≡ varied_term (now a) b)) (λ s m differs. elim m [ inl k ↦ inl (q s k differs) | inr e ↦ inr (ap (λ y. varied_term y b) e) ]) h.1)

-- ---- all reads of an atom

abbrev InNow : (TermTree → TermTree) → List TermTree → TermTree → Type 0
InNow now [] s = ⊥
InNow now (a ∷ more) s = (s ≡ now a) ⊎ InNow now more s

now-in : (xs : List TermTree) (s : TermTree) → In s xs → InNow itself xs s
now-in [] s m = m
now-in (a ∷ more) s (inl e) = inl e
now-in (a ∷ more) s (inr m) = inr (now-in more s m)

in-step : (b : TermTree) (more : List TermTree) (now : TermTree → TermTree) (s : TermTree) → InNow now more s → InNow (λ y. varied_term (now y) b) more (varied_term s b)
in-step b [] now s m = m
in-step b (a ∷ more) now s (inl e) = inl (ap (λ y. varied_term y b) e)
in-step b (a ∷ more) now s (inr m) = inr (in-step b more now s m)

module _ (c : Constraint) (apart : formula_passes c.says (other_than c.field) ≡ true) where
  said-gone : (a : TermTree) → TermReads a c.field true Never → FormulaReads (said c a) c.field true Never
  said-gone a h = put-gone c.field (put c.says (t.bound 1)) (mapped_term a (lifting 1) 0) (put-gone c.field c.says (t.bound 1) (formula-apart c.field c.says true apart) tt) (lifted-gone c.field 1 a (term-weaker a c.field true false Never h))

  quantified-gone : (a : TermTree) (positive : Bool) (p : FormulaTree) → TermReads a c.field true Never → FormulaReads p c.field true Never → FormulaReads (quantified c a positive p) c.field true Never
  unfolding quantified
  quantified-gone a true p h k = (said-gone a h, k)
  quantified-gone a false p h k = (said-gone a h, k)

  exchanged-gone : (more : List TermTree) (now : TermTree → TermTree) (p : FormulaTree) (positive : Bool) → AreOrdered c.field Never now more → FormulaReads p c.field true (InNow now more) → FormulaReads (exchanged c more now p positive) c.field true Never
  unfolding exchanged
  exchanged-gone [] now p positive h k = k
  exchanged-gone (a ∷ more) now p positive h k =
      let b : TermTree = read_at c (now a) in
      quantified-gone (now a) positive (exchanged c more (λ y. varied_term (now y) b) (varied p b) positive) h.0
      (exchanged-gone more (λ y. varied_term (now y) b) (varied p b) positive
      (ordered-step c (now a) more now (λ s. Never s ⊎ (s ≡ now a)) Never (λ s m differs. elim m [ inl n ↦ absurd n | inr e ↦ absurd (differs e) ]) h.1)
      (formula-step c (now a) p (InNow now (a ∷ more)) (InNow (λ y. varied_term (now y) b) more) (λ s m differs. elim m [ inl e ↦ absurd (differs e) | inr n ↦ in-step b more now s n ]) k))

-- ---- each once

module _ (f : Name) (x : TermTree) where
  abbrev differs : TermTree → Bool
  differs y = not (equal_trees (t.of_object x) (t.of_object y))

  objects-are : (a b : TermTree) → t.of_object a ≡ t.of_object b → a ≡ b
  objects-are a b e = cc

  if-ordered : (y : TermTree) (rest gs : List TermTree) (Q P : TermTree → Type 0) (same : Bool) → equal_trees (t.of_object x) (t.of_object y) ≡ same → ((s : TermTree) → Q s → P s) → P x → TermReads y f true Q →
      (((s : TermTree) → Q s ⊎ (s ≡ y) → P s) → AreOrdered f P itself gs) → (((s : TermTree) → Q s ⊎ (s ≡ y) → P s ⊎ (s ≡ y)) → AreOrdered f (λ s. P s ⊎ (s ≡ y)) itself gs) →
      AreOrdered f P itself (if not same then y ∷ gs else gs)
  if-ordered y rest gs Q P true e q p h dropped kept = dropped (λ s m. elim m [ inl k ↦ q s k | inr k ↦ subst P (objects-are x y (equal_trees-true (t.of_object x) (t.of_object y) e) ∙ sym k) p ])
  if-ordered y rest gs Q P false e q p h dropped kept = (term-more y f true Q P q h, kept (λ s m. elim m [ inl k ↦ inl (q s k) | inr k ↦ inr k ]))

  filter-ordered : (xs : List TermTree) (Q P : TermTree → Type 0) → ((s : TermTree) → Q s → P s) → P x → AreOrdered f Q itself xs → AreOrdered f P itself (filter differs xs)
  filter-ordered [] Q P q p h = tt
  filter-ordered (y ∷ rest) Q P q p h =
      if-ordered y rest (filter differs rest) Q P (equal_trees (t.of_object x) (t.of_object y)) refl q p h.0
      (λ r. filter-ordered rest (λ s. Q s ⊎ (s ≡ y)) P r p h.1) (λ r. filter-ordered rest (λ s. Q s ⊎ (s ≡ y)) (λ s. P s ⊎ (s ≡ y)) r (inl p) h.1)

  if-in : (y s : TermTree) (gs : List TermTree) (b : Bool) → In s gs → In s (if b then y ∷ gs else gs)
  if-in y s gs true m = inr m
  if-in y s gs false m = m

  in-if : (y s : TermTree) (gs : List TermTree) (b : Bool) → b ≡ true → s ≡ y → In s (if b then y ∷ gs else gs)
  in-if y s gs true e k = inl k
  in-if y s gs false e k = absurd (true≢false (sym e))

  filter-in : (s : TermTree) (xs : List TermTree) → differs s ≡ true → In s xs → In s (filter differs xs)
  filter-in s [] d m = absurd m
  filter-in s (y ∷ rest) d (inl e) = in-if y s (filter differs rest) (differs y) (ap differs (sym e) ∙ d) e
  filter-in s (y ∷ rest) d (inr m) = if-in y s (filter differs rest) (differs y) (filter-in s rest d m)

  once-step : (s : TermTree) (gs : List TermTree) (same : Bool) → equal_trees (t.of_object x) (t.of_object s) ≡ same → In s gs → In s (x ∷ filter differs gs)
  once-step s gs true e m = inl (sym (objects-are x s (equal_trees-true (t.of_object x) (t.of_object s) e)))
  once-step s gs false e m = inr (filter-in s gs (ap not e) m)

once-ordered : (f : Name) (xs : List TermTree) (Q : TermTree → Type 0) → AreOrdered f Q itself xs → AreOrdered f Q itself (terms_once xs)
unfolding terms_once
once-ordered f [] Q h = tt
once-ordered f (x ∷ xs) Q h = (h.0, filter-ordered f x (terms_once xs) (λ s. Q s ⊎ (s ≡ x)) (λ s. Q s ⊎ (s ≡ x)) (λ s m. m) (inr refl) (once-ordered f xs (λ s. Q s ⊎ (s ≡ x)) h.1))

once-in : (f : Name) (xs : List TermTree) (s : TermTree) → In s xs → In s (terms_once xs)
unfolding terms_once
once-in f [] s m = m
once-in f (x ∷ xs) s (inl e) = inl e
once-in f (x ∷ xs) s (inr m) = once-step f x s (terms_once xs) (equal_trees (t.of_object x) (t.of_object s)) refl (once-in f xs s m)

-- ---- a formula

module _ (c : Constraint) (apart : formula_passes c.says (other_than c.field) ≡ true) where
  abbrev g : Name
  g = c.field

  abbrev IsGone : FormulaTree → Type 0
  IsGone a = FormulaReads a g true Never

  atom-gone : (p : FormulaTree) (positive : Bool) → is_atom g p ≡ true → Bare g (formula_parts p order.InnerFirst) → IsGone (atom_exchanged c p positive)
  unfolding atom_exchanged
  atom-gone p positive atom h =
      exchanged-gone c apart (terms_once (formula_reads p g)) itself p positive
      (once-ordered g (formula_reads p g) Never (formula-ordered g p atom Never h))
      (formula-held g p atom (InNow itself (terms_once (formula_reads p g))) h (λ s m. now-in (terms_once (formula_reads p g)) s (once-in g (formula_reads p g) s m)))

  iff-gone : (opened : Bool) (a b na pa nb pb : FormulaTree) → (opened ≡ false → IsGone (t.iff a b)) → IsGone na → IsGone pa → IsGone nb → IsGone pb → IsGone (if opened then t.and (t.implies na pb) (t.implies nb pa) else t.iff a b)
  iff-gone true a b na pa nb pb h i j k l = ((i, l), (k, j))
  iff-gone false a b na pa nb pb h i j k l = h refl

  unread : (a b : FormulaTree) → (holds_read g a || holds_read g b) ≡ false → Bare g (formula_parts a order.InnerFirst) → Bare g (formula_parts b order.InnerFirst) → IsGone (t.iff a b)
  unfolding holds_read
  unread a b e h k = (formula-bare g a h (or-none-left (holds_read g a) (holds_read g b) e), formula-bare g b k (or-none-right (holds_read g a) (holds_read g b) e))

  pub eliminated-gone : (a : FormulaTree) (positive : Bool) → Bare g (formula_parts a order.InnerFirst) → IsGone (eliminated c a positive)
  unfolding eliminated formula_parts is_atom
  eliminated-gone (t.negation a) s h = eliminated-gone a (not s) (bare-left g (formula_parts a order.InnerFirst) (t.of_truth (t.negation a) ∷ []) h)
  eliminated-gone (t.and a b) s h =
      let both : Bare g (formula_parts a order.InnerFirst ++ formula_parts b order.InnerFirst) = bare-left g (formula_parts a order.InnerFirst ++ formula_parts b order.InnerFirst) (t.of_truth (t.and a b) ∷ []) h in
      (eliminated-gone a s (bare-left g (formula_parts a order.InnerFirst) (formula_parts b order.InnerFirst) both), eliminated-gone b s (bare-right g (formula_parts a order.InnerFirst) (formula_parts b order.InnerFirst) both))
  eliminated-gone (t.or a b) s h =
      let both : Bare g (formula_parts a order.InnerFirst ++ formula_parts b order.InnerFirst) = bare-left g (formula_parts a order.InnerFirst ++ formula_parts b order.InnerFirst) (t.of_truth (t.or a b) ∷ []) h in
      (eliminated-gone a s (bare-left g (formula_parts a order.InnerFirst) (formula_parts b order.InnerFirst) both), eliminated-gone b s (bare-right g (formula_parts a order.InnerFirst) (formula_parts b order.InnerFirst) both))
  eliminated-gone (t.implies a b) s h =
      let both : Bare g (formula_parts a order.InnerFirst ++ formula_parts b order.InnerFirst) = bare-left g (formula_parts a order.InnerFirst ++ formula_parts b order.InnerFirst) (t.of_truth (t.implies a b) ∷ []) h in
      (eliminated-gone a (not s) (bare-left g (formula_parts a order.InnerFirst) (formula_parts b order.InnerFirst) both), eliminated-gone b s (bare-right g (formula_parts a order.InnerFirst) (formula_parts b order.InnerFirst) both))
  eliminated-gone (t.iff a b) s h =
      let both : Bare g (formula_parts a order.InnerFirst ++ formula_parts b order.InnerFirst) = bare-left g (formula_parts a order.InnerFirst ++ formula_parts b order.InnerFirst) (t.of_truth (t.iff a b) ∷ []) h in
      let left : Bare g (formula_parts a order.InnerFirst) = bare-left g (formula_parts a order.InnerFirst) (formula_parts b order.InnerFirst) both in
      let right : Bare g (formula_parts b order.InnerFirst) = bare-right g (formula_parts a order.InnerFirst) (formula_parts b order.InnerFirst) both in
      iff-gone (holds_read g a || holds_read g b) a b (eliminated c a (not s)) (eliminated c a s) (eliminated c b (not s)) (eliminated c b s)
      (λ e. unread a b e left right) (eliminated-gone a (not s) left) (eliminated-gone a s left) (eliminated-gone b (not s) right) (eliminated-gone b s right)
  eliminated-gone (t.all a) s h = eliminated-gone a s (bare-left g (formula_parts a order.InnerFirst) (t.of_truth (t.all a) ∷ []) h)
  eliminated-gone (t.ex a) s h = eliminated-gone a s (bare-left g (formula_parts a order.InnerFirst) (t.of_truth (t.ex a) ∷ []) h)
  eliminated-gone (t.mark m a) s h = eliminated-gone a s (bare-left g (formula_parts a order.InnerFirst) (t.of_truth (t.mark m a) ∷ []) h)
  eliminated-gone p s h = atom-gone p s refl h
