-- The reads that are gathered from an atom are all that there are, where the field stands in no update, no comprehension and no list;
-- and each stands behind those inside it.
use Rattle.std.proofs.Common.{◌≡◌, refl, sym, ap, ◌∙◌, Bool, true, false, not, ◌||◌, if◌then◌else◌, List, [], ◌∷◌, ◌++◌, ◌⊎◌, inl, inr}
use Rattle.std.specs.List.{list_any, flat_map}
use Rattle.std.proofs.lemmas.Bool.{true≢false}
use Rattle.jh_name.specs.declared.naming.Name.{Name}
use Rattle.jh_form.specs.Tree.{TermTree, IntTree, SetTree, FieldTree, ValueTree, FormulaTree, FieldTrees}
use Rattle.jh_form.specs.Tree as t
use Rattle.jh_form.specs.Passing.{set_passes, field_passes, formula_passes, fields_passes}
use Rattle.jh_normal_forms.specs.declared.parts.order.Order.TheVariants as order
use Rattle.jh_normal_forms.specs.parts.Standing.{term_parts, int_parts, set_parts, field_parts, value_parts, formula_parts, fields_parts}
use Rattle.jh_fca.specs.elimination.Constraints.{other_than, is_name}
use Rattle.jh_fca.specs.elimination.Derived.{goes_along}
use Rattle.jh_fca.specs.elimination.Reads.{is_read, outside, term_reads, int_reads, set_reads, field_reads, formula_reads, fields_reads}
use Rattle.jh_fca.specs.elimination.Exact.{is_within}
use Rattle.jh_fca.proofs.elimination.Readings.{Never, TermReads, IntReads, SetReads, FieldReads, FormulaReads}
use Rattle.jh_fca.proofs.elimination.Absences.{formula-apart, field-apart, fields-apart, formula-unread, field-unread, fields-unread}

-- ---- lists of terms

abbrev pub In : TermTree → List TermTree → Type 0
In s [] = ⊥
In s (a ∷ rest) = (s ≡ a) ⊎ In s rest

pub in-left : (xs ys : List TermTree) (s : TermTree) → In s xs → In s (xs ++ ys)
in-left [] ys s m = absurd m
in-left (a ∷ rest) ys s (inl e) = inl e
in-left (a ∷ rest) ys s (inr m) = inr (in-left rest ys s m)

pub in-right : (xs ys : List TermTree) (s : TermTree) → In s ys → In s (xs ++ ys)
in-right [] ys s m = m
in-right (a ∷ rest) ys s m = inr (in-right rest ys s m)

in-here : (c : Bool) (a : TermTree) → c ≡ true → In a (if c then a ∷ [] else [])
in-here true a e = inl refl
in-here false a e = absurd (true≢false (sym e))

-- In each term of a list, as it is now, the field is read for objects at earlier terms alone.
abbrev pub AreOrdered : Name → (TermTree → Type 0) → (TermTree → TermTree) → List TermTree → Type 0
AreOrdered f earlier now [] = Unit {0}
AreOrdered f earlier now (a ∷ rest) = TermReads (now a) f true earlier × AreOrdered f (λ s. earlier s ⊎ (s ≡ now a)) now rest

abbrev pub itself : TermTree → TermTree
itself a = a

join : (f : Name) (xs ys : List TermTree) (earlier : TermTree → Type 0) → AreOrdered f earlier itself xs →
    ((later : TermTree → Type 0) → ((s : TermTree) → earlier s → later s) → ((s : TermTree) → In s xs → later s) → AreOrdered f later itself ys) → AreOrdered f earlier itself (xs ++ ys)
join f [] ys earlier h k = k earlier (λ s m. m) (λ s m. absurd m)
join f (a ∷ rest) ys earlier h k = (h.0, join f rest ys (λ s. earlier s ⊎ (s ≡ a)) h.1 (λ later sub within. k later (λ s m. sub s (inl m)) (all later sub within)))
  where
    all : (later : TermTree → Type 0) → ((s : TermTree) → earlier s ⊎ (s ≡ a) → later s) → ((s : TermTree) → In s rest → later s) → (s : TermTree) → In s (a ∷ rest) → later s
    all later sub within s (inl e) = sub s (inr e)
    all later sub within s (inr m) = within s m

none-ordered : (f : Name) (xs : List TermTree) (earlier : TermTree → Type 0) → xs ≡ [] → AreOrdered f earlier itself xs
none-ordered f [] earlier e = tt
none-ordered f (a ∷ rest) earlier e = absurd (cc)

one-ordered : (f : Name) (c : Bool) (a : TermTree) (earlier : TermTree → Type 0) → TermReads a f true earlier → AreOrdered f earlier itself (if c then a ∷ [] else [])
one-ordered f true a earlier h = (h, tt)
one-ordered f false a earlier h = tt

-- ---- parts

pub or-none-left : (p q : Bool) → (p || q) ≡ false → p ≡ false
or-none-left true q h = h
or-none-left false q h = refl

pub or-none-right : (p q : Bool) → (p || q) ≡ false → q ≡ false
or-none-right true q h = absurd (true≢false h)
or-none-right false q h = h

pub none-first : (p : ValueTree → Bool) (xs ys : List ValueTree) → list_any p (xs ++ ys) ≡ false → list_any p xs ≡ false
none-first p [] ys h = refl
none-first p (v ∷ rest) ys h = λ i. or-none-left (p v) (list_any p (rest ++ ys)) h i || none-first p rest ys (or-none-right (p v) (list_any p (rest ++ ys)) h) i

pub none-last : (p : ValueTree → Bool) (xs ys : List ValueTree) → list_any p (xs ++ ys) ≡ false → list_any p ys ≡ false
none-last p [] ys h = h
none-last p (v ∷ rest) ys h = none-last p rest ys (or-none-right (p v) (list_any p (rest ++ ys)) h)

not-false : (b : Bool) → not b ≡ false → b ≡ true
not-false true h = refl
not-false false h = absurd (true≢false h)

module _ (f : Name) where
  -- the field stands in no update, no comprehension and no list among these
  pub record Bare (vs : List ValueTree) : Type 0 where
    pub within : list_any (is_within f) vs ≡ false
    pub along : list_any (goes_along f) vs ≡ false

  pub bare-left : (xs ys : List ValueTree) → Bare (xs ++ ys) → Bare xs
  bare-left xs ys h = record { within = none-first (is_within f) xs ys h.within; along = none-first (goes_along f) xs ys h.along }

  pub bare-right : (xs ys : List ValueTree) → Bare (xs ++ ys) → Bare ys
  bare-right xs ys h = record { within = none-last (is_within f) xs ys h.within; along = none-last (goes_along f) xs ys h.along }

  -- a part that is an update, a comprehension, or goes along a list
  update-apart : (a : FieldTree) (b : TermTree) (c : ValueTree) → Bare (t.of_field (t.update a b c) ∷ []) → field_passes (t.update a b c) (other_than f) ≡ true
  unfolding is_within
  update-apart a b c h = not-false (field_passes (t.update a b c) (other_than f)) (or-none-left (not (field_passes (t.update a b c) (other_than f))) false h.within)

  set-apart : (a : FormulaTree) → Bare (t.of_set (t.compr a) ∷ []) → formula_passes a (other_than f) ≡ true
  unfolding is_within set_passes
  set-apart a h = not-false (formula_passes a (other_than f)) (or-none-left (not (formula_passes a (other_than f))) false h.within)

  reach-apart : (a : FieldTrees) (b c : TermTree) → Bare (t.of_truth (t.reach a b c) ∷ []) → fields_passes a (other_than f) ≡ true
  unfolding goes_along
  reach-apart a b c h = not-false (fields_passes a (other_than f)) (or-none-left (not (fields_passes a (other_than f))) false h.along)

  tree-apart : (a : FieldTrees) → Bare (t.of_truth (t.tree a) ∷ []) → fields_passes a (other_than f) ≡ true
  unfolding goes_along
  tree-apart a h = not-false (fields_passes a (other_than f)) (or-none-left (not (fields_passes a (other_than f))) false h.along)

  field-held : (a : FieldTree) → Bare (field_parts a order.InnerFirst) → FieldReads a f
  unfolding field_parts
  field-held (t.free_field x) h = tt
  field-held (t.update a b c) h = field-apart f (t.update a b c) (update-apart a b c (bare-right (field_parts a order.InnerFirst ++ (term_parts b order.InnerFirst ++ value_parts c order.InnerFirst)) (t.of_field (t.update a b c) ∷ []) h))

  field-ordered : (a : FieldTree) (earlier : TermTree → Type 0) → Bare (field_parts a order.InnerFirst) → AreOrdered f earlier itself (field_reads a f)
  unfolding field_parts field_reads
  field-ordered (t.free_field x) earlier h = tt
  field-ordered (t.update a b c) earlier h = none-ordered f (field_reads (t.update a b c) f) earlier (field-unread f (t.update a b c) (update-apart a b c (bare-right (field_parts a order.InnerFirst ++ (term_parts b order.InnerFirst ++ value_parts c order.InnerFirst)) (t.of_field (t.update a b c) ∷ []) h)))

  pub term-held : (a : TermTree) (Q : TermTree → Type 0) → Bare (term_parts a order.InnerFirst) → ((s : TermTree) → In s (term_reads a f) → Q s) → TermReads a f true Q
  unfolding term_parts term_reads
  term-held (t.bound k) Q h q = tt
  term-held (t.free_object x) Q h q = tt
  term-held t.null Q h q = tt
  term-held (t.read_object a b) Q h q = (field-held a (bare-left (field_parts a order.InnerFirst) (term_parts b order.InnerFirst) (bare-left (field_parts a order.InnerFirst ++ term_parts b order.InnerFirst) (t.of_object (t.read_object a b) ∷ []) h)), (term-held b Q (bare-right (field_parts a order.InnerFirst) (term_parts b order.InnerFirst) (bare-left (field_parts a order.InnerFirst ++ term_parts b order.InnerFirst) (t.of_object (t.read_object a b) ∷ []) h)) (λ s m. q s (in-right (field_reads a f) (term_reads b f ++ (if is_name f a then b ∷ [] else [])) s (in-left (term_reads b f) (if is_name f a then b ∷ [] else []) s m))), λ e. q b (in-right (field_reads a f) (term_reads b f ++ (if is_name f a then b ∷ [] else [])) b (in-right (term_reads b f) (if is_name f a then b ∷ [] else []) b (in-here (is_name f a) b e)))))

  pub set-held : (a : SetTree) (Q : TermTree → Type 0) → Bare (set_parts a order.InnerFirst) → ((s : TermTree) → In s (set_reads a f) → Q s) → SetReads a f true Q
  unfolding set_parts set_reads
  set-held (t.free_set x) Q h q = tt
  set-held (t.read_set a b) Q h q = (field-held a (bare-left (field_parts a order.InnerFirst) (term_parts b order.InnerFirst) (bare-left (field_parts a order.InnerFirst ++ term_parts b order.InnerFirst) (t.of_set (t.read_set a b) ∷ []) h)), (term-held b Q (bare-right (field_parts a order.InnerFirst) (term_parts b order.InnerFirst) (bare-left (field_parts a order.InnerFirst ++ term_parts b order.InnerFirst) (t.of_set (t.read_set a b) ∷ []) h)) (λ s m. q s (in-right (field_reads a f) (term_reads b f) s m)), λ e. refl))
  set-held t.empty Q h q = tt
  set-held t.univ Q h q = tt
  set-held (t.single a) Q h q = term-held a Q (bare-left (term_parts a order.InnerFirst) (t.of_set (t.single a) ∷ []) h) q
  set-held (t.union a b) Q h q = (set-held a Q (bare-left (set_parts a order.InnerFirst) (set_parts b order.InnerFirst) (bare-left (set_parts a order.InnerFirst ++ set_parts b order.InnerFirst) (t.of_set (t.union a b) ∷ []) h)) (λ s m. q s (in-left (set_reads a f) (set_reads b f) s m)), set-held b Q (bare-right (set_parts a order.InnerFirst) (set_parts b order.InnerFirst) (bare-left (set_parts a order.InnerFirst ++ set_parts b order.InnerFirst) (t.of_set (t.union a b) ∷ []) h)) (λ s m. q s (in-right (set_reads a f) (set_reads b f) s m)))
  set-held (t.inter a b) Q h q = (set-held a Q (bare-left (set_parts a order.InnerFirst) (set_parts b order.InnerFirst) (bare-left (set_parts a order.InnerFirst ++ set_parts b order.InnerFirst) (t.of_set (t.inter a b) ∷ []) h)) (λ s m. q s (in-left (set_reads a f) (set_reads b f) s m)), set-held b Q (bare-right (set_parts a order.InnerFirst) (set_parts b order.InnerFirst) (bare-left (set_parts a order.InnerFirst ++ set_parts b order.InnerFirst) (t.of_set (t.inter a b) ∷ []) h)) (λ s m. q s (in-right (set_reads a f) (set_reads b f) s m)))
  set-held (t.diff a b) Q h q = (set-held a Q (bare-left (set_parts a order.InnerFirst) (set_parts b order.InnerFirst) (bare-left (set_parts a order.InnerFirst ++ set_parts b order.InnerFirst) (t.of_set (t.diff a b) ∷ []) h)) (λ s m. q s (in-left (set_reads a f) (set_reads b f) s m)), set-held b Q (bare-right (set_parts a order.InnerFirst) (set_parts b order.InnerFirst) (bare-left (set_parts a order.InnerFirst ++ set_parts b order.InnerFirst) (t.of_set (t.diff a b) ∷ []) h)) (λ s m. q s (in-right (set_reads a f) (set_reads b f) s m)))
  set-held (t.compl a) Q h q = set-held a Q (bare-left (set_parts a order.InnerFirst) (t.of_set (t.compl a) ∷ []) h) q
  set-held (t.compr a) Q h q = formula-apart f a false (set-apart a (bare-right (formula_parts a order.InnerFirst) (t.of_set (t.compr a) ∷ []) h))

  pub int-held : (a : IntTree) (Q : TermTree → Type 0) → Bare (int_parts a order.InnerFirst) → ((s : TermTree) → In s (int_reads a f) → Q s) → IntReads a f true Q
  unfolding int_parts int_reads
  int-held (t.const z) Q h q = tt
  int-held (t.free_number x) Q h q = tt
  int-held (t.read_number a b) Q h q = (field-held a (bare-left (field_parts a order.InnerFirst) (term_parts b order.InnerFirst) (bare-left (field_parts a order.InnerFirst ++ term_parts b order.InnerFirst) (t.of_number (t.read_number a b) ∷ []) h)), (term-held b Q (bare-right (field_parts a order.InnerFirst) (term_parts b order.InnerFirst) (bare-left (field_parts a order.InnerFirst ++ term_parts b order.InnerFirst) (t.of_number (t.read_number a b) ∷ []) h)) (λ s m. q s (in-right (field_reads a f) (term_reads b f) s m)), λ e. refl))
  int-held (t.add a b) Q h q = (int-held a Q (bare-left (int_parts a order.InnerFirst) (int_parts b order.InnerFirst) (bare-left (int_parts a order.InnerFirst ++ int_parts b order.InnerFirst) (t.of_number (t.add a b) ∷ []) h)) (λ s m. q s (in-left (int_reads a f) (int_reads b f) s m)), int-held b Q (bare-right (int_parts a order.InnerFirst) (int_parts b order.InnerFirst) (bare-left (int_parts a order.InnerFirst ++ int_parts b order.InnerFirst) (t.of_number (t.add a b) ∷ []) h)) (λ s m. q s (in-right (int_reads a f) (int_reads b f) s m)))
  int-held (t.sub a b) Q h q = (int-held a Q (bare-left (int_parts a order.InnerFirst) (int_parts b order.InnerFirst) (bare-left (int_parts a order.InnerFirst ++ int_parts b order.InnerFirst) (t.of_number (t.sub a b) ∷ []) h)) (λ s m. q s (in-left (int_reads a f) (int_reads b f) s m)), int-held b Q (bare-right (int_parts a order.InnerFirst) (int_parts b order.InnerFirst) (bare-left (int_parts a order.InnerFirst ++ int_parts b order.InnerFirst) (t.of_number (t.sub a b) ∷ []) h)) (λ s m. q s (in-right (int_reads a f) (int_reads b f) s m)))
  int-held (t.neg a) Q h q = int-held a Q (bare-left (int_parts a order.InnerFirst) (t.of_number (t.neg a) ∷ []) h) q
  int-held (t.scale z a) Q h q = int-held a Q (bare-left (int_parts a order.InnerFirst) (t.of_number (t.scale z a) ∷ []) h) q
  int-held (t.card a) Q h q = set-held a Q (bare-left (set_parts a order.InnerFirst) (t.of_number (t.card a) ∷ []) h) q

  unfoldable pub is_atom : FormulaTree → Bool
  is_atom (t.negation a) = false
  is_atom (t.and a b) = false
  is_atom (t.or a b) = false
  is_atom (t.implies a b) = false
  is_atom (t.iff a b) = false
  is_atom (t.all a) = false
  is_atom (t.ex a) = false
  is_atom (t.mark m a) = false
  is_atom a = true

  pub formula-held : (a : FormulaTree) → is_atom a ≡ true → (Q : TermTree → Type 0) → Bare (formula_parts a order.InnerFirst) → ((s : TermTree) → In s (formula_reads a f) → Q s) → FormulaReads a f true Q
  unfolding formula_parts formula_reads is_atom
  formula-held t.true_formula atom Q h q = tt
  formula-held t.false_formula atom Q h q = tt
  formula-held (t.free_truth x) atom Q h q = tt
  formula-held (t.read_truth a b) atom Q h q = (field-held a (bare-left (field_parts a order.InnerFirst) (term_parts b order.InnerFirst) (bare-left (field_parts a order.InnerFirst ++ term_parts b order.InnerFirst) (t.of_truth (t.read_truth a b) ∷ []) h)), (term-held b Q (bare-right (field_parts a order.InnerFirst) (term_parts b order.InnerFirst) (bare-left (field_parts a order.InnerFirst ++ term_parts b order.InnerFirst) (t.of_truth (t.read_truth a b) ∷ []) h)) (λ s m. q s (in-right (field_reads a f) (term_reads b f) s m)), λ e. refl))
  formula-held (t.negation a) atom Q h q = absurd (true≢false (sym atom))
  formula-held (t.and a b) atom Q h q = absurd (true≢false (sym atom))
  formula-held (t.or a b) atom Q h q = absurd (true≢false (sym atom))
  formula-held (t.implies a b) atom Q h q = absurd (true≢false (sym atom))
  formula-held (t.iff a b) atom Q h q = absurd (true≢false (sym atom))
  formula-held (t.all a) atom Q h q = absurd (true≢false (sym atom))
  formula-held (t.ex a) atom Q h q = absurd (true≢false (sym atom))
  formula-held (t.eq_object a b) atom Q h q = (term-held a Q (bare-left (term_parts a order.InnerFirst) (term_parts b order.InnerFirst) (bare-left (term_parts a order.InnerFirst ++ term_parts b order.InnerFirst) (t.of_truth (t.eq_object a b) ∷ []) h)) (λ s m. q s (in-left (term_reads a f) (term_reads b f) s m)), term-held b Q (bare-right (term_parts a order.InnerFirst) (term_parts b order.InnerFirst) (bare-left (term_parts a order.InnerFirst ++ term_parts b order.InnerFirst) (t.of_truth (t.eq_object a b) ∷ []) h)) (λ s m. q s (in-right (term_reads a f) (term_reads b f) s m)))
  formula-held (t.eq_number a b) atom Q h q = (int-held a Q (bare-left (int_parts a order.InnerFirst) (int_parts b order.InnerFirst) (bare-left (int_parts a order.InnerFirst ++ int_parts b order.InnerFirst) (t.of_truth (t.eq_number a b) ∷ []) h)) (λ s m. q s (in-left (int_reads a f) (int_reads b f) s m)), int-held b Q (bare-right (int_parts a order.InnerFirst) (int_parts b order.InnerFirst) (bare-left (int_parts a order.InnerFirst ++ int_parts b order.InnerFirst) (t.of_truth (t.eq_number a b) ∷ []) h)) (λ s m. q s (in-right (int_reads a f) (int_reads b f) s m)))
  formula-held (t.eq_set a b) atom Q h q = (set-held a Q (bare-left (set_parts a order.InnerFirst) (set_parts b order.InnerFirst) (bare-left (set_parts a order.InnerFirst ++ set_parts b order.InnerFirst) (t.of_truth (t.eq_set a b) ∷ []) h)) (λ s m. q s (in-left (set_reads a f) (set_reads b f) s m)), set-held b Q (bare-right (set_parts a order.InnerFirst) (set_parts b order.InnerFirst) (bare-left (set_parts a order.InnerFirst ++ set_parts b order.InnerFirst) (t.of_truth (t.eq_set a b) ∷ []) h)) (λ s m. q s (in-right (set_reads a f) (set_reads b f) s m)))
  formula-held (t.less a b) atom Q h q = (int-held a Q (bare-left (int_parts a order.InnerFirst) (int_parts b order.InnerFirst) (bare-left (int_parts a order.InnerFirst ++ int_parts b order.InnerFirst) (t.of_truth (t.less a b) ∷ []) h)) (λ s m. q s (in-left (int_reads a f) (int_reads b f) s m)), int-held b Q (bare-right (int_parts a order.InnerFirst) (int_parts b order.InnerFirst) (bare-left (int_parts a order.InnerFirst ++ int_parts b order.InnerFirst) (t.of_truth (t.less a b) ∷ []) h)) (λ s m. q s (in-right (int_reads a f) (int_reads b f) s m)))
  formula-held (t.less_equal a b) atom Q h q = (int-held a Q (bare-left (int_parts a order.InnerFirst) (int_parts b order.InnerFirst) (bare-left (int_parts a order.InnerFirst ++ int_parts b order.InnerFirst) (t.of_truth (t.less_equal a b) ∷ []) h)) (λ s m. q s (in-left (int_reads a f) (int_reads b f) s m)), int-held b Q (bare-right (int_parts a order.InnerFirst) (int_parts b order.InnerFirst) (bare-left (int_parts a order.InnerFirst ++ int_parts b order.InnerFirst) (t.of_truth (t.less_equal a b) ∷ []) h)) (λ s m. q s (in-right (int_reads a f) (int_reads b f) s m)))
  formula-held (t.divides z a) atom Q h q = int-held a Q (bare-left (int_parts a order.InnerFirst) (t.of_truth (t.divides z a) ∷ []) h) q
  formula-held (t.member a b) atom Q h q = (term-held a Q (bare-left (term_parts a order.InnerFirst) (set_parts b order.InnerFirst) (bare-left (term_parts a order.InnerFirst ++ set_parts b order.InnerFirst) (t.of_truth (t.member a b) ∷ []) h)) (λ s m. q s (in-left (term_reads a f) (set_reads b f) s m)), set-held b Q (bare-right (term_parts a order.InnerFirst) (set_parts b order.InnerFirst) (bare-left (term_parts a order.InnerFirst ++ set_parts b order.InnerFirst) (t.of_truth (t.member a b) ∷ []) h)) (λ s m. q s (in-right (term_reads a f) (set_reads b f) s m)))
  formula-held (t.subset a b) atom Q h q = (set-held a Q (bare-left (set_parts a order.InnerFirst) (set_parts b order.InnerFirst) (bare-left (set_parts a order.InnerFirst ++ set_parts b order.InnerFirst) (t.of_truth (t.subset a b) ∷ []) h)) (λ s m. q s (in-left (set_reads a f) (set_reads b f) s m)), set-held b Q (bare-right (set_parts a order.InnerFirst) (set_parts b order.InnerFirst) (bare-left (set_parts a order.InnerFirst ++ set_parts b order.InnerFirst) (t.of_truth (t.subset a b) ∷ []) h)) (λ s m. q s (in-right (set_reads a f) (set_reads b f) s m)))
  formula-held (t.reach a b c) atom Q h q = (fields-apart f a (reach-apart a b c (bare-right (fields_parts a order.InnerFirst ++ (term_parts b order.InnerFirst ++ term_parts c order.InnerFirst)) (t.of_truth (t.reach a b c) ∷ []) h)), (term-held b Q (bare-left (term_parts b order.InnerFirst) (term_parts c order.InnerFirst) (bare-right (fields_parts a order.InnerFirst) (term_parts b order.InnerFirst ++ term_parts c order.InnerFirst) (bare-left (fields_parts a order.InnerFirst ++ (term_parts b order.InnerFirst ++ term_parts c order.InnerFirst)) (t.of_truth (t.reach a b c) ∷ []) h))) (λ s m. q s (in-right (fields_reads a f) (term_reads b f ++ term_reads c f) s (in-left (term_reads b f) (term_reads c f) s m))), term-held c Q (bare-right (term_parts b order.InnerFirst) (term_parts c order.InnerFirst) (bare-right (fields_parts a order.InnerFirst) (term_parts b order.InnerFirst ++ term_parts c order.InnerFirst) (bare-left (fields_parts a order.InnerFirst ++ (term_parts b order.InnerFirst ++ term_parts c order.InnerFirst)) (t.of_truth (t.reach a b c) ∷ []) h))) (λ s m. q s (in-right (fields_reads a f) (term_reads b f ++ term_reads c f) s (in-right (term_reads b f) (term_reads c f) s m)))))
  formula-held (t.tree a) atom Q h q = fields-apart f a (tree-apart a (bare-right (fields_parts a order.InnerFirst) (t.of_truth (t.tree a) ∷ []) h))
  formula-held (t.mark m a) atom Q h q = absurd (true≢false (sym atom))

  pub term-ordered : (a : TermTree) → (earlier : TermTree → Type 0) → Bare (term_parts a order.InnerFirst) → AreOrdered f earlier itself (term_reads a f)
  unfolding term_parts term_reads
  term-ordered (t.bound k) earlier h = tt
  term-ordered (t.free_object x) earlier h = tt
  term-ordered t.null earlier h = tt
  term-ordered (t.read_object a b) earlier h = join f (field_reads a f) (term_reads b f ++ (if is_name f a then b ∷ [] else [])) earlier (field-ordered a earlier (bare-left (field_parts a order.InnerFirst) (term_parts b order.InnerFirst) (bare-left (field_parts a order.InnerFirst ++ term_parts b order.InnerFirst) (t.of_object (t.read_object a b) ∷ []) h))) (λ later sub in_front. join f (term_reads b f) (if is_name f a then b ∷ [] else []) later (term-ordered b later (bare-right (field_parts a order.InnerFirst) (term_parts b order.InnerFirst) (bare-left (field_parts a order.InnerFirst ++ term_parts b order.InnerFirst) (t.of_object (t.read_object a b) ∷ []) h))) (λ last sub2 in_front2. one-ordered f (is_name f a) b last (term-held b last (bare-right (field_parts a order.InnerFirst) (term_parts b order.InnerFirst) (bare-left (field_parts a order.InnerFirst ++ term_parts b order.InnerFirst) (t.of_object (t.read_object a b) ∷ []) h)) in_front2)))

  pub set-ordered : (a : SetTree) → (earlier : TermTree → Type 0) → Bare (set_parts a order.InnerFirst) → AreOrdered f earlier itself (set_reads a f)
  unfolding set_parts set_reads
  set-ordered (t.free_set x) earlier h = tt
  set-ordered (t.read_set a b) earlier h = join f (field_reads a f) (term_reads b f) earlier (field-ordered a earlier (bare-left (field_parts a order.InnerFirst) (term_parts b order.InnerFirst) (bare-left (field_parts a order.InnerFirst ++ term_parts b order.InnerFirst) (t.of_set (t.read_set a b) ∷ []) h))) (λ later sub in_front. term-ordered b later (bare-right (field_parts a order.InnerFirst) (term_parts b order.InnerFirst) (bare-left (field_parts a order.InnerFirst ++ term_parts b order.InnerFirst) (t.of_set (t.read_set a b) ∷ []) h)))
  set-ordered t.empty earlier h = tt
  set-ordered t.univ earlier h = tt
  set-ordered (t.single a) earlier h = term-ordered a earlier (bare-left (term_parts a order.InnerFirst) (t.of_set (t.single a) ∷ []) h)
  set-ordered (t.union a b) earlier h = join f (set_reads a f) (set_reads b f) earlier (set-ordered a earlier (bare-left (set_parts a order.InnerFirst) (set_parts b order.InnerFirst) (bare-left (set_parts a order.InnerFirst ++ set_parts b order.InnerFirst) (t.of_set (t.union a b) ∷ []) h))) (λ later sub in_front. set-ordered b later (bare-right (set_parts a order.InnerFirst) (set_parts b order.InnerFirst) (bare-left (set_parts a order.InnerFirst ++ set_parts b order.InnerFirst) (t.of_set (t.union a b) ∷ []) h)))
  set-ordered (t.inter a b) earlier h = join f (set_reads a f) (set_reads b f) earlier (set-ordered a earlier (bare-left (set_parts a order.InnerFirst) (set_parts b order.InnerFirst) (bare-left (set_parts a order.InnerFirst ++ set_parts b order.InnerFirst) (t.of_set (t.inter a b) ∷ []) h))) (λ later sub in_front. set-ordered b later (bare-right (set_parts a order.InnerFirst) (set_parts b order.InnerFirst) (bare-left (set_parts a order.InnerFirst ++ set_parts b order.InnerFirst) (t.of_set (t.inter a b) ∷ []) h)))
  set-ordered (t.diff a b) earlier h = join f (set_reads a f) (set_reads b f) earlier (set-ordered a earlier (bare-left (set_parts a order.InnerFirst) (set_parts b order.InnerFirst) (bare-left (set_parts a order.InnerFirst ++ set_parts b order.InnerFirst) (t.of_set (t.diff a b) ∷ []) h))) (λ later sub in_front. set-ordered b later (bare-right (set_parts a order.InnerFirst) (set_parts b order.InnerFirst) (bare-left (set_parts a order.InnerFirst ++ set_parts b order.InnerFirst) (t.of_set (t.diff a b) ∷ []) h)))
  set-ordered (t.compl a) earlier h = set-ordered a earlier (bare-left (set_parts a order.InnerFirst) (t.of_set (t.compl a) ∷ []) h)
  set-ordered (t.compr a) earlier h = none-ordered f (flat_map outside (formula_reads a f)) earlier (ap (flat_map outside) (formula-unread f a (set-apart a (bare-right (formula_parts a order.InnerFirst) (t.of_set (t.compr a) ∷ []) h))))

  pub int-ordered : (a : IntTree) → (earlier : TermTree → Type 0) → Bare (int_parts a order.InnerFirst) → AreOrdered f earlier itself (int_reads a f)
  unfolding int_parts int_reads
  int-ordered (t.const z) earlier h = tt
  int-ordered (t.free_number x) earlier h = tt
  int-ordered (t.read_number a b) earlier h = join f (field_reads a f) (term_reads b f) earlier (field-ordered a earlier (bare-left (field_parts a order.InnerFirst) (term_parts b order.InnerFirst) (bare-left (field_parts a order.InnerFirst ++ term_parts b order.InnerFirst) (t.of_number (t.read_number a b) ∷ []) h))) (λ later sub in_front. term-ordered b later (bare-right (field_parts a order.InnerFirst) (term_parts b order.InnerFirst) (bare-left (field_parts a order.InnerFirst ++ term_parts b order.InnerFirst) (t.of_number (t.read_number a b) ∷ []) h)))
  int-ordered (t.add a b) earlier h = join f (int_reads a f) (int_reads b f) earlier (int-ordered a earlier (bare-left (int_parts a order.InnerFirst) (int_parts b order.InnerFirst) (bare-left (int_parts a order.InnerFirst ++ int_parts b order.InnerFirst) (t.of_number (t.add a b) ∷ []) h))) (λ later sub in_front. int-ordered b later (bare-right (int_parts a order.InnerFirst) (int_parts b order.InnerFirst) (bare-left (int_parts a order.InnerFirst ++ int_parts b order.InnerFirst) (t.of_number (t.add a b) ∷ []) h)))
  int-ordered (t.sub a b) earlier h = join f (int_reads a f) (int_reads b f) earlier (int-ordered a earlier (bare-left (int_parts a order.InnerFirst) (int_parts b order.InnerFirst) (bare-left (int_parts a order.InnerFirst ++ int_parts b order.InnerFirst) (t.of_number (t.sub a b) ∷ []) h))) (λ later sub in_front. int-ordered b later (bare-right (int_parts a order.InnerFirst) (int_parts b order.InnerFirst) (bare-left (int_parts a order.InnerFirst ++ int_parts b order.InnerFirst) (t.of_number (t.sub a b) ∷ []) h)))
  int-ordered (t.neg a) earlier h = int-ordered a earlier (bare-left (int_parts a order.InnerFirst) (t.of_number (t.neg a) ∷ []) h)
  int-ordered (t.scale z a) earlier h = int-ordered a earlier (bare-left (int_parts a order.InnerFirst) (t.of_number (t.scale z a) ∷ []) h)
  int-ordered (t.card a) earlier h = set-ordered a earlier (bare-left (set_parts a order.InnerFirst) (t.of_number (t.card a) ∷ []) h)

  pub formula-ordered : (a : FormulaTree) → is_atom a ≡ true → (earlier : TermTree → Type 0) → Bare (formula_parts a order.InnerFirst) → AreOrdered f earlier itself (formula_reads a f)
  unfolding formula_parts formula_reads is_atom
  formula-ordered t.true_formula atom earlier h = tt
  formula-ordered t.false_formula atom earlier h = tt
  formula-ordered (t.free_truth x) atom earlier h = tt
  formula-ordered (t.read_truth a b) atom earlier h = join f (field_reads a f) (term_reads b f) earlier (field-ordered a earlier (bare-left (field_parts a order.InnerFirst) (term_parts b order.InnerFirst) (bare-left (field_parts a order.InnerFirst ++ term_parts b order.InnerFirst) (t.of_truth (t.read_truth a b) ∷ []) h))) (λ later sub in_front. term-ordered b later (bare-right (field_parts a order.InnerFirst) (term_parts b order.InnerFirst) (bare-left (field_parts a order.InnerFirst ++ term_parts b order.InnerFirst) (t.of_truth (t.read_truth a b) ∷ []) h)))
  formula-ordered (t.negation a) atom earlier h = absurd (true≢false (sym atom))
  formula-ordered (t.and a b) atom earlier h = absurd (true≢false (sym atom))
  formula-ordered (t.or a b) atom earlier h = absurd (true≢false (sym atom))
  formula-ordered (t.implies a b) atom earlier h = absurd (true≢false (sym atom))
  formula-ordered (t.iff a b) atom earlier h = absurd (true≢false (sym atom))
  formula-ordered (t.all a) atom earlier h = absurd (true≢false (sym atom))
  formula-ordered (t.ex a) atom earlier h = absurd (true≢false (sym atom))
  formula-ordered (t.eq_object a b) atom earlier h = join f (term_reads a f) (term_reads b f) earlier (term-ordered a earlier (bare-left (term_parts a order.InnerFirst) (term_parts b order.InnerFirst) (bare-left (term_parts a order.InnerFirst ++ term_parts b order.InnerFirst) (t.of_truth (t.eq_object a b) ∷ []) h))) (λ later sub in_front. term-ordered b later (bare-right (term_parts a order.InnerFirst) (term_parts b order.InnerFirst) (bare-left (term_parts a order.InnerFirst ++ term_parts b order.InnerFirst) (t.of_truth (t.eq_object a b) ∷ []) h)))
  formula-ordered (t.eq_number a b) atom earlier h = join f (int_reads a f) (int_reads b f) earlier (int-ordered a earlier (bare-left (int_parts a order.InnerFirst) (int_parts b order.InnerFirst) (bare-left (int_parts a order.InnerFirst ++ int_parts b order.InnerFirst) (t.of_truth (t.eq_number a b) ∷ []) h))) (λ later sub in_front. int-ordered b later (bare-right (int_parts a order.InnerFirst) (int_parts b order.InnerFirst) (bare-left (int_parts a order.InnerFirst ++ int_parts b order.InnerFirst) (t.of_truth (t.eq_number a b) ∷ []) h)))
  formula-ordered (t.eq_set a b) atom earlier h = join f (set_reads a f) (set_reads b f) earlier (set-ordered a earlier (bare-left (set_parts a order.InnerFirst) (set_parts b order.InnerFirst) (bare-left (set_parts a order.InnerFirst ++ set_parts b order.InnerFirst) (t.of_truth (t.eq_set a b) ∷ []) h))) (λ later sub in_front. set-ordered b later (bare-right (set_parts a order.InnerFirst) (set_parts b order.InnerFirst) (bare-left (set_parts a order.InnerFirst ++ set_parts b order.InnerFirst) (t.of_truth (t.eq_set a b) ∷ []) h)))
  formula-ordered (t.less a b) atom earlier h = join f (int_reads a f) (int_reads b f) earlier (int-ordered a earlier (bare-left (int_parts a order.InnerFirst) (int_parts b order.InnerFirst) (bare-left (int_parts a order.InnerFirst ++ int_parts b order.InnerFirst) (t.of_truth (t.less a b) ∷ []) h))) (λ later sub in_front. int-ordered b later (bare-right (int_parts a order.InnerFirst) (int_parts b order.InnerFirst) (bare-left (int_parts a order.InnerFirst ++ int_parts b order.InnerFirst) (t.of_truth (t.less a b) ∷ []) h)))
  formula-ordered (t.less_equal a b) atom earlier h = join f (int_reads a f) (int_reads b f) earlier (int-ordered a earlier (bare-left (int_parts a order.InnerFirst) (int_parts b order.InnerFirst) (bare-left (int_parts a order.InnerFirst ++ int_parts b order.InnerFirst) (t.of_truth (t.less_equal a b) ∷ []) h))) (λ later sub in_front. int-ordered b later (bare-right (int_parts a order.InnerFirst) (int_parts b order.InnerFirst) (bare-left (int_parts a order.InnerFirst ++ int_parts b order.InnerFirst) (t.of_truth (t.less_equal a b) ∷ []) h)))
  formula-ordered (t.divides z a) atom earlier h = int-ordered a earlier (bare-left (int_parts a order.InnerFirst) (t.of_truth (t.divides z a) ∷ []) h)
  formula-ordered (t.member a b) atom earlier h = join f (term_reads a f) (set_reads b f) earlier (term-ordered a earlier (bare-left (term_parts a order.InnerFirst) (set_parts b order.InnerFirst) (bare-left (term_parts a order.InnerFirst ++ set_parts b order.InnerFirst) (t.of_truth (t.member a b) ∷ []) h))) (λ later sub in_front. set-ordered b later (bare-right (term_parts a order.InnerFirst) (set_parts b order.InnerFirst) (bare-left (term_parts a order.InnerFirst ++ set_parts b order.InnerFirst) (t.of_truth (t.member a b) ∷ []) h)))
  formula-ordered (t.subset a b) atom earlier h = join f (set_reads a f) (set_reads b f) earlier (set-ordered a earlier (bare-left (set_parts a order.InnerFirst) (set_parts b order.InnerFirst) (bare-left (set_parts a order.InnerFirst ++ set_parts b order.InnerFirst) (t.of_truth (t.subset a b) ∷ []) h))) (λ later sub in_front. set-ordered b later (bare-right (set_parts a order.InnerFirst) (set_parts b order.InnerFirst) (bare-left (set_parts a order.InnerFirst ++ set_parts b order.InnerFirst) (t.of_truth (t.subset a b) ∷ []) h)))
  formula-ordered (t.reach a b c) atom earlier h = join f (fields_reads a f) (term_reads b f ++ term_reads c f) earlier (none-ordered f (fields_reads a f) earlier (fields-unread f a (reach-apart a b c (bare-right (fields_parts a order.InnerFirst ++ (term_parts b order.InnerFirst ++ term_parts c order.InnerFirst)) (t.of_truth (t.reach a b c) ∷ []) h)))) (λ later sub in_front. join f (term_reads b f) (term_reads c f) later (term-ordered b later (bare-left (term_parts b order.InnerFirst) (term_parts c order.InnerFirst) (bare-right (fields_parts a order.InnerFirst) (term_parts b order.InnerFirst ++ term_parts c order.InnerFirst) (bare-left (fields_parts a order.InnerFirst ++ (term_parts b order.InnerFirst ++ term_parts c order.InnerFirst)) (t.of_truth (t.reach a b c) ∷ []) h)))) (λ last sub2 in_front2. term-ordered c last (bare-right (term_parts b order.InnerFirst) (term_parts c order.InnerFirst) (bare-right (fields_parts a order.InnerFirst) (term_parts b order.InnerFirst ++ term_parts c order.InnerFirst) (bare-left (fields_parts a order.InnerFirst ++ (term_parts b order.InnerFirst ++ term_parts c order.InnerFirst)) (t.of_truth (t.reach a b c) ∷ []) h)))))
  formula-ordered (t.tree a) atom earlier h = none-ordered f (fields_reads a f) earlier (fields-unread f a (tree-apart a (bare-right (fields_parts a order.InnerFirst) (t.of_truth (t.tree a) ∷ []) h)))
  formula-ordered (t.mark m a) atom earlier h = absurd (true≢false (sym atom))

  pub term-bare : (a : TermTree) → Bare (term_parts a order.InnerFirst) → list_any (is_read f) (term_parts a order.InnerFirst) ≡ false → TermReads a f true Never
  unfolding term_parts is_read
  term-bare (t.bound k) h q = tt
  term-bare (t.free_object x) h q = tt
  term-bare t.null h q = tt
  term-bare (t.read_object a b) h q = (field-held a (bare-left (field_parts a order.InnerFirst) (term_parts b order.InnerFirst) (bare-left (field_parts a order.InnerFirst ++ term_parts b order.InnerFirst) (t.of_object (t.read_object a b) ∷ []) h)), (term-bare b (bare-right (field_parts a order.InnerFirst) (term_parts b order.InnerFirst) (bare-left (field_parts a order.InnerFirst ++ term_parts b order.InnerFirst) (t.of_object (t.read_object a b) ∷ []) h)) (none-last (is_read f) (field_parts a order.InnerFirst) (term_parts b order.InnerFirst) (none-first (is_read f) (field_parts a order.InnerFirst ++ term_parts b order.InnerFirst) (t.of_object (t.read_object a b) ∷ []) q)), λ e. true≢false (sym e ∙ (or-none-left (is_name f a) false (none-last (is_read f) (field_parts a order.InnerFirst ++ term_parts b order.InnerFirst) (t.of_object (t.read_object a b) ∷ []) q)))))

  pub set-bare : (a : SetTree) → Bare (set_parts a order.InnerFirst) → list_any (is_read f) (set_parts a order.InnerFirst) ≡ false → SetReads a f true Never
  unfolding set_parts is_read
  set-bare (t.free_set x) h q = tt
  set-bare (t.read_set a b) h q = (field-held a (bare-left (field_parts a order.InnerFirst) (term_parts b order.InnerFirst) (bare-left (field_parts a order.InnerFirst ++ term_parts b order.InnerFirst) (t.of_set (t.read_set a b) ∷ []) h)), (term-bare b (bare-right (field_parts a order.InnerFirst) (term_parts b order.InnerFirst) (bare-left (field_parts a order.InnerFirst ++ term_parts b order.InnerFirst) (t.of_set (t.read_set a b) ∷ []) h)) (none-last (is_read f) (field_parts a order.InnerFirst) (term_parts b order.InnerFirst) (none-first (is_read f) (field_parts a order.InnerFirst ++ term_parts b order.InnerFirst) (t.of_set (t.read_set a b) ∷ []) q)), λ e. refl))
  set-bare t.empty h q = tt
  set-bare t.univ h q = tt
  set-bare (t.single a) h q = term-bare a (bare-left (term_parts a order.InnerFirst) (t.of_set (t.single a) ∷ []) h) (none-first (is_read f) (term_parts a order.InnerFirst) (t.of_set (t.single a) ∷ []) q)
  set-bare (t.union a b) h q = (set-bare a (bare-left (set_parts a order.InnerFirst) (set_parts b order.InnerFirst) (bare-left (set_parts a order.InnerFirst ++ set_parts b order.InnerFirst) (t.of_set (t.union a b) ∷ []) h)) (none-first (is_read f) (set_parts a order.InnerFirst) (set_parts b order.InnerFirst) (none-first (is_read f) (set_parts a order.InnerFirst ++ set_parts b order.InnerFirst) (t.of_set (t.union a b) ∷ []) q)), set-bare b (bare-right (set_parts a order.InnerFirst) (set_parts b order.InnerFirst) (bare-left (set_parts a order.InnerFirst ++ set_parts b order.InnerFirst) (t.of_set (t.union a b) ∷ []) h)) (none-last (is_read f) (set_parts a order.InnerFirst) (set_parts b order.InnerFirst) (none-first (is_read f) (set_parts a order.InnerFirst ++ set_parts b order.InnerFirst) (t.of_set (t.union a b) ∷ []) q)))
  set-bare (t.inter a b) h q = (set-bare a (bare-left (set_parts a order.InnerFirst) (set_parts b order.InnerFirst) (bare-left (set_parts a order.InnerFirst ++ set_parts b order.InnerFirst) (t.of_set (t.inter a b) ∷ []) h)) (none-first (is_read f) (set_parts a order.InnerFirst) (set_parts b order.InnerFirst) (none-first (is_read f) (set_parts a order.InnerFirst ++ set_parts b order.InnerFirst) (t.of_set (t.inter a b) ∷ []) q)), set-bare b (bare-right (set_parts a order.InnerFirst) (set_parts b order.InnerFirst) (bare-left (set_parts a order.InnerFirst ++ set_parts b order.InnerFirst) (t.of_set (t.inter a b) ∷ []) h)) (none-last (is_read f) (set_parts a order.InnerFirst) (set_parts b order.InnerFirst) (none-first (is_read f) (set_parts a order.InnerFirst ++ set_parts b order.InnerFirst) (t.of_set (t.inter a b) ∷ []) q)))
  set-bare (t.diff a b) h q = (set-bare a (bare-left (set_parts a order.InnerFirst) (set_parts b order.InnerFirst) (bare-left (set_parts a order.InnerFirst ++ set_parts b order.InnerFirst) (t.of_set (t.diff a b) ∷ []) h)) (none-first (is_read f) (set_parts a order.InnerFirst) (set_parts b order.InnerFirst) (none-first (is_read f) (set_parts a order.InnerFirst ++ set_parts b order.InnerFirst) (t.of_set (t.diff a b) ∷ []) q)), set-bare b (bare-right (set_parts a order.InnerFirst) (set_parts b order.InnerFirst) (bare-left (set_parts a order.InnerFirst ++ set_parts b order.InnerFirst) (t.of_set (t.diff a b) ∷ []) h)) (none-last (is_read f) (set_parts a order.InnerFirst) (set_parts b order.InnerFirst) (none-first (is_read f) (set_parts a order.InnerFirst ++ set_parts b order.InnerFirst) (t.of_set (t.diff a b) ∷ []) q)))
  set-bare (t.compl a) h q = set-bare a (bare-left (set_parts a order.InnerFirst) (t.of_set (t.compl a) ∷ []) h) (none-first (is_read f) (set_parts a order.InnerFirst) (t.of_set (t.compl a) ∷ []) q)
  set-bare (t.compr a) h q = formula-apart f a false (set-apart a (bare-right (formula_parts a order.InnerFirst) (t.of_set (t.compr a) ∷ []) h))

  pub int-bare : (a : IntTree) → Bare (int_parts a order.InnerFirst) → list_any (is_read f) (int_parts a order.InnerFirst) ≡ false → IntReads a f true Never
  unfolding int_parts is_read
  int-bare (t.const z) h q = tt
  int-bare (t.free_number x) h q = tt
  int-bare (t.read_number a b) h q = (field-held a (bare-left (field_parts a order.InnerFirst) (term_parts b order.InnerFirst) (bare-left (field_parts a order.InnerFirst ++ term_parts b order.InnerFirst) (t.of_number (t.read_number a b) ∷ []) h)), (term-bare b (bare-right (field_parts a order.InnerFirst) (term_parts b order.InnerFirst) (bare-left (field_parts a order.InnerFirst ++ term_parts b order.InnerFirst) (t.of_number (t.read_number a b) ∷ []) h)) (none-last (is_read f) (field_parts a order.InnerFirst) (term_parts b order.InnerFirst) (none-first (is_read f) (field_parts a order.InnerFirst ++ term_parts b order.InnerFirst) (t.of_number (t.read_number a b) ∷ []) q)), λ e. refl))
  int-bare (t.add a b) h q = (int-bare a (bare-left (int_parts a order.InnerFirst) (int_parts b order.InnerFirst) (bare-left (int_parts a order.InnerFirst ++ int_parts b order.InnerFirst) (t.of_number (t.add a b) ∷ []) h)) (none-first (is_read f) (int_parts a order.InnerFirst) (int_parts b order.InnerFirst) (none-first (is_read f) (int_parts a order.InnerFirst ++ int_parts b order.InnerFirst) (t.of_number (t.add a b) ∷ []) q)), int-bare b (bare-right (int_parts a order.InnerFirst) (int_parts b order.InnerFirst) (bare-left (int_parts a order.InnerFirst ++ int_parts b order.InnerFirst) (t.of_number (t.add a b) ∷ []) h)) (none-last (is_read f) (int_parts a order.InnerFirst) (int_parts b order.InnerFirst) (none-first (is_read f) (int_parts a order.InnerFirst ++ int_parts b order.InnerFirst) (t.of_number (t.add a b) ∷ []) q)))
  int-bare (t.sub a b) h q = (int-bare a (bare-left (int_parts a order.InnerFirst) (int_parts b order.InnerFirst) (bare-left (int_parts a order.InnerFirst ++ int_parts b order.InnerFirst) (t.of_number (t.sub a b) ∷ []) h)) (none-first (is_read f) (int_parts a order.InnerFirst) (int_parts b order.InnerFirst) (none-first (is_read f) (int_parts a order.InnerFirst ++ int_parts b order.InnerFirst) (t.of_number (t.sub a b) ∷ []) q)), int-bare b (bare-right (int_parts a order.InnerFirst) (int_parts b order.InnerFirst) (bare-left (int_parts a order.InnerFirst ++ int_parts b order.InnerFirst) (t.of_number (t.sub a b) ∷ []) h)) (none-last (is_read f) (int_parts a order.InnerFirst) (int_parts b order.InnerFirst) (none-first (is_read f) (int_parts a order.InnerFirst ++ int_parts b order.InnerFirst) (t.of_number (t.sub a b) ∷ []) q)))
  int-bare (t.neg a) h q = int-bare a (bare-left (int_parts a order.InnerFirst) (t.of_number (t.neg a) ∷ []) h) (none-first (is_read f) (int_parts a order.InnerFirst) (t.of_number (t.neg a) ∷ []) q)
  int-bare (t.scale z a) h q = int-bare a (bare-left (int_parts a order.InnerFirst) (t.of_number (t.scale z a) ∷ []) h) (none-first (is_read f) (int_parts a order.InnerFirst) (t.of_number (t.scale z a) ∷ []) q)
  int-bare (t.card a) h q = set-bare a (bare-left (set_parts a order.InnerFirst) (t.of_number (t.card a) ∷ []) h) (none-first (is_read f) (set_parts a order.InnerFirst) (t.of_number (t.card a) ∷ []) q)

  pub formula-bare : (a : FormulaTree) → Bare (formula_parts a order.InnerFirst) → list_any (is_read f) (formula_parts a order.InnerFirst) ≡ false → FormulaReads a f true Never
  unfolding formula_parts is_read
  formula-bare t.true_formula h q = tt
  formula-bare t.false_formula h q = tt
  formula-bare (t.free_truth x) h q = tt
  formula-bare (t.read_truth a b) h q = (field-held a (bare-left (field_parts a order.InnerFirst) (term_parts b order.InnerFirst) (bare-left (field_parts a order.InnerFirst ++ term_parts b order.InnerFirst) (t.of_truth (t.read_truth a b) ∷ []) h)), (term-bare b (bare-right (field_parts a order.InnerFirst) (term_parts b order.InnerFirst) (bare-left (field_parts a order.InnerFirst ++ term_parts b order.InnerFirst) (t.of_truth (t.read_truth a b) ∷ []) h)) (none-last (is_read f) (field_parts a order.InnerFirst) (term_parts b order.InnerFirst) (none-first (is_read f) (field_parts a order.InnerFirst ++ term_parts b order.InnerFirst) (t.of_truth (t.read_truth a b) ∷ []) q)), λ e. refl))
  formula-bare (t.negation a) h q = formula-bare a (bare-left (formula_parts a order.InnerFirst) (t.of_truth (t.negation a) ∷ []) h) (none-first (is_read f) (formula_parts a order.InnerFirst) (t.of_truth (t.negation a) ∷ []) q)
  formula-bare (t.and a b) h q = (formula-bare a (bare-left (formula_parts a order.InnerFirst) (formula_parts b order.InnerFirst) (bare-left (formula_parts a order.InnerFirst ++ formula_parts b order.InnerFirst) (t.of_truth (t.and a b) ∷ []) h)) (none-first (is_read f) (formula_parts a order.InnerFirst) (formula_parts b order.InnerFirst) (none-first (is_read f) (formula_parts a order.InnerFirst ++ formula_parts b order.InnerFirst) (t.of_truth (t.and a b) ∷ []) q)), formula-bare b (bare-right (formula_parts a order.InnerFirst) (formula_parts b order.InnerFirst) (bare-left (formula_parts a order.InnerFirst ++ formula_parts b order.InnerFirst) (t.of_truth (t.and a b) ∷ []) h)) (none-last (is_read f) (formula_parts a order.InnerFirst) (formula_parts b order.InnerFirst) (none-first (is_read f) (formula_parts a order.InnerFirst ++ formula_parts b order.InnerFirst) (t.of_truth (t.and a b) ∷ []) q)))
  formula-bare (t.or a b) h q = (formula-bare a (bare-left (formula_parts a order.InnerFirst) (formula_parts b order.InnerFirst) (bare-left (formula_parts a order.InnerFirst ++ formula_parts b order.InnerFirst) (t.of_truth (t.or a b) ∷ []) h)) (none-first (is_read f) (formula_parts a order.InnerFirst) (formula_parts b order.InnerFirst) (none-first (is_read f) (formula_parts a order.InnerFirst ++ formula_parts b order.InnerFirst) (t.of_truth (t.or a b) ∷ []) q)), formula-bare b (bare-right (formula_parts a order.InnerFirst) (formula_parts b order.InnerFirst) (bare-left (formula_parts a order.InnerFirst ++ formula_parts b order.InnerFirst) (t.of_truth (t.or a b) ∷ []) h)) (none-last (is_read f) (formula_parts a order.InnerFirst) (formula_parts b order.InnerFirst) (none-first (is_read f) (formula_parts a order.InnerFirst ++ formula_parts b order.InnerFirst) (t.of_truth (t.or a b) ∷ []) q)))
  formula-bare (t.implies a b) h q = (formula-bare a (bare-left (formula_parts a order.InnerFirst) (formula_parts b order.InnerFirst) (bare-left (formula_parts a order.InnerFirst ++ formula_parts b order.InnerFirst) (t.of_truth (t.implies a b) ∷ []) h)) (none-first (is_read f) (formula_parts a order.InnerFirst) (formula_parts b order.InnerFirst) (none-first (is_read f) (formula_parts a order.InnerFirst ++ formula_parts b order.InnerFirst) (t.of_truth (t.implies a b) ∷ []) q)), formula-bare b (bare-right (formula_parts a order.InnerFirst) (formula_parts b order.InnerFirst) (bare-left (formula_parts a order.InnerFirst ++ formula_parts b order.InnerFirst) (t.of_truth (t.implies a b) ∷ []) h)) (none-last (is_read f) (formula_parts a order.InnerFirst) (formula_parts b order.InnerFirst) (none-first (is_read f) (formula_parts a order.InnerFirst ++ formula_parts b order.InnerFirst) (t.of_truth (t.implies a b) ∷ []) q)))
  formula-bare (t.iff a b) h q = (formula-bare a (bare-left (formula_parts a order.InnerFirst) (formula_parts b order.InnerFirst) (bare-left (formula_parts a order.InnerFirst ++ formula_parts b order.InnerFirst) (t.of_truth (t.iff a b) ∷ []) h)) (none-first (is_read f) (formula_parts a order.InnerFirst) (formula_parts b order.InnerFirst) (none-first (is_read f) (formula_parts a order.InnerFirst ++ formula_parts b order.InnerFirst) (t.of_truth (t.iff a b) ∷ []) q)), formula-bare b (bare-right (formula_parts a order.InnerFirst) (formula_parts b order.InnerFirst) (bare-left (formula_parts a order.InnerFirst ++ formula_parts b order.InnerFirst) (t.of_truth (t.iff a b) ∷ []) h)) (none-last (is_read f) (formula_parts a order.InnerFirst) (formula_parts b order.InnerFirst) (none-first (is_read f) (formula_parts a order.InnerFirst ++ formula_parts b order.InnerFirst) (t.of_truth (t.iff a b) ∷ []) q)))
  formula-bare (t.all a) h q = formula-bare a (bare-left (formula_parts a order.InnerFirst) (t.of_truth (t.all a) ∷ []) h) (none-first (is_read f) (formula_parts a order.InnerFirst) (t.of_truth (t.all a) ∷ []) q)
  formula-bare (t.ex a) h q = formula-bare a (bare-left (formula_parts a order.InnerFirst) (t.of_truth (t.ex a) ∷ []) h) (none-first (is_read f) (formula_parts a order.InnerFirst) (t.of_truth (t.ex a) ∷ []) q)
  formula-bare (t.eq_object a b) h q = (term-bare a (bare-left (term_parts a order.InnerFirst) (term_parts b order.InnerFirst) (bare-left (term_parts a order.InnerFirst ++ term_parts b order.InnerFirst) (t.of_truth (t.eq_object a b) ∷ []) h)) (none-first (is_read f) (term_parts a order.InnerFirst) (term_parts b order.InnerFirst) (none-first (is_read f) (term_parts a order.InnerFirst ++ term_parts b order.InnerFirst) (t.of_truth (t.eq_object a b) ∷ []) q)), term-bare b (bare-right (term_parts a order.InnerFirst) (term_parts b order.InnerFirst) (bare-left (term_parts a order.InnerFirst ++ term_parts b order.InnerFirst) (t.of_truth (t.eq_object a b) ∷ []) h)) (none-last (is_read f) (term_parts a order.InnerFirst) (term_parts b order.InnerFirst) (none-first (is_read f) (term_parts a order.InnerFirst ++ term_parts b order.InnerFirst) (t.of_truth (t.eq_object a b) ∷ []) q)))
  formula-bare (t.eq_number a b) h q = (int-bare a (bare-left (int_parts a order.InnerFirst) (int_parts b order.InnerFirst) (bare-left (int_parts a order.InnerFirst ++ int_parts b order.InnerFirst) (t.of_truth (t.eq_number a b) ∷ []) h)) (none-first (is_read f) (int_parts a order.InnerFirst) (int_parts b order.InnerFirst) (none-first (is_read f) (int_parts a order.InnerFirst ++ int_parts b order.InnerFirst) (t.of_truth (t.eq_number a b) ∷ []) q)), int-bare b (bare-right (int_parts a order.InnerFirst) (int_parts b order.InnerFirst) (bare-left (int_parts a order.InnerFirst ++ int_parts b order.InnerFirst) (t.of_truth (t.eq_number a b) ∷ []) h)) (none-last (is_read f) (int_parts a order.InnerFirst) (int_parts b order.InnerFirst) (none-first (is_read f) (int_parts a order.InnerFirst ++ int_parts b order.InnerFirst) (t.of_truth (t.eq_number a b) ∷ []) q)))
  formula-bare (t.eq_set a b) h q = (set-bare a (bare-left (set_parts a order.InnerFirst) (set_parts b order.InnerFirst) (bare-left (set_parts a order.InnerFirst ++ set_parts b order.InnerFirst) (t.of_truth (t.eq_set a b) ∷ []) h)) (none-first (is_read f) (set_parts a order.InnerFirst) (set_parts b order.InnerFirst) (none-first (is_read f) (set_parts a order.InnerFirst ++ set_parts b order.InnerFirst) (t.of_truth (t.eq_set a b) ∷ []) q)), set-bare b (bare-right (set_parts a order.InnerFirst) (set_parts b order.InnerFirst) (bare-left (set_parts a order.InnerFirst ++ set_parts b order.InnerFirst) (t.of_truth (t.eq_set a b) ∷ []) h)) (none-last (is_read f) (set_parts a order.InnerFirst) (set_parts b order.InnerFirst) (none-first (is_read f) (set_parts a order.InnerFirst ++ set_parts b order.InnerFirst) (t.of_truth (t.eq_set a b) ∷ []) q)))
  formula-bare (t.less a b) h q = (int-bare a (bare-left (int_parts a order.InnerFirst) (int_parts b order.InnerFirst) (bare-left (int_parts a order.InnerFirst ++ int_parts b order.InnerFirst) (t.of_truth (t.less a b) ∷ []) h)) (none-first (is_read f) (int_parts a order.InnerFirst) (int_parts b order.InnerFirst) (none-first (is_read f) (int_parts a order.InnerFirst ++ int_parts b order.InnerFirst) (t.of_truth (t.less a b) ∷ []) q)), int-bare b (bare-right (int_parts a order.InnerFirst) (int_parts b order.InnerFirst) (bare-left (int_parts a order.InnerFirst ++ int_parts b order.InnerFirst) (t.of_truth (t.less a b) ∷ []) h)) (none-last (is_read f) (int_parts a order.InnerFirst) (int_parts b order.InnerFirst) (none-first (is_read f) (int_parts a order.InnerFirst ++ int_parts b order.InnerFirst) (t.of_truth (t.less a b) ∷ []) q)))
  formula-bare (t.less_equal a b) h q = (int-bare a (bare-left (int_parts a order.InnerFirst) (int_parts b order.InnerFirst) (bare-left (int_parts a order.InnerFirst ++ int_parts b order.InnerFirst) (t.of_truth (t.less_equal a b) ∷ []) h)) (none-first (is_read f) (int_parts a order.InnerFirst) (int_parts b order.InnerFirst) (none-first (is_read f) (int_parts a order.InnerFirst ++ int_parts b order.InnerFirst) (t.of_truth (t.less_equal a b) ∷ []) q)), int-bare b (bare-right (int_parts a order.InnerFirst) (int_parts b order.InnerFirst) (bare-left (int_parts a order.InnerFirst ++ int_parts b order.InnerFirst) (t.of_truth (t.less_equal a b) ∷ []) h)) (none-last (is_read f) (int_parts a order.InnerFirst) (int_parts b order.InnerFirst) (none-first (is_read f) (int_parts a order.InnerFirst ++ int_parts b order.InnerFirst) (t.of_truth (t.less_equal a b) ∷ []) q)))
  formula-bare (t.divides z a) h q = int-bare a (bare-left (int_parts a order.InnerFirst) (t.of_truth (t.divides z a) ∷ []) h) (none-first (is_read f) (int_parts a order.InnerFirst) (t.of_truth (t.divides z a) ∷ []) q)
  formula-bare (t.member a b) h q = (term-bare a (bare-left (term_parts a order.InnerFirst) (set_parts b order.InnerFirst) (bare-left (term_parts a order.InnerFirst ++ set_parts b order.InnerFirst) (t.of_truth (t.member a b) ∷ []) h)) (none-first (is_read f) (term_parts a order.InnerFirst) (set_parts b order.InnerFirst) (none-first (is_read f) (term_parts a order.InnerFirst ++ set_parts b order.InnerFirst) (t.of_truth (t.member a b) ∷ []) q)), set-bare b (bare-right (term_parts a order.InnerFirst) (set_parts b order.InnerFirst) (bare-left (term_parts a order.InnerFirst ++ set_parts b order.InnerFirst) (t.of_truth (t.member a b) ∷ []) h)) (none-last (is_read f) (term_parts a order.InnerFirst) (set_parts b order.InnerFirst) (none-first (is_read f) (term_parts a order.InnerFirst ++ set_parts b order.InnerFirst) (t.of_truth (t.member a b) ∷ []) q)))
  formula-bare (t.subset a b) h q = (set-bare a (bare-left (set_parts a order.InnerFirst) (set_parts b order.InnerFirst) (bare-left (set_parts a order.InnerFirst ++ set_parts b order.InnerFirst) (t.of_truth (t.subset a b) ∷ []) h)) (none-first (is_read f) (set_parts a order.InnerFirst) (set_parts b order.InnerFirst) (none-first (is_read f) (set_parts a order.InnerFirst ++ set_parts b order.InnerFirst) (t.of_truth (t.subset a b) ∷ []) q)), set-bare b (bare-right (set_parts a order.InnerFirst) (set_parts b order.InnerFirst) (bare-left (set_parts a order.InnerFirst ++ set_parts b order.InnerFirst) (t.of_truth (t.subset a b) ∷ []) h)) (none-last (is_read f) (set_parts a order.InnerFirst) (set_parts b order.InnerFirst) (none-first (is_read f) (set_parts a order.InnerFirst ++ set_parts b order.InnerFirst) (t.of_truth (t.subset a b) ∷ []) q)))
  formula-bare (t.reach a b c) h q = (fields-apart f a (reach-apart a b c (bare-right (fields_parts a order.InnerFirst ++ (term_parts b order.InnerFirst ++ term_parts c order.InnerFirst)) (t.of_truth (t.reach a b c) ∷ []) h)), (term-bare b (bare-left (term_parts b order.InnerFirst) (term_parts c order.InnerFirst) (bare-right (fields_parts a order.InnerFirst) (term_parts b order.InnerFirst ++ term_parts c order.InnerFirst) (bare-left (fields_parts a order.InnerFirst ++ (term_parts b order.InnerFirst ++ term_parts c order.InnerFirst)) (t.of_truth (t.reach a b c) ∷ []) h))) (none-first (is_read f) (term_parts b order.InnerFirst) (term_parts c order.InnerFirst) (none-last (is_read f) (fields_parts a order.InnerFirst) (term_parts b order.InnerFirst ++ term_parts c order.InnerFirst) (none-first (is_read f) (fields_parts a order.InnerFirst ++ (term_parts b order.InnerFirst ++ term_parts c order.InnerFirst)) (t.of_truth (t.reach a b c) ∷ []) q))), term-bare c (bare-right (term_parts b order.InnerFirst) (term_parts c order.InnerFirst) (bare-right (fields_parts a order.InnerFirst) (term_parts b order.InnerFirst ++ term_parts c order.InnerFirst) (bare-left (fields_parts a order.InnerFirst ++ (term_parts b order.InnerFirst ++ term_parts c order.InnerFirst)) (t.of_truth (t.reach a b c) ∷ []) h))) (none-last (is_read f) (term_parts b order.InnerFirst) (term_parts c order.InnerFirst) (none-last (is_read f) (fields_parts a order.InnerFirst) (term_parts b order.InnerFirst ++ term_parts c order.InnerFirst) (none-first (is_read f) (fields_parts a order.InnerFirst ++ (term_parts b order.InnerFirst ++ term_parts c order.InnerFirst)) (t.of_truth (t.reach a b c) ∷ []) q)))))
  formula-bare (t.tree a) h q = fields-apart f a (tree-apart a (bare-right (fields_parts a order.InnerFirst) (t.of_truth (t.tree a) ∷ []) h))
  formula-bare (t.mark m a) h q = formula-bare a (bare-left (formula_parts a order.InnerFirst) (t.of_truth (t.mark m a) ∷ []) h) (none-first (is_read f) (formula_parts a order.InnerFirst) (t.of_truth (t.mark m a) ∷ []) q)
