-- What is said of sets in a formula whose sets were opened: memberships in names and reads alone.
use Rattle.std.proofs.Common.{◌≡◌, refl, sym, ap, ℕ, ◌+◌, Bool, true, false, not, ◌&&◌, ◌||◌, if◌then◌else◌}
use Rattle.std.proofs.lemmas.Bool.{true≢false}
use Rattle.jh_form.specs.Tree.{TermTree, SetTree, FormulaTree}
use Rattle.jh_form.specs.Tree as t
use Rattle.jh_form.proofs.ClosedLemmas.{both-left, both-right}
use Rattle.jh_boxed.specs.Mapped.{LeafMap, unchanged, mapped_set, mapped_formula}
use Rattle.jh_normal_forms.specs.declared.rebuilding.polarity.Polarity.{Polarity}
use Rattle.jh_normal_forms.specs.declared.rebuilding.polarity.Polarity.TheVariants as pol
use Rattle.jh_normal_forms.specs.rebuilding.Built.{turned, built_term, built_set, built_formula}
use Rattle.jh_substitution.specs.instantiation.Putting.{putting}
use Rattle.jh_normal_forms.specs.set_opening.SetsOpened.{body, as_comprehension, is_in, relation, opening_sets, sets_opened}
use Rattle.jh_fca.specs.cutting.Cut.{holds_foreign, two_ways, opening_iffs, iffs_opened}
use Rattle.jh_fca.proofs.local_form.Bare.{both-true, is_named_set}

-- ---- the tests

unfoldable pub is_open : FormulaTree → Bool
is_open (t.negation a) = is_open a
is_open (t.and a b) = is_open a && is_open b
is_open (t.or a b) = is_open a && is_open b
is_open (t.implies a b) = is_open a && is_open b
is_open (t.iff a b) = is_open a && is_open b
is_open (t.all a) = is_open a
is_open (t.ex a) = is_open a
is_open (t.mark m a) = is_open a
is_open (t.eq_set a b) = false
is_open (t.subset a b) = false
is_open (t.member x a) = is_named_set a
is_open a = true

-- a name, a read, or a comprehension that is open
unfoldable set_open : SetTree → Bool
set_open (t.compr a) = is_open a
set_open a = is_named_set a

-- ---- other bound variables leave it open

module _ (g : ℕ → ℕ → TermTree) where
  abbrev l : LeafMap
  l = record unchanged { bound_at = g }

  named-mapped : (a : SetTree) (d : ℕ) → is_named_set a ≡ true → is_named_set (mapped_set a l d) ≡ true
  unfolding mapped_set is_named_set
  named-mapped (t.free_set x) d h = refl
  named-mapped (t.read_set f a) d h = refl
  named-mapped a d h = absurd (true≢false (sym h))

  open-mapped : (a : FormulaTree) (d : ℕ) → is_open a ≡ true → is_open (mapped_formula a l d) ≡ true
  unfolding mapped_formula is_open
  open-mapped t.true_formula d h = refl
  open-mapped t.false_formula d h = refl
  open-mapped (t.free_truth x) d h = refl
  open-mapped (t.read_truth f a) d h = refl
  open-mapped (t.negation a) d h = open-mapped a d h
  open-mapped (t.and a b) d h = both-true (is_open (mapped_formula a l d)) (is_open (mapped_formula b l d)) (open-mapped a d (both-left (is_open a) (is_open b) h)) (open-mapped b d (both-right (is_open a) (is_open b) h))
  open-mapped (t.or a b) d h = both-true (is_open (mapped_formula a l d)) (is_open (mapped_formula b l d)) (open-mapped a d (both-left (is_open a) (is_open b) h)) (open-mapped b d (both-right (is_open a) (is_open b) h))
  open-mapped (t.implies a b) d h = both-true (is_open (mapped_formula a l d)) (is_open (mapped_formula b l d)) (open-mapped a d (both-left (is_open a) (is_open b) h)) (open-mapped b d (both-right (is_open a) (is_open b) h))
  open-mapped (t.iff a b) d h = both-true (is_open (mapped_formula a l d)) (is_open (mapped_formula b l d)) (open-mapped a d (both-left (is_open a) (is_open b) h)) (open-mapped b d (both-right (is_open a) (is_open b) h))
  open-mapped (t.all a) d h = open-mapped a (d + 1) h
  open-mapped (t.ex a) d h = open-mapped a (d + 1) h
  open-mapped (t.mark m a) d h = open-mapped a d h
  open-mapped (t.eq_object a b) d h = refl
  open-mapped (t.eq_number a b) d h = refl
  open-mapped (t.eq_set a b) d h = absurd (true≢false (sym h))
  open-mapped (t.less a b) d h = refl
  open-mapped (t.less_equal a b) d h = refl
  open-mapped (t.divides z a) d h = refl
  open-mapped (t.member x a) d h = named-mapped a d h
  open-mapped (t.subset a b) d h = absurd (true≢false (sym h))
  open-mapped (t.reach fs a b) d h = refl
  open-mapped (t.tree fs) d h = refl

-- ---- sets opened

body-open : (a : SetTree) → set_open a ≡ true → is_open (body a) ≡ true
unfolding body is_open set_open is_named_set mapped_set
body-open (t.compr a) h = h
body-open (t.free_set y) h = refl
body-open (t.read_set f a) h = refl
body-open a h = absurd (true≢false (sym h))

is-in-open : (a : SetTree) (x : TermTree) → set_open a ≡ true → is_open (is_in x a) ≡ true
unfolding is_in is_open set_open is_named_set
is-in-open (t.compr a) x h = open-mapped (putting x).bound_at a 0 h
is-in-open (t.free_set y) x h = refl
is-in-open (t.read_set f a) x h = refl
is-in-open a x h = absurd (true≢false (sym h))

mutual
  unfolding built_formula built_set relation as_comprehension is_open set_open is_named_set

  formula-opened : (a : FormulaTree) (s : Polarity) → is_open (built_formula a opening_sets s) ≡ true
  formula-opened t.true_formula s = refl
  formula-opened t.false_formula s = refl
  formula-opened (t.free_truth x) s = refl
  formula-opened (t.read_truth f a) s = refl
  formula-opened (t.negation a) s = formula-opened a (turned s)
  formula-opened (t.and a b) s = both-true (is_open (built_formula a opening_sets s)) (is_open (built_formula b opening_sets s)) (formula-opened a s) (formula-opened b s)
  formula-opened (t.or a b) s = both-true (is_open (built_formula a opening_sets s)) (is_open (built_formula b opening_sets s)) (formula-opened a s) (formula-opened b s)
  formula-opened (t.implies a b) s = both-true (is_open (built_formula a opening_sets (turned s))) (is_open (built_formula b opening_sets s)) (formula-opened a (turned s)) (formula-opened b s)
  formula-opened (t.iff a b) s = both-true (is_open (built_formula a opening_sets pol.Both)) (is_open (built_formula b opening_sets pol.Both)) (formula-opened a pol.Both) (formula-opened b pol.Both)
  formula-opened (t.all a) s = formula-opened a s
  formula-opened (t.ex a) s = formula-opened a s
  formula-opened (t.mark m a) s = formula-opened a s
  formula-opened (t.eq_object a b) s = refl
  formula-opened (t.eq_number a b) s = refl
  formula-opened (t.eq_set a b) s = both-true (is_open (body (built_set a opening_sets))) (is_open (body (built_set b opening_sets))) (body-open (built_set a opening_sets) (set-opened a)) (body-open (built_set b opening_sets) (set-opened b))
  formula-opened (t.less a b) s = refl
  formula-opened (t.less_equal a b) s = refl
  formula-opened (t.divides z a) s = refl
  formula-opened (t.member x a) s = is-in-open (built_set a opening_sets) (built_term x opening_sets) (set-opened a)
  formula-opened (t.subset a b) s = both-true (is_open (body (built_set a opening_sets))) (is_open (body (built_set b opening_sets))) (body-open (built_set a opening_sets) (set-opened a)) (body-open (built_set b opening_sets) (set-opened b))
  formula-opened (t.reach fs a b) s = refl
  formula-opened (t.tree fs) s = refl

  set-opened : (a : SetTree) → set_open (built_set a opening_sets) ≡ true
  set-opened (t.free_set x) = refl
  set-opened (t.read_set f a) = refl
  set-opened t.empty = refl
  set-opened t.univ = refl
  set-opened (t.single a) = refl
  set-opened (t.union a b) = both-true (is_open (body (built_set a opening_sets))) (is_open (body (built_set b opening_sets))) (body-open (built_set a opening_sets) (set-opened a)) (body-open (built_set b opening_sets) (set-opened b))
  set-opened (t.inter a b) = both-true (is_open (body (built_set a opening_sets))) (is_open (body (built_set b opening_sets))) (body-open (built_set a opening_sets) (set-opened a)) (body-open (built_set b opening_sets) (set-opened b))
  set-opened (t.diff a b) = both-true (is_open (body (built_set a opening_sets))) (is_open (body (built_set b opening_sets))) (body-open (built_set a opening_sets) (set-opened a)) (body-open (built_set b opening_sets) (set-opened b))
  set-opened (t.compl a) = body-open (built_set a opening_sets) (set-opened a)
  set-opened (t.compr a) = formula-opened a pol.Both

pub sets-opened-open : (a : FormulaTree) → is_open (sets_opened a) ≡ true
unfolding sets_opened
sets-opened-open a = formula-opened a pol.Both

-- ---- equivalences opened

-- no equivalence that is left has an atom that is cut
unfoldable pub is_split : FormulaTree → Bool
is_split (t.negation a) = is_split a
is_split (t.and a b) = is_split a && is_split b
is_split (t.or a b) = is_split a && is_split b
is_split (t.implies a b) = is_split a && is_split b
is_split (t.iff a b) = not (holds_foreign a || holds_foreign b)
is_split (t.all a) = is_split a
is_split (t.ex a) = is_split a
is_split (t.mark m a) = is_split a
is_split a = true

-- what is both open and without such an equivalence
abbrev pub is_even : FormulaTree → Bool
is_even a = is_open a && is_split a

four-true : (p q r s : Bool) → (p && r) ≡ true → (q && s) ≡ true → ((p && q) && (r && s)) ≡ true
four-true true q true s h k = k
four-true true q false s h k = absurd (true≢false (sym h))
four-true false q r s h k = absurd (true≢false (sym h))

two-even : (a b : FormulaTree) → is_even a ≡ true → is_even b ≡ true → ((is_open a && is_open b) && (is_split a && is_split b)) ≡ true
two-even a b h k = four-true (is_open a) (is_open b) (is_split a) (is_split b) h k

iff-even : (c : Bool) (a b : FormulaTree) → (holds_foreign a || holds_foreign b) ≡ c → is_even a ≡ true → is_even b ≡ true → is_even (if c then t.and (t.implies a b) (t.implies b a) else t.iff a b) ≡ true
unfolding is_open is_split
iff-even true a b e h k =
    four-true (is_open a && is_open b) (is_open b && is_open a) (is_split a && is_split b) (is_split b && is_split a) (two-even a b h k) (two-even b a k h)
iff-even false a b e h k = both-true (is_open a && is_open b) (not (holds_foreign a || holds_foreign b)) (both-true (is_open a) (is_open b) (both-left (is_open a) (is_split a) h) (both-left (is_open b) (is_split b) k)) (ap not e)

named-built : (a : SetTree) → is_named_set a ≡ true → is_named_set (built_set a opening_iffs) ≡ true
unfolding built_set is_named_set
named-built (t.free_set x) h = refl
named-built (t.read_set f a) h = refl
named-built a h = absurd (true≢false (sym h))

built-even : (a : FormulaTree) (s : Polarity) → is_open a ≡ true → is_even (built_formula a opening_iffs s) ≡ true
unfolding built_formula two_ways is_open is_split
built-even t.true_formula s h = refl
built-even t.false_formula s h = refl
built-even (t.free_truth x) s h = refl
built-even (t.read_truth f a) s h = refl
built-even (t.negation a) s h = built-even a (turned s) h
built-even (t.and a b) s h = two-even (built_formula a opening_iffs s) (built_formula b opening_iffs s) (built-even a s (both-left (is_open a) (is_open b) h)) (built-even b s (both-right (is_open a) (is_open b) h))
built-even (t.or a b) s h = two-even (built_formula a opening_iffs s) (built_formula b opening_iffs s) (built-even a s (both-left (is_open a) (is_open b) h)) (built-even b s (both-right (is_open a) (is_open b) h))
built-even (t.implies a b) s h = two-even (built_formula a opening_iffs (turned s)) (built_formula b opening_iffs s) (built-even a (turned s) (both-left (is_open a) (is_open b) h)) (built-even b s (both-right (is_open a) (is_open b) h))
built-even (t.iff a b) s h =
    iff-even (holds_foreign (built_formula a opening_iffs pol.Both) || holds_foreign (built_formula b opening_iffs pol.Both)) (built_formula a opening_iffs pol.Both) (built_formula b opening_iffs pol.Both) refl
    (built-even a pol.Both (both-left (is_open a) (is_open b) h)) (built-even b pol.Both (both-right (is_open a) (is_open b) h))
built-even (t.all a) s h = built-even a s h
built-even (t.ex a) s h = built-even a s h
built-even (t.mark m a) s h = built-even a s h
built-even (t.eq_object a b) s h = refl
built-even (t.eq_number a b) s h = refl
built-even (t.eq_set a b) s h = absurd (true≢false (sym h))
built-even (t.less a b) s h = refl
built-even (t.less_equal a b) s h = refl
built-even (t.divides z a) s h = refl
built-even (t.member x a) s h = both-true (is_named_set (built_set a opening_iffs)) true (named-built a h) refl
built-even (t.subset a b) s h = absurd (true≢false (sym h))
built-even (t.reach fs a b) s h = refl
built-even (t.tree fs) s h = refl

pub iffs-opened-even : (a : FormulaTree) → is_open a ≡ true → is_even (iffs_opened a) ≡ true
unfolding iffs_opened
iffs-opened-even a h = built-even a pol.Both h
