-- Formulas of local shape keep it where a term is put in them and where a variable stands for a read.
use Rattle.std.proofs.Common.{◌≡◌, refl, sym, ℕ, ◌+◌, ◌-◌, ◌==◌, nat_lt, Bool, true, false, ◌&&◌, if◌then◌else◌}
use Rattle.std.proofs.lemmas.Bool.{true≢false}
use Rattle.jh_form.specs.Tree.{TermTree, IntTree, SetTree, FieldTree, ValueTree, FormulaTree, FieldTrees}
use Rattle.jh_form.specs.Tree as t
use Rattle.jh_form.proofs.ClosedLemmas.{both-left, both-right}
use Rattle.jh_boxed.specs.Mapped.{LeafMap, unchanged, mapped_term, mapped_int, mapped_set, mapped_field, mapped_value, mapped_formula, mapped_fields}
use Rattle.jh_boxed_operations.specs.comparison.Exchanged.{equal_trees}
use Rattle.jh_substitution.specs.rewriting.Rewritten.{Rewriting, rewritten_term, rewritten_int, rewritten_set, rewritten_field, rewritten_formula, rewritten_fields}
use Rattle.jh_substitution.specs.simultaneous.Lifted.{lifting}
use Rattle.jh_substitution.specs.exchange.Under.{raised, exchanging_under, varied}
use Rattle.jh_substitution.specs.instantiation.Putting.{put}
use Rattle.jh_seq.specs.splitting.Local.{is_field_name, are_field_names, is_local_term, is_local_number, is_local_set, has_local_shape}
use Rattle.jh_fca.specs.elimination.Exchanged.{varied_term}
use Rattle.jh_fca.proofs.elimination.Bools.{both-true}
use Rattle.jh_fca.proofs.elimination.Variations.{object-either, number-left, set-left, field-left, truth-left}

-- ---- other terms for bound variables

module _ (g : ℕ → ℕ → TermTree) (local : (k d : ℕ) → is_local_term (g k d) ≡ true) where
  abbrev l : LeafMap
  l = record unchanged { bound_at = g }

  field-mapped : (a : FieldTree) (d : ℕ) → is_field_name a ≡ true → is_field_name (mapped_field a l d) ≡ true
  unfolding mapped_field
  field-mapped (t.free_field x) d h = refl
  field-mapped (t.update a b c) d h = absurd (true≢false (sym h))

  fields-mapped : (a : FieldTrees) (d : ℕ) → are_field_names a ≡ true → are_field_names (mapped_fields a l d) ≡ true
  unfolding mapped_fields
  fields-mapped t.none d h = refl
  fields-mapped (t.more a b) d h = both-true (is_field_name (mapped_field a l d)) (are_field_names (mapped_fields b l d)) (field-mapped a d (both-left (is_field_name a) (are_field_names b) h)) (fields-mapped b d (both-right (is_field_name a) (are_field_names b) h))

  pub term-mapped : (a : TermTree) (d : ℕ) → is_local_term a ≡ true → is_local_term (mapped_term a l d) ≡ true
  unfolding mapped_term
  term-mapped (t.bound k) d h = local k d
  term-mapped (t.free_object x) d h = refl
  term-mapped t.null d h = refl
  term-mapped (t.read_object a b) d h = both-true (is_field_name (mapped_field a l d)) (is_local_term (mapped_term b l d)) (field-mapped a d (both-left (is_field_name a) (is_local_term b) h)) (term-mapped b d (both-right (is_field_name a) (is_local_term b) h))

  int-mapped : (a : IntTree) (d : ℕ) → is_local_number a ≡ true → is_local_number (mapped_int a l d) ≡ true
  unfolding mapped_int
  int-mapped (t.const z) d h = refl
  int-mapped (t.free_number x) d h = refl
  int-mapped (t.read_number a b) d h = both-true (is_field_name (mapped_field a l d)) (is_local_term (mapped_term b l d)) (field-mapped a d (both-left (is_field_name a) (is_local_term b) h)) (term-mapped b d (both-right (is_field_name a) (is_local_term b) h))
  int-mapped a d h = absurd (true≢false (sym h))

  set-mapped : (a : SetTree) (d : ℕ) → is_local_set a ≡ true → is_local_set (mapped_set a l d) ≡ true
  unfolding mapped_set
  set-mapped (t.free_set x) d h = refl
  set-mapped (t.read_set a b) d h = both-true (is_field_name (mapped_field a l d)) (is_local_term (mapped_term b l d)) (field-mapped a d (both-left (is_field_name a) (is_local_term b) h)) (term-mapped b d (both-right (is_field_name a) (is_local_term b) h))
  set-mapped a d h = absurd (true≢false (sym h))

  pub formula-mapped : (a : FormulaTree) (d : ℕ) → has_local_shape a ≡ true → has_local_shape (mapped_formula a l d) ≡ true
  unfolding mapped_formula
  formula-mapped t.true_formula d h = refl
  formula-mapped t.false_formula d h = refl
  formula-mapped (t.free_truth x) d h = refl
  formula-mapped (t.read_truth a b) d h = both-true (is_field_name (mapped_field a l d)) (is_local_term (mapped_term b l d)) (field-mapped a d (both-left (is_field_name a) (is_local_term b) h)) (term-mapped b d (both-right (is_field_name a) (is_local_term b) h))
  formula-mapped (t.negation a) d h = formula-mapped a d h
  formula-mapped (t.and a b) d h = both-true (has_local_shape (mapped_formula a l d)) (has_local_shape (mapped_formula b l d)) (formula-mapped a d (both-left (has_local_shape a) (has_local_shape b) h)) (formula-mapped b d (both-right (has_local_shape a) (has_local_shape b) h))
  formula-mapped (t.or a b) d h = both-true (has_local_shape (mapped_formula a l d)) (has_local_shape (mapped_formula b l d)) (formula-mapped a d (both-left (has_local_shape a) (has_local_shape b) h)) (formula-mapped b d (both-right (has_local_shape a) (has_local_shape b) h))
  formula-mapped (t.implies a b) d h = both-true (has_local_shape (mapped_formula a l d)) (has_local_shape (mapped_formula b l d)) (formula-mapped a d (both-left (has_local_shape a) (has_local_shape b) h)) (formula-mapped b d (both-right (has_local_shape a) (has_local_shape b) h))
  formula-mapped (t.iff a b) d h = both-true (has_local_shape (mapped_formula a l d)) (has_local_shape (mapped_formula b l d)) (formula-mapped a d (both-left (has_local_shape a) (has_local_shape b) h)) (formula-mapped b d (both-right (has_local_shape a) (has_local_shape b) h))
  formula-mapped (t.all a) d h = formula-mapped a (d + 1) h
  formula-mapped (t.ex a) d h = formula-mapped a (d + 1) h
  formula-mapped (t.eq_object a b) d h = both-true (is_local_term (mapped_term a l d)) (is_local_term (mapped_term b l d)) (term-mapped a d (both-left (is_local_term a) (is_local_term b) h)) (term-mapped b d (both-right (is_local_term a) (is_local_term b) h))
  formula-mapped (t.eq_number a b) d h = both-true (is_local_number (mapped_int a l d)) (is_local_number (mapped_int b l d)) (int-mapped a d (both-left (is_local_number a) (is_local_number b) h)) (int-mapped b d (both-right (is_local_number a) (is_local_number b) h))
  formula-mapped (t.member a b) d h = both-true (is_local_term (mapped_term a l d)) (is_local_set (mapped_set b l d)) (term-mapped a d (both-left (is_local_term a) (is_local_set b) h)) (set-mapped b d (both-right (is_local_term a) (is_local_set b) h))
  formula-mapped (t.reach a b c) d h = both-true (are_field_names (mapped_fields a l d) && is_local_term (mapped_term b l d)) (is_local_term (mapped_term c l d)) (both-true (are_field_names (mapped_fields a l d)) (is_local_term (mapped_term b l d)) (fields-mapped a d (both-left (are_field_names a) (is_local_term b) (both-left (are_field_names a && is_local_term b) (is_local_term c) h))) (term-mapped b d (both-right (are_field_names a) (is_local_term b) (both-left (are_field_names a && is_local_term b) (is_local_term c) h)))) (term-mapped c d (both-right (are_field_names a && is_local_term b) (is_local_term c) h))
  formula-mapped (t.tree a) d h = fields-mapped a d h
  formula-mapped (t.mark m a) d h = formula-mapped a d h
  formula-mapped a d h = absurd (true≢false (sym h))

-- ---- a variable for a read

module _ (old : TermTree) where
  abbrev w : Rewriting
  w = exchanging_under (t.of_object old) (t.of_object (t.bound 0))

  abbrev variable : ℕ → TermTree
  variable d = mapped_term (t.bound 0) (lifting d) 0

  abbrev hit : ValueTree → ℕ → Bool
  hit v d = equal_trees v (raised d (t.of_object old))

  field-varied : (a : FieldTree) (d : ℕ) → is_field_name a ≡ true → is_field_name (rewritten_field a w d) ≡ true
  unfolding rewritten_field mapped_value
  field-varied (t.free_field x) d h = field-left (λ a. is_field_name a ≡ true) (hit (t.of_field (t.free_field x)) d) (variable d) (t.free_field x) refl
  field-varied (t.update a b c) d h = absurd (true≢false (sym h))

  fields-varied : (a : FieldTrees) (d : ℕ) → are_field_names a ≡ true → are_field_names (rewritten_fields a w d) ≡ true
  unfolding rewritten_fields
  fields-varied t.none d h = refl
  fields-varied (t.more a b) d h = both-true (is_field_name (rewritten_field a w d)) (are_field_names (rewritten_fields b w d)) (field-varied a d (both-left (is_field_name a) (are_field_names b) h)) (fields-varied b d (both-right (is_field_name a) (are_field_names b) h))

  pub term-varied : (a : TermTree) (d : ℕ) → is_local_term a ≡ true → is_local_term (rewritten_term a w d) ≡ true
  unfolding rewritten_term mapped_value mapped_term
  term-varied (t.bound k) d h = object-either (λ x. is_local_term x ≡ true) (hit (t.of_object (t.bound k)) d) (variable d) (t.bound k) refl (refl)
  term-varied (t.free_object x) d h = object-either (λ x. is_local_term x ≡ true) (hit (t.of_object (t.free_object x)) d) (variable d) (t.free_object x) refl (refl)
  term-varied t.null d h = object-either (λ x. is_local_term x ≡ true) (hit (t.of_object t.null) d) (variable d) t.null refl (refl)
  term-varied (t.read_object a b) d h = object-either (λ x. is_local_term x ≡ true) (hit (t.of_object (t.read_object a b)) d) (variable d) (t.read_object (rewritten_field a w d) (rewritten_term b w d)) refl (both-true (is_field_name (rewritten_field a w d)) (is_local_term (rewritten_term b w d)) (field-varied a d (both-left (is_field_name a) (is_local_term b) h)) (term-varied b d (both-right (is_field_name a) (is_local_term b) h)))

  int-varied : (a : IntTree) (d : ℕ) → is_local_number a ≡ true → is_local_number (rewritten_int a w d) ≡ true
  unfolding rewritten_int mapped_value
  int-varied (t.const z) d h = number-left (λ x. is_local_number x ≡ true) (hit (t.of_number (t.const z)) d) (variable d) (t.const z) (refl)
  int-varied (t.free_number x) d h = number-left (λ x. is_local_number x ≡ true) (hit (t.of_number (t.free_number x)) d) (variable d) (t.free_number x) (refl)
  int-varied (t.read_number a b) d h = number-left (λ x. is_local_number x ≡ true) (hit (t.of_number (t.read_number a b)) d) (variable d) (t.read_number (rewritten_field a w d) (rewritten_term b w d)) (both-true (is_field_name (rewritten_field a w d)) (is_local_term (rewritten_term b w d)) (field-varied a d (both-left (is_field_name a) (is_local_term b) h)) (term-varied b d (both-right (is_field_name a) (is_local_term b) h)))
  int-varied a d h = absurd (true≢false (sym h))

  set-varied : (a : SetTree) (d : ℕ) → is_local_set a ≡ true → is_local_set (rewritten_set a w d) ≡ true
  unfolding rewritten_set mapped_value
  set-varied (t.free_set x) d h = set-left (λ x. is_local_set x ≡ true) (hit (t.of_set (t.free_set x)) d) (variable d) (t.free_set x) (refl)
  set-varied (t.read_set a b) d h = set-left (λ x. is_local_set x ≡ true) (hit (t.of_set (t.read_set a b)) d) (variable d) (t.read_set (rewritten_field a w d) (rewritten_term b w d)) (both-true (is_field_name (rewritten_field a w d)) (is_local_term (rewritten_term b w d)) (field-varied a d (both-left (is_field_name a) (is_local_term b) h)) (term-varied b d (both-right (is_field_name a) (is_local_term b) h)))
  set-varied a d h = absurd (true≢false (sym h))

  pub formula-varied : (a : FormulaTree) (d : ℕ) → has_local_shape a ≡ true → has_local_shape (rewritten_formula a w d) ≡ true
  unfolding rewritten_formula mapped_value
  formula-varied t.true_formula d h = truth-left (λ x. has_local_shape x ≡ true) (hit (t.of_truth t.true_formula) d) (variable d) t.true_formula (refl)
  formula-varied t.false_formula d h = truth-left (λ x. has_local_shape x ≡ true) (hit (t.of_truth t.false_formula) d) (variable d) t.false_formula (refl)
  formula-varied (t.free_truth x) d h = truth-left (λ x. has_local_shape x ≡ true) (hit (t.of_truth (t.free_truth x)) d) (variable d) (t.free_truth x) (refl)
  formula-varied (t.read_truth a b) d h = truth-left (λ x. has_local_shape x ≡ true) (hit (t.of_truth (t.read_truth a b)) d) (variable d) (t.read_truth (rewritten_field a w d) (rewritten_term b w d)) (both-true (is_field_name (rewritten_field a w d)) (is_local_term (rewritten_term b w d)) (field-varied a d (both-left (is_field_name a) (is_local_term b) h)) (term-varied b d (both-right (is_field_name a) (is_local_term b) h)))
  formula-varied (t.negation a) d h = truth-left (λ x. has_local_shape x ≡ true) (hit (t.of_truth (t.negation a)) d) (variable d) (t.negation (rewritten_formula a w d)) (formula-varied a d h)
  formula-varied (t.and a b) d h = truth-left (λ x. has_local_shape x ≡ true) (hit (t.of_truth (t.and a b)) d) (variable d) (t.and (rewritten_formula a w d) (rewritten_formula b w d)) (both-true (has_local_shape (rewritten_formula a w d)) (has_local_shape (rewritten_formula b w d)) (formula-varied a d (both-left (has_local_shape a) (has_local_shape b) h)) (formula-varied b d (both-right (has_local_shape a) (has_local_shape b) h)))
  formula-varied (t.or a b) d h = truth-left (λ x. has_local_shape x ≡ true) (hit (t.of_truth (t.or a b)) d) (variable d) (t.or (rewritten_formula a w d) (rewritten_formula b w d)) (both-true (has_local_shape (rewritten_formula a w d)) (has_local_shape (rewritten_formula b w d)) (formula-varied a d (both-left (has_local_shape a) (has_local_shape b) h)) (formula-varied b d (both-right (has_local_shape a) (has_local_shape b) h)))
  formula-varied (t.implies a b) d h = truth-left (λ x. has_local_shape x ≡ true) (hit (t.of_truth (t.implies a b)) d) (variable d) (t.implies (rewritten_formula a w d) (rewritten_formula b w d)) (both-true (has_local_shape (rewritten_formula a w d)) (has_local_shape (rewritten_formula b w d)) (formula-varied a d (both-left (has_local_shape a) (has_local_shape b) h)) (formula-varied b d (both-right (has_local_shape a) (has_local_shape b) h)))
  formula-varied (t.iff a b) d h = truth-left (λ x. has_local_shape x ≡ true) (hit (t.of_truth (t.iff a b)) d) (variable d) (t.iff (rewritten_formula a w d) (rewritten_formula b w d)) (both-true (has_local_shape (rewritten_formula a w d)) (has_local_shape (rewritten_formula b w d)) (formula-varied a d (both-left (has_local_shape a) (has_local_shape b) h)) (formula-varied b d (both-right (has_local_shape a) (has_local_shape b) h)))
  formula-varied (t.all a) d h = truth-left (λ x. has_local_shape x ≡ true) (hit (t.of_truth (t.all a)) d) (variable d) (t.all (rewritten_formula a w (d + 1))) (formula-varied a (d + 1) h)
  formula-varied (t.ex a) d h = truth-left (λ x. has_local_shape x ≡ true) (hit (t.of_truth (t.ex a)) d) (variable d) (t.ex (rewritten_formula a w (d + 1))) (formula-varied a (d + 1) h)
  formula-varied (t.eq_object a b) d h = truth-left (λ x. has_local_shape x ≡ true) (hit (t.of_truth (t.eq_object a b)) d) (variable d) (t.eq_object (rewritten_term a w d) (rewritten_term b w d)) (both-true (is_local_term (rewritten_term a w d)) (is_local_term (rewritten_term b w d)) (term-varied a d (both-left (is_local_term a) (is_local_term b) h)) (term-varied b d (both-right (is_local_term a) (is_local_term b) h)))
  formula-varied (t.eq_number a b) d h = truth-left (λ x. has_local_shape x ≡ true) (hit (t.of_truth (t.eq_number a b)) d) (variable d) (t.eq_number (rewritten_int a w d) (rewritten_int b w d)) (both-true (is_local_number (rewritten_int a w d)) (is_local_number (rewritten_int b w d)) (int-varied a d (both-left (is_local_number a) (is_local_number b) h)) (int-varied b d (both-right (is_local_number a) (is_local_number b) h)))
  formula-varied (t.member a b) d h = truth-left (λ x. has_local_shape x ≡ true) (hit (t.of_truth (t.member a b)) d) (variable d) (t.member (rewritten_term a w d) (rewritten_set b w d)) (both-true (is_local_term (rewritten_term a w d)) (is_local_set (rewritten_set b w d)) (term-varied a d (both-left (is_local_term a) (is_local_set b) h)) (set-varied b d (both-right (is_local_term a) (is_local_set b) h)))
  formula-varied (t.reach a b c) d h = truth-left (λ x. has_local_shape x ≡ true) (hit (t.of_truth (t.reach a b c)) d) (variable d) (t.reach (rewritten_fields a w d) (rewritten_term b w d) (rewritten_term c w d)) (both-true (are_field_names (rewritten_fields a w d) && is_local_term (rewritten_term b w d)) (is_local_term (rewritten_term c w d)) (both-true (are_field_names (rewritten_fields a w d)) (is_local_term (rewritten_term b w d)) (fields-varied a d (both-left (are_field_names a) (is_local_term b) (both-left (are_field_names a && is_local_term b) (is_local_term c) h))) (term-varied b d (both-right (are_field_names a) (is_local_term b) (both-left (are_field_names a && is_local_term b) (is_local_term c) h)))) (term-varied c d (both-right (are_field_names a && is_local_term b) (is_local_term c) h)))
  formula-varied (t.tree a) d h = truth-left (λ x. has_local_shape x ≡ true) (hit (t.of_truth (t.tree a)) d) (variable d) (t.tree (rewritten_fields a w d)) (fields-varied a d h)
  formula-varied (t.mark m a) d h = truth-left (λ x. has_local_shape x ≡ true) (hit (t.of_truth (t.mark m a)) d) (variable d) (t.mark m (rewritten_formula a w d)) (formula-varied a d h)
  formula-varied a d h = absurd (true≢false (sym h))

-- ---- what is raised, put and varied

raised-local : (by k d : ℕ) (below : Bool) → is_local_term (if below then t.bound k else t.bound (k + by)) ≡ true
raised-local by k d true = refl
raised-local by k d false = refl

pub lifted-local : (by : ℕ) (a : TermTree) → is_local_term a ≡ true → is_local_term (mapped_term a (lifting by) 0) ≡ true
lifted-local by a h = term-mapped (λ k d. if nat_lt k d then t.bound k else t.bound (k + by)) (λ k d. raised-local by k d (nat_lt k d)) a 0 h

pub lifted-formula : (a : FormulaTree) → has_local_shape a ≡ true → has_local_shape (mapped_formula a (lifting 1) 0) ≡ true
lifted-formula a h = formula-mapped (λ k d. if nat_lt k d then t.bound k else t.bound (k + 1)) (λ k d. raised-local 1 k d (nat_lt k d)) a 0 h

put-bound : (b : TermTree) (k d : ℕ) (below here : Bool) → is_local_term b ≡ true → is_local_term (if below then t.bound k else (if here then mapped_term b (lifting d) 0 else t.bound (k - 1))) ≡ true
put-bound b k d true here h = refl
put-bound b k d false true h = lifted-local d b h
put-bound b k d false false h = refl

pub put-local : (a : FormulaTree) (b : TermTree) → has_local_shape a ≡ true → is_local_term b ≡ true → has_local_shape (put a b) ≡ true
put-local a b h k = formula-mapped (λ j d. if nat_lt j d then t.bound j else (if j == d then mapped_term b (lifting d) 0 else t.bound (j - 1))) (λ j d. put-bound b j d (nat_lt j d) (j == d) k) a 0 h

pub varied-local : (a : FormulaTree) (b : TermTree) → has_local_shape a ≡ true → has_local_shape (varied a b) ≡ true
unfolding mapped_value
varied-local a b h = formula-varied (mapped_term b (lifting 1) 0) (mapped_formula a (lifting 1) 0) 0 (lifted-formula a h)

pub varied-term-local : (a b : TermTree) → is_local_term a ≡ true → is_local_term (varied_term a b) ≡ true
unfolding varied_term mapped_value
varied-term-local a b h = term-varied (mapped_term b (lifting 1) 0) (mapped_term a (lifting 1) 0) 0 (lifted-local 1 a h)
