-- Local shape stays where bound variables are exchanged for terms of local shape.
use Rattle.std.proofs.Common.{◌≡◌, refl, sym, ℕ, zero, suc, ◌+◌, ◌-◌, ◌==◌, nat_lt, Bool, true, false, not, ◌&&◌, if◌then◌else◌, List, [], ◌∷◌}
use Rattle.std.proofs.lemmas.Bool.{true≢false}
use Rattle.jh_name.specs.declared.naming.Name.{Name}
use Rattle.jh_form.specs.Tree.{TermTree, IntTree, SetTree, FieldTree, FormulaTree, FieldTrees}
use Rattle.jh_form.specs.Tree as t
use Rattle.jh_form.proofs.ClosedLemmas.{both-left, both-right}
use Rattle.jh_boxed.specs.Mapped.{LeafMap, unchanged, mapped_term, mapped_int, mapped_set, mapped_field, mapped_formula, mapped_fields}
use Rattle.jh_normal_forms.specs.negation_normal_form.Normal.{normal}
use Rattle.jh_boxed_operations.specs.substitution.Opened.{opened}
use Rattle.jh_seq.specs.splitting.Local.{is_field_name, are_field_names, is_local_term, is_local_number, is_local_set, has_local_shape}
use Rattle.jh_seq.specs.splitting.Split.{constant, constant_at, closed_by}
use Rattle.jh_inst.specs.instances.Witnesses.{witnesses, witnessed}
use Rattle.jh_inst.specs.instances.Prenex.{under_more, pulled, behind, prenex}

-- the map that exchanges bound variables alone
abbrev pub exchanging : (ℕ → ℕ → TermTree) → LeafMap
exchanging b = record unchanged { bound_at = b }

module _ (b : ℕ → ℕ → TermTree) (local : (k d : ℕ) → is_local_term (b k d) ≡ true) where
  field-shaped : (f : FieldTree) (d : ℕ) → is_field_name f ≡ true → is_field_name (mapped_field f (exchanging b) d) ≡ true
  unfolding mapped_field
  field-shaped (t.free_field x) d h = refl
  field-shaped (t.update f a v) d h = absurd (true≢false (sym h))

  fields-shaped : (fs : FieldTrees) (d : ℕ) → are_field_names fs ≡ true → are_field_names (mapped_fields fs (exchanging b) d) ≡ true
  unfolding mapped_fields
  fields-shaped t.none d h = refl
  fields-shaped (t.more f fs) d h = λ i. field-shaped f d (both-left (is_field_name f) (are_field_names fs) h) i && fields-shaped fs d (both-right (is_field_name f) (are_field_names fs) h) i

  pub term-shaped : (a : TermTree) (d : ℕ) → is_local_term a ≡ true → is_local_term (mapped_term a (exchanging b) d) ≡ true
  unfolding mapped_term
  term-shaped (t.bound k) d h = local k d
  term-shaped (t.free_object x) d h = refl
  term-shaped t.null d h = refl
  term-shaped (t.read_object f a) d h = λ i. field-shaped f d (both-left (is_field_name f) (is_local_term a) h) i && term-shaped a d (both-right (is_field_name f) (is_local_term a) h) i

  number-shaped : (a : IntTree) (d : ℕ) → is_local_number a ≡ true → is_local_number (mapped_int a (exchanging b) d) ≡ true
  unfolding mapped_int
  number-shaped (t.const z) d h = refl
  number-shaped (t.free_number x) d h = refl
  number-shaped (t.read_number f a) d h = λ i. field-shaped f d (both-left (is_field_name f) (is_local_term a) h) i && term-shaped a d (both-right (is_field_name f) (is_local_term a) h) i
  number-shaped _ d h = absurd (true≢false (sym h))

  set-shaped : (a : SetTree) (d : ℕ) → is_local_set a ≡ true → is_local_set (mapped_set a (exchanging b) d) ≡ true
  unfolding mapped_set
  set-shaped (t.free_set x) d h = refl
  set-shaped (t.read_set f a) d h = λ i. field-shaped f d (both-left (is_field_name f) (is_local_term a) h) i && term-shaped a d (both-right (is_field_name f) (is_local_term a) h) i
  set-shaped _ d h = absurd (true≢false (sym h))

  pub formula-shaped : (a : FormulaTree) (d : ℕ) → has_local_shape a ≡ true → has_local_shape (mapped_formula a (exchanging b) d) ≡ true
  unfolding mapped_formula
  formula-shaped t.true_formula d h = refl
  formula-shaped t.false_formula d h = refl
  formula-shaped (t.free_truth x) d h = refl
  formula-shaped (t.read_truth f a) d h = λ i. field-shaped f d (both-left (is_field_name f) (is_local_term a) h) i && term-shaped a d (both-right (is_field_name f) (is_local_term a) h) i
  formula-shaped (t.negation a) d h = formula-shaped a d h
  formula-shaped (t.and a c) d h = λ i. formula-shaped a d (both-left (has_local_shape a) (has_local_shape c) h) i && formula-shaped c d (both-right (has_local_shape a) (has_local_shape c) h) i
  formula-shaped (t.or a c) d h = λ i. formula-shaped a d (both-left (has_local_shape a) (has_local_shape c) h) i && formula-shaped c d (both-right (has_local_shape a) (has_local_shape c) h) i
  formula-shaped (t.implies a c) d h = λ i. formula-shaped a d (both-left (has_local_shape a) (has_local_shape c) h) i && formula-shaped c d (both-right (has_local_shape a) (has_local_shape c) h) i
  formula-shaped (t.iff a c) d h = λ i. formula-shaped a d (both-left (has_local_shape a) (has_local_shape c) h) i && formula-shaped c d (both-right (has_local_shape a) (has_local_shape c) h) i
  formula-shaped (t.all a) d h = formula-shaped a (d + 1) h
  formula-shaped (t.ex a) d h = formula-shaped a (d + 1) h
  formula-shaped (t.eq_object a c) d h = λ i. term-shaped a d (both-left (is_local_term a) (is_local_term c) h) i && term-shaped c d (both-right (is_local_term a) (is_local_term c) h) i
  formula-shaped (t.eq_number a c) d h = λ i. number-shaped a d (both-left (is_local_number a) (is_local_number c) h) i && number-shaped c d (both-right (is_local_number a) (is_local_number c) h) i
  formula-shaped (t.member a c) d h = λ i. term-shaped a d (both-left (is_local_term a) (is_local_set c) h) i && set-shaped c d (both-right (is_local_term a) (is_local_set c) h) i
  formula-shaped (t.reach fs a c) d h = λ i.
      fields-shaped fs d (both-left (are_field_names fs) (is_local_term a) (both-left (are_field_names fs && is_local_term a) (is_local_term c) h)) i
      && term-shaped a d (both-right (are_field_names fs) (is_local_term a) (both-left (are_field_names fs && is_local_term a) (is_local_term c) h)) i
      && term-shaped c d (both-right (are_field_names fs && is_local_term a) (is_local_term c) h) i
  formula-shaped (t.tree fs) d h = fields-shaped fs d h
  formula-shaped (t.mark k a) d h = formula-shaped a d h
  formula-shaped _ d h = absurd (true≢false (sym h))

-- opened at a term, with constants, and under more binders
opening-local : (w : TermTree) → is_local_term w ≡ true → (k d : ℕ) (b c : Bool) → is_local_term (if b then t.bound k else (if c then w else t.bound (k - 1))) ≡ true
opening-local w h k d true c = refl
opening-local w h k d false true = h
opening-local w h k d false false = refl

pub opened-shaped : (a : FormulaTree) (w : TermTree) → is_local_term w ≡ true → has_local_shape a ≡ true → has_local_shape (opened a w) ≡ true
opened-shaped a w h = formula-shaped (λ k d. if nat_lt k d then t.bound k else (if k == d then w else t.bound (k - 1))) (λ k d. opening-local w h k d (nat_lt k d) (k == d)) a 0

constant-local : (ws : List Name) (i : ℕ) → is_local_term (constant_at ws i) ≡ true
constant-local [] i = refl
constant-local (w ∷ ws) zero = refl
constant-local (w ∷ ws) (suc i) = constant-local ws i

closing-local : (ws : List Name) (k d : ℕ) (b : Bool) → is_local_term (if b then t.bound k else constant_at ws (k - d)) ≡ true
closing-local ws k d true = refl
closing-local ws k d false = constant-local ws (k - d)

closed-shaped : (a : FormulaTree) (ws : List Name) → has_local_shape a ≡ true → has_local_shape (closed_by a ws) ≡ true
closed-shaped a ws = formula-shaped (λ k d. if nat_lt k d then t.bound k else constant_at ws (k - d)) (λ k d. closing-local ws k d (nat_lt k d)) a 0

lifting-local : (by k d : ℕ) (b : Bool) → is_local_term (if b then t.bound k else t.bound (k + by)) ≡ true
lifting-local by k d true = refl
lifting-local by k d false = refl

under-shaped : (a : FormulaTree) (d by : ℕ) → has_local_shape a ≡ true → has_local_shape (under_more a d by) ≡ true
under-shaped a d by = formula-shaped (λ k e. if nat_lt k e then t.bound k else t.bound (k + by)) (λ k e. lifting-local by k e (nat_lt k e)) a d

pub witnessed-shaped : (a : FormulaTree) (ws : List Name) (k : ℕ) → has_local_shape a ≡ true → has_local_shape (witnessed a ws k) ≡ true
witnessed-shaped (t.and a b) ws k h = λ i. witnessed-shaped a ws k (both-left (has_local_shape a) (has_local_shape b) h) i && witnessed-shaped b ws (k + witnesses a) (both-right (has_local_shape a) (has_local_shape b) h) i
witnessed-shaped (t.or a b) ws k h = λ i. witnessed-shaped a ws k (both-left (has_local_shape a) (has_local_shape b) h) i && witnessed-shaped b ws (k + witnesses a) (both-right (has_local_shape a) (has_local_shape b) h) i
witnessed-shaped (t.ex a) ws k h = witnessed-shaped a (constant k ∷ ws) (suc k) h
witnessed-shaped a ws k h = closed-shaped a ws h

pub pulled-shaped : (a : FormulaTree) → has_local_shape a ≡ true → has_local_shape (pulled a).body ≡ true
pulled-shaped (t.and a b) h = λ i.
    under-shaped (pulled a).body 0 (pulled b).variables (pulled-shaped a (both-left (has_local_shape a) (has_local_shape b) h)) i
    && under-shaped (pulled b).body (pulled b).variables (pulled a).variables (pulled-shaped b (both-right (has_local_shape a) (has_local_shape b) h)) i
pulled-shaped (t.or a b) h = λ i.
    under-shaped (pulled a).body 0 (pulled b).variables (pulled-shaped a (both-left (has_local_shape a) (has_local_shape b) h)) i
    && under-shaped (pulled b).body (pulled b).variables (pulled a).variables (pulled-shaped b (both-right (has_local_shape a) (has_local_shape b) h)) i
pulled-shaped (t.all a) h = pulled-shaped a h
pulled-shaped a h = h

behind-shaped : (n : ℕ) (a : FormulaTree) → has_local_shape a ≡ true → has_local_shape (behind n a) ≡ true
behind-shaped zero a h = h
behind-shaped (suc n) a h = behind-shaped n a h

pub prenex-shaped : (a : FormulaTree) → has_local_shape a ≡ true → has_local_shape (prenex a) ≡ true
prenex-shaped a h = behind-shaped (pulled a).variables (pulled a).body (pulled-shaped a h)

pub normal-shaped : (a : FormulaTree) (s : Bool) → has_local_shape a ≡ true → has_local_shape (normal a s) ≡ true
unfolding normal
normal-shaped (t.negation a) s h = normal-shaped a (not s) h
normal-shaped (t.and a b) true h = λ i. normal-shaped a true (both-left (has_local_shape a) (has_local_shape b) h) i && normal-shaped b true (both-right (has_local_shape a) (has_local_shape b) h) i
normal-shaped (t.and a b) false h = λ i. normal-shaped a false (both-left (has_local_shape a) (has_local_shape b) h) i && normal-shaped b false (both-right (has_local_shape a) (has_local_shape b) h) i
normal-shaped (t.or a b) true h = λ i. normal-shaped a true (both-left (has_local_shape a) (has_local_shape b) h) i && normal-shaped b true (both-right (has_local_shape a) (has_local_shape b) h) i
normal-shaped (t.or a b) false h = λ i. normal-shaped a false (both-left (has_local_shape a) (has_local_shape b) h) i && normal-shaped b false (both-right (has_local_shape a) (has_local_shape b) h) i
normal-shaped (t.implies a b) true h = λ i. normal-shaped a false (both-left (has_local_shape a) (has_local_shape b) h) i && normal-shaped b true (both-right (has_local_shape a) (has_local_shape b) h) i
normal-shaped (t.implies a b) false h = λ i. normal-shaped a true (both-left (has_local_shape a) (has_local_shape b) h) i && normal-shaped b false (both-right (has_local_shape a) (has_local_shape b) h) i
normal-shaped (t.iff a b) true h =
    let pa = both-left (has_local_shape a) (has_local_shape b) h in
    let pb = both-right (has_local_shape a) (has_local_shape b) h in
    λ i. (normal-shaped a false pa i && normal-shaped b true pb i) && (normal-shaped b false pb i && normal-shaped a true pa i)
normal-shaped (t.iff a b) false h =
    let pa = both-left (has_local_shape a) (has_local_shape b) h in
    let pb = both-right (has_local_shape a) (has_local_shape b) h in
    λ i. (normal-shaped a true pa i && normal-shaped b true pb i) && (normal-shaped a false pa i && normal-shaped b false pb i)
normal-shaped (t.all a) true h = normal-shaped a true h
normal-shaped (t.all a) false h = normal-shaped a false h
normal-shaped (t.ex a) true h = normal-shaped a true h
normal-shaped (t.ex a) false h = normal-shaped a false h
normal-shaped (t.mark k a) s h = normal-shaped a s h
normal-shaped _ true h = h
normal-shaped _ false h = h
