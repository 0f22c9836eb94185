-- What the arms of truths cite: what an expression is, and its value or fault by those of its parts.
use Rattle.std.proofs.Common.{◌≡◌, sym, ap, subst, ◌∙◌, inl, inr, ℕ, ℤ, Bool, true, false, not, if◌then◌else◌, ◌==◌, int_lt, int_le, List, Some, slice_get}
use Rattle.std.specs.Ordering.{int_eq}
use Rattle.std.specs.declared.alloc.Global.{Global}
use Rattle.std.specs.declared.boxed.Box.{Box}
use Rattle.jh_name.specs.declared.naming.Name.{Name}
use Rattle.jh_name.specs.declared.place.Place.{Place}
use Rattle.jh_form.specs.Meaning.{agree}
use Rattle.jh_semantics.specs.Code as c
use Rattle.jh_semantics.specs.State.{State, named}
use Rattle.jh_semantics.specs.Values.{Value, value, null_at, then_value, both_values, object_of, number_of, truth_of}
use Rattle.jh_operands.specs.declared.fault.Fault.{Fault}
use Rattle.jh_operands.specs.declared.fault.Fault.TheVariants as f
use Rattle.jh_operands.specs.declared.exprs.ObjectExpr.{ObjectExpr}
use Rattle.jh_operands.specs.declared.exprs.NumberExpr.{NumberExpr}
use Rattle.jh_operands.specs.declared.exprs.TruthExpr.{TruthExpr}
use Rattle.jh_operands.specs.declared.exprs.TruthExpr.TheVariants as t
use Rattle.jh_operands.specs.Exprs.{text_at, IsPlain, object_in, number_in, truth_in, ObjectFits, NumberFits, TruthFits}
use Rattle.jh_operands.specs.Faults.{TruthOverflows, IsFault, Never, receiver_of, ReceiverFault, TruthFault, TwoFault, TwoObjectFault}
use Rattle.jh_operands.proofs.NumberSteps.{read-null, read-value, both-value, both-left, both-right}

-- where one of two operands is Null
two-null : {X Y : Type 0} (u v : Value X) (g : X → X → Y) (p : Place) → then_value u (λ y. v) ≡ null_at p → both_values u v g ≡ null_at p
two-null (null_at q) v g p h = ap (λ w. both_values w v g) h
two-null (value y) v g p h = ap (λ w. then_value w (λ z. value (g y z))) h

module _ (names : List Name) (s : State) where
  abbrev val : TruthExpr → Value Bool
  val e = truth_of (truth_in names e) s

  abbrev num : NumberExpr → Value ℤ
  num e = number_of (number_in names e) s

  abbrev obj : ObjectExpr → Value ℕ
  obj e = object_of (object_in names e) s

  abbrev Fails : TruthExpr → Fault → Type 0
  Fails e d = TruthFault (truth_in names e) s d

  pub literal_value : (e : TruthExpr) (b : Bool) → e ≡ t.Literal b → val e ≡ value b
  unfolding truth_in
  literal_value e b is = ap val is

  pub truth_name_value : (e : TruthExpr) (k : ℕ) (b : Bool) → e ≡ t.Name k → TruthFits names e → ((y : Name) → slice_get names k ≡ Some y → b ≡ s.truth y) → val e ≡ value b
  unfolding truth_in TruthFits
  truth_name_value e k b is fits reads =
      let plain : IsPlain names k = subst (λ d. TruthFits names d) is fits in
      ap val is ∙ ap value (sym (reads (named (text_at names k)) plain))

  read-fits : (e : TruthExpr) (k : ℕ) (r : ObjectExpr) (q : Place) → e ≡ t.Read k r q → TruthFits names e → IsPlain names k × ObjectFits names r
  unfolding TruthFits
  read-fits e k r q is fits = subst (λ d. TruthFits names d) is fits

  pub truth_read_value : (e : TruthExpr) (k : ℕ) (r : ObjectExpr) (q : Place) (a : ℕ) (b : Bool) → e ≡ t.Read k r q → TruthFits names e → (ObjectFits names r → receiver_of (object_in names r) q s ≡ value a) → ((y : Name) → slice_get names k ≡ Some y → b ≡ (s.field y).truths a) → val e ≡ value b
  unfolding truth_in
  truth_read_value e k r q a b is fits receiver reads =
      let parts = read-fits e k r q is fits in
      ap val is ∙ read-value (object_in names r) q s (s.field (named (text_at names k))).truths a (receiver parts.1) ∙ ap value (sym (reads (named (text_at names k)) parts.0))

  pub truth_read_fault : (e : TruthExpr) (k : ℕ) (r : ObjectExpr) (q : Place) (d : Fault) → e ≡ t.Read k r q → TruthFits names e → (ObjectFits names r → ReceiverFault (object_in names r) q s d) → Fails e d
  unfolding truth_in IsFault
  truth_read_fault e k r q (f.Null p) is fits receiver = ap val is ∙ read-null (object_in names r) q s (s.field (named (text_at names k))).truths p (receiver (read-fits e k r q is fits).1)
  truth_read_fault e k r q (f.Overflow p) is fits receiver = absurd (receiver (read-fits e k r q is fits).1)

  not-fits : (e : TruthExpr) (a : Box TruthExpr Global) → e ≡ t.Not a → TruthFits names e → TruthFits names a.value
  unfolding TruthFits
  not-fits e a is fits = subst (λ d. TruthFits names d) is fits

  not-code : (e : TruthExpr) (a : Box TruthExpr Global) → e ≡ t.Not a → truth_in names e ≡ c.negation (truth_in names a.value)
  unfolding truth_in
  not-code e a is = ap (truth_in names) is

  pub not_value : (e : TruthExpr) (a : Box TruthExpr Global) (b : Bool) → e ≡ t.Not a → TruthFits names e → (TruthFits names a.value → val a.value ≡ value b) → val e ≡ value (not b)
  not_value e a b is fits inner = ap (λ d. truth_of d s) (not-code e a is) ∙ ap (λ v. then_value v (λ x. value (not x))) (inner (not-fits e a is fits))

  pub not_inner : (e : TruthExpr) (a : Box TruthExpr Global) (d : Fault) → e ≡ t.Not a → TruthFits names e → (TruthFits names a.value → Fails a.value d) → Fails e d
  unfolding IsFault TruthOverflows
  not_inner e a (f.Null p) is fits inner = ap (λ d. truth_of d s) (not-code e a is) ∙ ap (λ v. then_value v (λ x. value (not x))) (inner (not-fits e a is fits))
  not_inner e a (f.Overflow p) is fits inner = subst (λ b. TruthOverflows p b s) (sym (not-code e a is)) (inner (not-fits e a is fits))

  and-fits : (e : TruthExpr) (l r : Box TruthExpr Global) → e ≡ t.And l r → TruthFits names e → TruthFits names l.value × TruthFits names r.value
  unfolding TruthFits
  and-fits e l r is fits = subst (λ d. TruthFits names d) is fits

  and-code : (e : TruthExpr) (l r : Box TruthExpr Global) → e ≡ t.And l r → truth_in names e ≡ c.both (truth_in names l.value) (truth_in names r.value)
  unfolding truth_in
  and-code e l r is = ap (truth_in names) is

  and-first : (e : TruthExpr) (l r : Box TruthExpr Global) (v : Value Bool) → e ≡ t.And l r → val l.value ≡ v → val e ≡ then_value v (λ x. if x then val r.value else value false)
  and-first e l r v is left = ap (λ d. truth_of d s) (and-code e l r is) ∙ ap (λ w. then_value w (λ x. if x then val r.value else value false)) left

  pub and_right_fits : (e : TruthExpr) (l r : Box TruthExpr Global) → e ≡ t.And l r → TruthFits names e → TruthFits names r.value
  and_right_fits e l r is fits = (and-fits e l r is fits).1

  -- where the left operand decides, and where it doesn't
  pub and_decided : (e : TruthExpr) (l r : Box TruthExpr Global) (b : Bool) → e ≡ t.And l r → TruthFits names e → (TruthFits names l.value → val l.value ≡ value b) → b ≡ false → val e ≡ value false
  and_decided e l r b is fits left fails = and-first e l r (value false) is (left (and-fits e l r is fits).0 ∙ ap value fails)

  pub and_value : (e : TruthExpr) (l r : Box TruthExpr Global) (b z : Bool) → e ≡ t.And l r → TruthFits names e → (TruthFits names l.value → val l.value ≡ value b) → b ≡ true → (TruthFits names r.value → val r.value ≡ value z) → val e ≡ value z
  and_value e l r b z is fits left holds right =
      let parts = and-fits e l r is fits in
      and-first e l r (value true) is (left parts.0 ∙ ap value holds) ∙ right parts.1

  pub and_left : (e : TruthExpr) (l r : Box TruthExpr Global) (d : Fault) → e ≡ t.And l r → TruthFits names e → (TruthFits names l.value → Fails l.value d) → Fails e d
  unfolding IsFault TruthOverflows
  and_left e l r (f.Null p) is fits left = and-first e l r (null_at p) is (left (and-fits e l r is fits).0)
  and_left e l r (f.Overflow p) is fits left = subst (λ b. TruthOverflows p b s) (sym (and-code e l r is)) (inl (left (and-fits e l r is fits).0))

  pub and_right : (e : TruthExpr) (l r : Box TruthExpr Global) (b : Bool) (d : Fault) → e ≡ t.And l r → TruthFits names e → (TruthFits names l.value → val l.value ≡ value b) → b ≡ true → (TruthFits names r.value → Fails r.value d) → Fails e d
  unfolding IsFault TruthOverflows
  and_right e l r b (f.Null p) is fits left holds right =
      let parts = and-fits e l r is fits in
      and-first e l r (value true) is (left parts.0 ∙ ap value holds) ∙ right parts.1
  and_right e l r b (f.Overflow p) is fits left holds right =
      let parts = and-fits e l r is fits in
      subst (λ b. TruthOverflows p b s) (sym (and-code e l r is)) (inr (left parts.0 ∙ ap value holds, right parts.1))

  or-fits : (e : TruthExpr) (l r : Box TruthExpr Global) → e ≡ t.Or l r → TruthFits names e → TruthFits names l.value × TruthFits names r.value
  unfolding TruthFits
  or-fits e l r is fits = subst (λ d. TruthFits names d) is fits

  or-code : (e : TruthExpr) (l r : Box TruthExpr Global) → e ≡ t.Or l r → truth_in names e ≡ c.either (truth_in names l.value) (truth_in names r.value)
  unfolding truth_in
  or-code e l r is = ap (truth_in names) is

  or-first : (e : TruthExpr) (l r : Box TruthExpr Global) (v : Value Bool) → e ≡ t.Or l r → val l.value ≡ v → val e ≡ then_value v (λ x. if x then value true else val r.value)
  or-first e l r v is left = ap (λ d. truth_of d s) (or-code e l r is) ∙ ap (λ w. then_value w (λ x. if x then value true else val r.value)) left

  pub or_right_fits : (e : TruthExpr) (l r : Box TruthExpr Global) → e ≡ t.Or l r → TruthFits names e → TruthFits names r.value
  or_right_fits e l r is fits = (or-fits e l r is fits).1

  -- where the left operand decides, and where it doesn't
  pub or_decided : (e : TruthExpr) (l r : Box TruthExpr Global) (b : Bool) → e ≡ t.Or l r → TruthFits names e → (TruthFits names l.value → val l.value ≡ value b) → b ≡ true → val e ≡ value true
  or_decided e l r b is fits left fails = or-first e l r (value true) is (left (or-fits e l r is fits).0 ∙ ap value fails)

  pub or_value : (e : TruthExpr) (l r : Box TruthExpr Global) (b z : Bool) → e ≡ t.Or l r → TruthFits names e → (TruthFits names l.value → val l.value ≡ value b) → b ≡ false → (TruthFits names r.value → val r.value ≡ value z) → val e ≡ value z
  or_value e l r b z is fits left holds right =
      let parts = or-fits e l r is fits in
      or-first e l r (value false) is (left parts.0 ∙ ap value holds) ∙ right parts.1

  pub or_left : (e : TruthExpr) (l r : Box TruthExpr Global) (d : Fault) → e ≡ t.Or l r → TruthFits names e → (TruthFits names l.value → Fails l.value d) → Fails e d
  unfolding IsFault TruthOverflows
  or_left e l r (f.Null p) is fits left = or-first e l r (null_at p) is (left (or-fits e l r is fits).0)
  or_left e l r (f.Overflow p) is fits left = subst (λ b. TruthOverflows p b s) (sym (or-code e l r is)) (inl (left (or-fits e l r is fits).0))

  pub or_right : (e : TruthExpr) (l r : Box TruthExpr Global) (b : Bool) (d : Fault) → e ≡ t.Or l r → TruthFits names e → (TruthFits names l.value → val l.value ≡ value b) → b ≡ false → (TruthFits names r.value → Fails r.value d) → Fails e d
  unfolding IsFault TruthOverflows
  or_right e l r b (f.Null p) is fits left holds right =
      let parts = or-fits e l r is fits in
      or-first e l r (value false) is (left parts.0 ∙ ap value holds) ∙ right parts.1
  or_right e l r b (f.Overflow p) is fits left holds right =
      let parts = or-fits e l r is fits in
      subst (λ b. TruthOverflows p b s) (sym (or-code e l r is)) (inr (left parts.0 ∙ ap value holds, right parts.1))

  same-fits : (e : TruthExpr) (l r : Box TruthExpr Global) → e ≡ t.SameTruth l r → TruthFits names e → TruthFits names l.value × TruthFits names r.value
  unfolding TruthFits
  same-fits e l r is fits = subst (λ d. TruthFits names d) is fits

  same-code : (e : TruthExpr) (l r : Box TruthExpr Global) → e ≡ t.SameTruth l r → truth_in names e ≡ c.same_truth (truth_in names l.value) (truth_in names r.value)
  unfolding truth_in
  same-code e l r is = ap (truth_in names) is

  pub same_value : (e : TruthExpr) (l r : Box TruthExpr Global) (y z : Bool) → e ≡ t.SameTruth l r → TruthFits names e → (TruthFits names l.value → val l.value ≡ value y) → (TruthFits names r.value → val r.value ≡ value z) → val e ≡ value (agree y z)
  same_value e l r y z is fits left right =
      let parts = same-fits e l r is fits in
      ap (λ a. truth_of a s) (same-code e l r is) ∙ both-value (val l.value) (val r.value) (λ a b. agree a b) y z (left parts.0) (right parts.1)

  pub same_left : (e : TruthExpr) (l r : Box TruthExpr Global) (d : Fault) → e ≡ t.SameTruth l r → TruthFits names e → (TruthFits names l.value → Fails l.value d) → Fails e d
  unfolding IsFault TruthOverflows
  same_left e l r (f.Null p) is fits left = ap (λ a. truth_of a s) (same-code e l r is) ∙ both-left (val l.value) (val r.value) (λ a b. agree a b) p (left (same-fits e l r is fits).0)
  same_left e l r (f.Overflow p) is fits left = subst (λ a. TruthOverflows p a s) (sym (same-code e l r is)) (inl (left (same-fits e l r is fits).0))

  pub same_right : (e : TruthExpr) (l r : Box TruthExpr Global) (y : Bool) (d : Fault) → e ≡ t.SameTruth l r → TruthFits names e → (TruthFits names l.value → val l.value ≡ value y) → (TruthFits names r.value → Fails r.value d) → Fails e d
  unfolding IsFault TruthOverflows
  same_right e l r y (f.Null p) is fits left right =
      let parts = same-fits e l r is fits in
      ap (λ a. truth_of a s) (same-code e l r is) ∙ both-right (val l.value) (val r.value) (λ a b. agree a b) y p (left parts.0) (right parts.1)
  same_right e l r y (f.Overflow p) is fits left right =
      let parts = same-fits e l r is fits in
      subst (λ a. TruthOverflows p a s) (sym (same-code e l r is)) (inr ((y, left parts.0), right parts.1))

  same_object-fits : (e : TruthExpr) (l r : ObjectExpr) → e ≡ t.SameObject l r → TruthFits names e → ObjectFits names l × ObjectFits names r
  unfolding TruthFits
  same_object-fits e l r is fits = subst (λ d. TruthFits names d) is fits

  same_object-code : (e : TruthExpr) (l r : ObjectExpr) → e ≡ t.SameObject l r → truth_in names e ≡ c.same_object (object_in names l) (object_in names r)
  unfolding truth_in
  same_object-code e l r is = ap (truth_in names) is

  pub same_object_value : (e : TruthExpr) (l r : ObjectExpr) (y z : ℕ) → e ≡ t.SameObject l r → TruthFits names e → (ObjectFits names l → ObjectFits names r → (obj l ≡ value y) × (obj r ≡ value z)) → val e ≡ value (y == z)
  same_object_value e l r y z is fits two =
      let parts = same_object-fits e l r is fits in
      let values = two parts.0 parts.1 in
      ap (λ a. truth_of a s) (same_object-code e l r is) ∙ both-value (obj l) (obj r) (λ a b. a == b) y z values.0 values.1

  same_object-by : (e : TruthExpr) (l r : ObjectExpr) → e ≡ t.SameObject l r → (d : Fault) → TwoObjectFault (object_in names l) (object_in names r) s d → Fails e d
  unfolding IsFault TruthOverflows
  same_object-by e l r is (f.Null p) fault = ap (λ a. truth_of a s) (same_object-code e l r is) ∙ two-null (obj l) (obj r) (λ a b. a == b) p fault
  same_object-by e l r is (f.Overflow p) fault = absurd fault

  pub same_object_fault : (e : TruthExpr) (l r : ObjectExpr) (d : Fault) → e ≡ t.SameObject l r → TruthFits names e → (ObjectFits names l → ObjectFits names r → TwoObjectFault (object_in names l) (object_in names r) s d) → Fails e d
  same_object_fault e l r d is fits two = let parts = same_object-fits e l r is fits in same_object-by e l r is d (two parts.0 parts.1)

  same_number-fits : (e : TruthExpr) (l r : NumberExpr) → e ≡ t.SameNumber l r → TruthFits names e → NumberFits names l × NumberFits names r
  unfolding TruthFits
  same_number-fits e l r is fits = subst (λ d. TruthFits names d) is fits

  same_number-code : (e : TruthExpr) (l r : NumberExpr) → e ≡ t.SameNumber l r → truth_in names e ≡ c.same_number (number_in names l) (number_in names r)
  unfolding truth_in
  same_number-code e l r is = ap (truth_in names) is

  pub same_number_value : (e : TruthExpr) (l r : NumberExpr) (y z : ℤ) → e ≡ t.SameNumber l r → TruthFits names e → (NumberFits names l → NumberFits names r → (num l ≡ value y) × (num r ≡ value z)) → val e ≡ value (int_eq y z)
  same_number_value e l r y z is fits two =
      let parts = same_number-fits e l r is fits in
      let values = two parts.0 parts.1 in
      ap (λ a. truth_of a s) (same_number-code e l r is) ∙ both-value (num l) (num r) (λ a b. int_eq a b) y z values.0 values.1

  same_number-by : (e : TruthExpr) (l r : NumberExpr) → e ≡ t.SameNumber l r → (d : Fault) → TwoFault (number_in names l) (number_in names r) s d → Fails e d
  unfolding IsFault TruthOverflows
  same_number-by e l r is (f.Null p) fault = ap (λ a. truth_of a s) (same_number-code e l r is) ∙ two-null (num l) (num r) (λ a b. int_eq a b) p fault
  same_number-by e l r is (f.Overflow p) fault = subst (λ a. TruthOverflows p a s) (sym (same_number-code e l r is)) fault

  pub same_number_fault : (e : TruthExpr) (l r : NumberExpr) (d : Fault) → e ≡ t.SameNumber l r → TruthFits names e → (NumberFits names l → NumberFits names r → TwoFault (number_in names l) (number_in names r) s d) → Fails e d
  same_number_fault e l r d is fits two = let parts = same_number-fits e l r is fits in same_number-by e l r is d (two parts.0 parts.1)

  less-fits : (e : TruthExpr) (l r : NumberExpr) → e ≡ t.Less l r → TruthFits names e → NumberFits names l × NumberFits names r
  unfolding TruthFits
  less-fits e l r is fits = subst (λ d. TruthFits names d) is fits

  less-code : (e : TruthExpr) (l r : NumberExpr) → e ≡ t.Less l r → truth_in names e ≡ c.less (number_in names l) (number_in names r)
  unfolding truth_in
  less-code e l r is = ap (truth_in names) is

  pub less_value : (e : TruthExpr) (l r : NumberExpr) (y z : ℤ) → e ≡ t.Less l r → TruthFits names e → (NumberFits names l → NumberFits names r → (num l ≡ value y) × (num r ≡ value z)) → val e ≡ value (int_lt y z)
  less_value e l r y z is fits two =
      let parts = less-fits e l r is fits in
      let values = two parts.0 parts.1 in
      ap (λ a. truth_of a s) (less-code e l r is) ∙ both-value (num l) (num r) (λ a b. int_lt a b) y z values.0 values.1

  less-by : (e : TruthExpr) (l r : NumberExpr) → e ≡ t.Less l r → (d : Fault) → TwoFault (number_in names l) (number_in names r) s d → Fails e d
  unfolding IsFault TruthOverflows
  less-by e l r is (f.Null p) fault = ap (λ a. truth_of a s) (less-code e l r is) ∙ two-null (num l) (num r) (λ a b. int_lt a b) p fault
  less-by e l r is (f.Overflow p) fault = subst (λ a. TruthOverflows p a s) (sym (less-code e l r is)) fault

  pub less_fault : (e : TruthExpr) (l r : NumberExpr) (d : Fault) → e ≡ t.Less l r → TruthFits names e → (NumberFits names l → NumberFits names r → TwoFault (number_in names l) (number_in names r) s d) → Fails e d
  less_fault e l r d is fits two = let parts = less-fits e l r is fits in less-by e l r is d (two parts.0 parts.1)

  less_equal-fits : (e : TruthExpr) (l r : NumberExpr) → e ≡ t.LessEq l r → TruthFits names e → NumberFits names l × NumberFits names r
  unfolding TruthFits
  less_equal-fits e l r is fits = subst (λ d. TruthFits names d) is fits

  less_equal-code : (e : TruthExpr) (l r : NumberExpr) → e ≡ t.LessEq l r → truth_in names e ≡ c.less_equal (number_in names l) (number_in names r)
  unfolding truth_in
  less_equal-code e l r is = ap (truth_in names) is

  pub less_equal_value : (e : TruthExpr) (l r : NumberExpr) (y z : ℤ) → e ≡ t.LessEq l r → TruthFits names e → (NumberFits names l → NumberFits names r → (num l ≡ value y) × (num r ≡ value z)) → val e ≡ value (int_le y z)
  less_equal_value e l r y z is fits two =
      let parts = less_equal-fits e l r is fits in
      let values = two parts.0 parts.1 in
      ap (λ a. truth_of a s) (less_equal-code e l r is) ∙ both-value (num l) (num r) (λ a b. int_le a b) y z values.0 values.1

  less_equal-by : (e : TruthExpr) (l r : NumberExpr) → e ≡ t.LessEq l r → (d : Fault) → TwoFault (number_in names l) (number_in names r) s d → Fails e d
  unfolding IsFault TruthOverflows
  less_equal-by e l r is (f.Null p) fault = ap (λ a. truth_of a s) (less_equal-code e l r is) ∙ two-null (num l) (num r) (λ a b. int_le a b) p fault
  less_equal-by e l r is (f.Overflow p) fault = subst (λ a. TruthOverflows p a s) (sym (less_equal-code e l r is)) fault

  pub less_equal_fault : (e : TruthExpr) (l r : NumberExpr) (d : Fault) → e ≡ t.LessEq l r → TruthFits names e → (NumberFits names l → NumberFits names r → TwoFault (number_in names l) (number_in names r) s d) → Fails e d
  less_equal_fault e l r d is fits two = let parts = less_equal-fits e l r is fits in less_equal-by e l r is d (two parts.0 parts.1)

  greater-fits : (e : TruthExpr) (l r : NumberExpr) → e ≡ t.Greater l r → TruthFits names e → NumberFits names l × NumberFits names r
  unfolding TruthFits
  greater-fits e l r is fits = subst (λ d. TruthFits names d) is fits

  greater-code : (e : TruthExpr) (l r : NumberExpr) → e ≡ t.Greater l r → truth_in names e ≡ c.greater (number_in names l) (number_in names r)
  unfolding truth_in
  greater-code e l r is = ap (truth_in names) is

  pub greater_value : (e : TruthExpr) (l r : NumberExpr) (y z : ℤ) → e ≡ t.Greater l r → TruthFits names e → (NumberFits names l → NumberFits names r → (num l ≡ value y) × (num r ≡ value z)) → val e ≡ value (int_lt z y)
  greater_value e l r y z is fits two =
      let parts = greater-fits e l r is fits in
      let values = two parts.0 parts.1 in
      ap (λ a. truth_of a s) (greater-code e l r is) ∙ both-value (num l) (num r) (λ a b. int_lt b a) y z values.0 values.1

  greater-by : (e : TruthExpr) (l r : NumberExpr) → e ≡ t.Greater l r → (d : Fault) → TwoFault (number_in names l) (number_in names r) s d → Fails e d
  unfolding IsFault TruthOverflows
  greater-by e l r is (f.Null p) fault = ap (λ a. truth_of a s) (greater-code e l r is) ∙ two-null (num l) (num r) (λ a b. int_lt b a) p fault
  greater-by e l r is (f.Overflow p) fault = subst (λ a. TruthOverflows p a s) (sym (greater-code e l r is)) fault

  pub greater_fault : (e : TruthExpr) (l r : NumberExpr) (d : Fault) → e ≡ t.Greater l r → TruthFits names e → (NumberFits names l → NumberFits names r → TwoFault (number_in names l) (number_in names r) s d) → Fails e d
  greater_fault e l r d is fits two = let parts = greater-fits e l r is fits in greater-by e l r is d (two parts.0 parts.1)

  greater_equal-fits : (e : TruthExpr) (l r : NumberExpr) → e ≡ t.GreaterEq l r → TruthFits names e → NumberFits names l × NumberFits names r
  unfolding TruthFits
  greater_equal-fits e l r is fits = subst (λ d. TruthFits names d) is fits

  greater_equal-code : (e : TruthExpr) (l r : NumberExpr) → e ≡ t.GreaterEq l r → truth_in names e ≡ c.greater_equal (number_in names l) (number_in names r)
  unfolding truth_in
  greater_equal-code e l r is = ap (truth_in names) is

  pub greater_equal_value : (e : TruthExpr) (l r : NumberExpr) (y z : ℤ) → e ≡ t.GreaterEq l r → TruthFits names e → (NumberFits names l → NumberFits names r → (num l ≡ value y) × (num r ≡ value z)) → val e ≡ value (int_le z y)
  greater_equal_value e l r y z is fits two =
      let parts = greater_equal-fits e l r is fits in
      let values = two parts.0 parts.1 in
      ap (λ a. truth_of a s) (greater_equal-code e l r is) ∙ both-value (num l) (num r) (λ a b. int_le b a) y z values.0 values.1

  greater_equal-by : (e : TruthExpr) (l r : NumberExpr) → e ≡ t.GreaterEq l r → (d : Fault) → TwoFault (number_in names l) (number_in names r) s d → Fails e d
  unfolding IsFault TruthOverflows
  greater_equal-by e l r is (f.Null p) fault = ap (λ a. truth_of a s) (greater_equal-code e l r is) ∙ two-null (num l) (num r) (λ a b. int_le b a) p fault
  greater_equal-by e l r is (f.Overflow p) fault = subst (λ a. TruthOverflows p a s) (sym (greater_equal-code e l r is)) fault

  pub greater_equal_fault : (e : TruthExpr) (l r : NumberExpr) (d : Fault) → e ≡ t.GreaterEq l r → TruthFits names e → (NumberFits names l → NumberFits names r → TwoFault (number_in names l) (number_in names r) s d) → Fails e d
  greater_equal_fault e l r d is fits two = let parts = greater_equal-fits e l r is fits in greater_equal-by e l r is d (two parts.0 parts.1)

-- of two objects
pub pair_left : (a b : c.ObjectCode) (s : State) (d : Fault) → IsFault (object_of a s) Never d → TwoObjectFault a b s d
unfolding IsFault
pair_left a b s (f.Null p) fault = ap (λ v. then_value v (λ y. object_of b s)) fault
pair_left a b s (f.Overflow p) fault = fault

pub pair_right : (a b : c.ObjectCode) (s : State) (y : ℕ) (d : Fault) → object_of a s ≡ value y → IsFault (object_of b s) Never d → TwoObjectFault a b s d
unfolding IsFault
pair_right a b s y (f.Null p) left fault = ap (λ v. then_value v (λ y. object_of b s)) left ∙ fault
pair_right a b s y (f.Overflow p) left fault = fault

pub ruleset truth_steps = (literal_value, truth_name_value, truth_read_value, truth_read_fault, not_value, not_inner, and_decided, and_left, or_decided, or_left, same_value, same_left, same_right, same_object_value, same_object_fault, same_number_value, same_number_fault, less_value, less_fault, less_equal_value, less_equal_fault, greater_value, greater_fault, greater_equal_value, greater_equal_fault)

pub ruleset pair_steps = (pair_left, pair_right)
