-- What the arms of numbers cite: what an expression is, and its value or fault by those of its parts.
use Rattle.std.proofs.Common.{◌≡◌, refl, sym, ap, subst, ◌∙◌, inl, inr, ℕ, ℤ, ◌+ℤ◌, ◌-ℤ◌, ◌*ℤ◌, neg_ℤ, List, Some, slice_get, FitsSigned}
use Rattle.std.specs.Int.{w64}
use Rattle.std.specs.declared.alloc.Global.{Global}
use Rattle.std.specs.declared.boxed.Box.{Box}
use Rattle.jh_name.specs.declared.naming.Name.{Name}
use Rattle.jh_name.specs.declared.place.Place.{Place}
use Rattle.jh_semantics.specs.Code as c
use Rattle.jh_semantics.specs.State.{State, named}
use Rattle.jh_semantics.specs.Values.{Value, value, null_at, then_value, both_values, read_at, object_of, number_of}
use Rattle.jh_operands.specs.declared.fault.Fault.{Fault}
use Rattle.jh_operands.specs.declared.fault.Fault.TheVariants as f
use Rattle.jh_operands.specs.declared.exprs.ObjectExpr.{ObjectExpr}
use Rattle.jh_operands.specs.declared.exprs.NumberExpr.{NumberExpr}
use Rattle.jh_operands.specs.declared.exprs.NumberExpr.TheVariants as n
use Rattle.jh_operands.specs.Exprs.{text_at, IsPlain, object_in, number_in, ObjectFits, NumberFits}
use Rattle.jh_operands.specs.Faults.{NumberOverflows, IsFault, receiver_of, ReceiverFault, NumberFault, TwoFault}
use Rattle.jh_operands.proofs.ObjectSteps.{read-is}

-- a read has the fault of its receiver
pub read-null : {X : Type 0} (r : c.ObjectCode) (q : Place) (s : State) (g : ℕ → X) (p : Place) → receiver_of r q s ≡ null_at p → read_at r q (object_of r s) g ≡ null_at p
read-null r q s g p h = read-is r q s g ∙ ap (λ v. then_value v (λ b. value (g b))) h

pub read-value : {X : Type 0} (r : c.ObjectCode) (q : Place) (s : State) (g : ℕ → X) (a : ℕ) → receiver_of r q s ≡ value a → read_at r q (object_of r s) g ≡ value (g a)
read-value r q s g a h = read-is r q s g ∙ ap (λ v. then_value v (λ b. value (g b))) h

-- two operands
pub both-value : {X Y : Type 0} (u v : Value X) (g : X → X → Y) (y z : X) → u ≡ value y → v ≡ value z → both_values u v g ≡ value (g y z)
both-value u v g y z eu ev = ap (λ w. both_values w v g) eu ∙ ap (λ w. both_values (value y) w g) ev

pub both-left : {X Y : Type 0} (u v : Value X) (g : X → X → Y) (p : Place) → u ≡ null_at p → both_values u v g ≡ null_at p
both-left u v g p eu = ap (λ w. both_values w v g) eu

pub both-right : {X Y : Type 0} (u v : Value X) (g : X → X → Y) (y : X) (p : Place) → u ≡ value y → v ≡ null_at p → both_values u v g ≡ null_at p
both-right u v g y p eu ev = ap (λ w. both_values w v g) eu ∙ ap (λ w. both_values (value y) w g) ev

module _ (names : List Name) (s : State) where
  abbrev val : NumberExpr → Value ℤ
  val e = number_of (number_in names e) s

  abbrev Fails : NumberExpr → Fault → Type 0
  Fails e d = NumberFault (number_in names e) s d

  pub const_value : (e : NumberExpr) (z : ℤ) → e ≡ n.Const z → val e ≡ value z
  unfolding number_in
  const_value e z is = ap val is

  pub number_name_value : (e : NumberExpr) (k : ℕ) (z : ℤ) → e ≡ n.Name k → NumberFits names e → ((y : Name) → slice_get names k ≡ Some y → z ≡ s.number y) → val e ≡ value z
  unfolding number_in NumberFits
  number_name_value e k z is fits reads =
      let plain : IsPlain names k = subst (λ d. NumberFits names d) is fits in
      ap val is ∙ ap value (sym (reads (named (text_at names k)) plain))

  read-fits : (e : NumberExpr) (k : ℕ) (r : ObjectExpr) (q : Place) → e ≡ n.Read k r q → NumberFits names e → IsPlain names k × ObjectFits names r
  unfolding NumberFits
  read-fits e k r q is fits = subst (λ d. NumberFits names d) is fits

  pub number_read_value : (e : NumberExpr) (k : ℕ) (r : ObjectExpr) (q : Place) (a : ℕ) (z : ℤ) → e ≡ n.Read k r q → NumberFits names e → (ObjectFits names r → receiver_of (object_in names r) q s ≡ value a) → ((y : Name) → slice_get names k ≡ Some y → z ≡ (s.field y).numbers a) → val e ≡ value z
  unfolding number_in
  number_read_value e k r q a z is fits receiver reads =
      let parts = read-fits e k r q is fits in
      ap val is ∙ read-value (object_in names r) q s (s.field (named (text_at names k))).numbers a (receiver parts.1) ∙ ap value (sym (reads (named (text_at names k)) parts.0))

  pub number_read_fault : (e : NumberExpr) (k : ℕ) (r : ObjectExpr) (q : Place) (d : Fault) → e ≡ n.Read k r q → NumberFits names e → (ObjectFits names r → ReceiverFault (object_in names r) q s d) → Fails e d
  unfolding number_in IsFault
  number_read_fault e k r q (f.Null p) is fits receiver = ap val is ∙ read-null (object_in names r) q s (s.field (named (text_at names k))).numbers p (receiver (read-fits e k r q is fits).1)
  number_read_fault e k r q (f.Overflow p) is fits receiver = absurd (receiver (read-fits e k r q is fits).1)

  add-fits : (e : NumberExpr) (q : Place) (l r : Box NumberExpr Global) → e ≡ n.Add q l r → NumberFits names e → NumberFits names l.value × NumberFits names r.value
  unfolding NumberFits
  add-fits e q l r is fits = subst (λ d. NumberFits names d) is fits

  add-code : (e : NumberExpr) (q : Place) (l r : Box NumberExpr Global) → e ≡ n.Add q l r → number_in names e ≡ c.add q (number_in names l.value) (number_in names r.value)
  unfolding number_in
  add-code e q l r is = ap (number_in names) is

  pub add_value : (e : NumberExpr) (q : Place) (l r : Box NumberExpr Global) (y z : ℤ) → e ≡ n.Add q l r → NumberFits names e → (NumberFits names l.value → val l.value ≡ value y) → (NumberFits names r.value → val r.value ≡ value z) → val e ≡ value (y +ℤ z)
  add_value e q l r y z is fits left right =
      let parts = add-fits e q l r is fits in
      ap (λ a. number_of a s) (add-code e q l r is) ∙ both-value (val l.value) (val r.value) (λ a b. a +ℤ b) y z (left parts.0) (right parts.1)

  pub add_left : (e : NumberExpr) (q : Place) (l r : Box NumberExpr Global) (d : Fault) → e ≡ n.Add q l r → NumberFits names e → (NumberFits names l.value → Fails l.value d) → Fails e d
  unfolding IsFault NumberOverflows
  add_left e q l r (f.Null p) is fits left = ap (λ a. number_of a s) (add-code e q l r is) ∙ both-left (val l.value) (val r.value) (λ a b. a +ℤ b) p (left (add-fits e q l r is fits).0)
  add_left e q l r (f.Overflow p) is fits left = subst (λ a. NumberOverflows p a s) (sym (add-code e q l r is)) (inr (inl (left (add-fits e q l r is fits).0)))

  pub add_right : (e : NumberExpr) (q : Place) (l r : Box NumberExpr Global) (y : ℤ) (d : Fault) → e ≡ n.Add q l r → NumberFits names e → (NumberFits names l.value → val l.value ≡ value y) → (NumberFits names r.value → Fails r.value d) → Fails e d
  unfolding IsFault NumberOverflows
  add_right e q l r y (f.Null p) is fits left right =
      let parts = add-fits e q l r is fits in
      ap (λ a. number_of a s) (add-code e q l r is) ∙ both-right (val l.value) (val r.value) (λ a b. a +ℤ b) y p (left parts.0) (right parts.1)
  add_right e q l r y (f.Overflow p) is fits left right =
      let parts = add-fits e q l r is fits in
      subst (λ a. NumberOverflows p a s) (sym (add-code e q l r is)) (inr (inr ((y, left parts.0), right parts.1)))

  pub add_beyond : (e : NumberExpr) (q : Place) (l r : Box NumberExpr Global) (y z : ℤ) (d : Fault) → e ≡ n.Add q l r → NumberFits names e → (NumberFits names l.value → val l.value ≡ value y) → (NumberFits names r.value → val r.value ≡ value z) → d ≡ f.Overflow q → (FitsSigned w64 (y +ℤ z) → ⊥) → Fails e d
  unfolding IsFault NumberOverflows
  add_beyond e q l r y z d is fits left right fault beyond =
      let parts = add-fits e q l r is fits in
      let sum : number_of (c.add q (number_in names l.value) (number_in names r.value)) s ≡ value (y +ℤ z) = both-value (val l.value) (val r.value) (λ a b. a +ℤ b) y z (left parts.0) (right parts.1) in
      subst (λ g. Fails e g) (sym fault) (subst (λ a. NumberOverflows q a s) (sym (add-code e q l r is)) (inl (refl, (y +ℤ z, sum, beyond))))

  sub-fits : (e : NumberExpr) (q : Place) (l r : Box NumberExpr Global) → e ≡ n.Sub q l r → NumberFits names e → NumberFits names l.value × NumberFits names r.value
  unfolding NumberFits
  sub-fits e q l r is fits = subst (λ d. NumberFits names d) is fits

  sub-code : (e : NumberExpr) (q : Place) (l r : Box NumberExpr Global) → e ≡ n.Sub q l r → number_in names e ≡ c.sub q (number_in names l.value) (number_in names r.value)
  unfolding number_in
  sub-code e q l r is = ap (number_in names) is

  pub sub_value : (e : NumberExpr) (q : Place) (l r : Box NumberExpr Global) (y z : ℤ) → e ≡ n.Sub q l r → NumberFits names e → (NumberFits names l.value → val l.value ≡ value y) → (NumberFits names r.value → val r.value ≡ value z) → val e ≡ value (y -ℤ z)
  sub_value e q l r y z is fits left right =
      let parts = sub-fits e q l r is fits in
      ap (λ a. number_of a s) (sub-code e q l r is) ∙ both-value (val l.value) (val r.value) (λ a b. a -ℤ b) y z (left parts.0) (right parts.1)

  pub sub_left : (e : NumberExpr) (q : Place) (l r : Box NumberExpr Global) (d : Fault) → e ≡ n.Sub q l r → NumberFits names e → (NumberFits names l.value → Fails l.value d) → Fails e d
  unfolding IsFault NumberOverflows
  sub_left e q l r (f.Null p) is fits left = ap (λ a. number_of a s) (sub-code e q l r is) ∙ both-left (val l.value) (val r.value) (λ a b. a -ℤ b) p (left (sub-fits e q l r is fits).0)
  sub_left e q l r (f.Overflow p) is fits left = subst (λ a. NumberOverflows p a s) (sym (sub-code e q l r is)) (inr (inl (left (sub-fits e q l r is fits).0)))

  pub sub_right : (e : NumberExpr) (q : Place) (l r : Box NumberExpr Global) (y : ℤ) (d : Fault) → e ≡ n.Sub q l r → NumberFits names e → (NumberFits names l.value → val l.value ≡ value y) → (NumberFits names r.value → Fails r.value d) → Fails e d
  unfolding IsFault NumberOverflows
  sub_right e q l r y (f.Null p) is fits left right =
      let parts = sub-fits e q l r is fits in
      ap (λ a. number_of a s) (sub-code e q l r is) ∙ both-right (val l.value) (val r.value) (λ a b. a -ℤ b) y p (left parts.0) (right parts.1)
  sub_right e q l r y (f.Overflow p) is fits left right =
      let parts = sub-fits e q l r is fits in
      subst (λ a. NumberOverflows p a s) (sym (sub-code e q l r is)) (inr (inr ((y, left parts.0), right parts.1)))

  pub sub_beyond : (e : NumberExpr) (q : Place) (l r : Box NumberExpr Global) (y z : ℤ) (d : Fault) → e ≡ n.Sub q l r → NumberFits names e → (NumberFits names l.value → val l.value ≡ value y) → (NumberFits names r.value → val r.value ≡ value z) → d ≡ f.Overflow q → (FitsSigned w64 (y -ℤ z) → ⊥) → Fails e d
  unfolding IsFault NumberOverflows
  sub_beyond e q l r y z d is fits left right fault beyond =
      let parts = sub-fits e q l r is fits in
      let sum : number_of (c.sub q (number_in names l.value) (number_in names r.value)) s ≡ value (y -ℤ z) = both-value (val l.value) (val r.value) (λ a b. a -ℤ b) y z (left parts.0) (right parts.1) in
      subst (λ g. Fails e g) (sym fault) (subst (λ a. NumberOverflows q a s) (sym (sub-code e q l r is)) (inl (refl, (y -ℤ z, sum, beyond))))

  minus-fits : (e : NumberExpr) (q : Place) (a : Box NumberExpr Global) → e ≡ n.Minus q a → NumberFits names e → NumberFits names a.value
  unfolding NumberFits
  minus-fits e q a is fits = subst (λ d. NumberFits names d) is fits

  minus-code : (e : NumberExpr) (q : Place) (a : Box NumberExpr Global) → e ≡ n.Minus q a → number_in names e ≡ c.minus q (number_in names a.value)
  unfolding number_in
  minus-code e q a is = ap (number_in names) is

  pub minus_value : (e : NumberExpr) (q : Place) (a : Box NumberExpr Global) (y : ℤ) → e ≡ n.Minus q a → NumberFits names e → (NumberFits names a.value → val a.value ≡ value y) → val e ≡ value (neg_ℤ y)
  minus_value e q a y is fits inner = ap (λ b. number_of b s) (minus-code e q a is) ∙ ap (λ v. then_value v (λ x. value (neg_ℤ x))) (inner (minus-fits e q a is fits))

  pub minus_inner : (e : NumberExpr) (q : Place) (a : Box NumberExpr Global) (d : Fault) → e ≡ n.Minus q a → NumberFits names e → (NumberFits names a.value → Fails a.value d) → Fails e d
  unfolding IsFault NumberOverflows
  minus_inner e q a (f.Null p) is fits inner = ap (λ b. number_of b s) (minus-code e q a is) ∙ ap (λ v. then_value v (λ x. value (neg_ℤ x))) (inner (minus-fits e q a is fits))
  minus_inner e q a (f.Overflow p) is fits inner = subst (λ b. NumberOverflows p b s) (sym (minus-code e q a is)) (inr (inner (minus-fits e q a is fits)))

  pub minus_beyond : (e : NumberExpr) (q : Place) (a : Box NumberExpr Global) (y : ℤ) (d : Fault) → e ≡ n.Minus q a → NumberFits names e → (NumberFits names a.value → val a.value ≡ value y) → d ≡ f.Overflow q → (FitsSigned w64 (neg_ℤ y) → ⊥) → Fails e d
  unfolding IsFault NumberOverflows
  minus_beyond e q a y d is fits inner fault beyond =
      let made : number_of (c.minus q (number_in names a.value)) s ≡ value (neg_ℤ y) = ap (λ v. then_value v (λ x. value (neg_ℤ x))) (inner (minus-fits e q a is fits)) in
      subst (λ g. Fails e g) (sym fault) (subst (λ b. NumberOverflows q b s) (sym (minus-code e q a is)) (inl (refl, (neg_ℤ y, made, beyond))))

  times-fits : (e : NumberExpr) (q : Place) (k : ℤ) (a : Box NumberExpr Global) → e ≡ n.Times q k a → NumberFits names e → NumberFits names a.value
  unfolding NumberFits
  times-fits e q k a is fits = subst (λ d. NumberFits names d) is fits

  times-code : (e : NumberExpr) (q : Place) (k : ℤ) (a : Box NumberExpr Global) → e ≡ n.Times q k a → number_in names e ≡ c.times q k (number_in names a.value)
  unfolding number_in
  times-code e q k a is = ap (number_in names) is

  pub times_value : (e : NumberExpr) (q : Place) (k : ℤ) (a : Box NumberExpr Global) (y : ℤ) → e ≡ n.Times q k a → NumberFits names e → (NumberFits names a.value → val a.value ≡ value y) → val e ≡ value (k *ℤ y)
  times_value e q k a y is fits inner = ap (λ b. number_of b s) (times-code e q k a is) ∙ ap (λ v. then_value v (λ x. value (k *ℤ x))) (inner (times-fits e q k a is fits))

  pub times_inner : (e : NumberExpr) (q : Place) (k : ℤ) (a : Box NumberExpr Global) (d : Fault) → e ≡ n.Times q k a → NumberFits names e → (NumberFits names a.value → Fails a.value d) → Fails e d
  unfolding IsFault NumberOverflows
  times_inner e q k a (f.Null p) is fits inner = ap (λ b. number_of b s) (times-code e q k a is) ∙ ap (λ v. then_value v (λ x. value (k *ℤ x))) (inner (times-fits e q k a is fits))
  times_inner e q k a (f.Overflow p) is fits inner = subst (λ b. NumberOverflows p b s) (sym (times-code e q k a is)) (inr (inner (times-fits e q k a is fits)))

  pub times_beyond : (e : NumberExpr) (q : Place) (k : ℤ) (a : Box NumberExpr Global) (y : ℤ) (d : Fault) → e ≡ n.Times q k a → NumberFits names e → (NumberFits names a.value → val a.value ≡ value y) → d ≡ f.Overflow q → (FitsSigned w64 (k *ℤ y) → ⊥) → Fails e d
  unfolding IsFault NumberOverflows
  times_beyond e q k a y d is fits inner fault beyond =
      let made : number_of (c.times q k (number_in names a.value)) s ≡ value (k *ℤ y) = ap (λ v. then_value v (λ x. value (k *ℤ x))) (inner (times-fits e q k a is fits)) in
      subst (λ g. Fails e g) (sym fault) (subst (λ b. NumberOverflows q b s) (sym (times-code e q k a is)) (inl (refl, (k *ℤ y, made, beyond))))

-- of two numbers
pub two_left : (a b : c.NumberCode) (s : State) (d : Fault) → NumberFault a s d → TwoFault a b s d
unfolding IsFault
two_left a b s (f.Null p) fault = ap (λ v. then_value v (λ y. number_of b s)) fault
two_left a b s (f.Overflow p) fault = inl fault

pub two_right : (a b : c.NumberCode) (s : State) (y : ℤ) (d : Fault) → number_of a s ≡ value y → NumberFault b s d → TwoFault a b s d
unfolding IsFault
two_right a b s y (f.Null p) left fault = ap (λ v. then_value v (λ y. number_of b s)) left ∙ fault
two_right a b s y (f.Overflow p) left fault = inr ((y, left), fault)

pub ruleset number_steps = (const_value, number_name_value, number_read_value, number_read_fault, add_left, add_right, sub_left, sub_right, minus_inner, times_inner)

pub ruleset two_steps = (two_left, two_right)
