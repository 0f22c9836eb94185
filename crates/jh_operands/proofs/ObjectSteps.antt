-- What the arms of objects cite.
use Rattle.std.proofs.Common.{◌≡◌, refl, sym, ap, subst, ◌∙◌, ℕ, zero, suc, ◌<◌, List, Some, length, slice_get}
use Rattle.std.specs.declared.alloc.Global.{Global}
use Rattle.std.specs.declared.boxed.Box.{Box}
use Rattle.std.proofs.lemmas.Option.{slice_get_within}
use Rattle.jh_name.specs.declared.naming.Name.{Name}
use Rattle.jh_name.specs.declared.place.Place.{Place}
use Rattle.jh_semantics.specs.Code.{ObjectCode}
use Rattle.jh_semantics.specs.Code as c
use Rattle.jh_semantics.specs.State.{State, named, this_name}
use Rattle.jh_semantics.specs.Values.{Value, value, null_at, then_value, dereferenced, object_of, read_at}
use Rattle.jh_operands.specs.declared.fault.Fault.{Fault}
use Rattle.jh_operands.specs.declared.fault.Fault.TheVariants as f
use Rattle.jh_operands.specs.declared.exprs.ObjectExpr.{ObjectExpr}
use Rattle.jh_operands.specs.declared.exprs.ObjectExpr.TheVariants as x
use Rattle.jh_operands.specs.Exprs.{object_in, ObjectFits, text_at, IsPlain}
use Rattle.jh_operands.specs.Faults.{IsFault, Never, ObjectFault, receiver_of, unless_null}

module _ (names : List Name) where
  pub object_in-Null : object_in names x.Null ≡ c.null
  unfolding object_in
  object_in-Null = refl

  pub object_in-This : (k : ℕ) → object_in names (x.This k) ≡ c.this
  unfolding object_in
  object_in-This k = refl

  pub object_in-Name : (k : ℕ) → object_in names (x.Name k) ≡ c.object (text_at names k)
  unfolding object_in
  object_in-Name k = refl

  pub object_in-Read : (k : ℕ) (r : Box ObjectExpr Global) (q : Place) → object_in names (x.Read k r q) ≡ c.read_object (text_at names k) (object_in names r.value) q
  unfolding object_in
  object_in-Read k r q = refl

  -- the numbers of an expression are those of names, and below their count
  pub this_fits : (e : ObjectExpr) (k : ℕ) → e ≡ x.This k → ObjectFits names e → slice_get names k ≡ Some this_name
  unfolding ObjectFits
  this_fits e k is fits = subst (λ d. ObjectFits names d) is fits

  pub name_fits : (e : ObjectExpr) (k : ℕ) → e ≡ x.Name k → ObjectFits names e → IsPlain names k
  unfolding ObjectFits
  name_fits e k is fits = subst (λ d. ObjectFits names d) is fits

  read_fits : (e : ObjectExpr) (k : ℕ) (r : Box ObjectExpr Global) (q : Place) → e ≡ x.Read k r q → ObjectFits names e → IsPlain names k × ObjectFits names r.value
  unfolding ObjectFits
  read_fits e k r q is fits = subst (λ d. ObjectFits names d) is fits

  pub field_fits : (e : ObjectExpr) (k : ℕ) (r : Box ObjectExpr Global) (q : Place) → e ≡ x.Read k r q → ObjectFits names e → IsPlain names k
  field_fits e k r q is fits = (read_fits e k r q is fits).0

  pub receiver_fits : (e : ObjectExpr) (k : ℕ) (r : Box ObjectExpr Global) (q : Place) → e ≡ x.Read k r q → ObjectFits names e → ObjectFits names r.value
  receiver_fits e k r q is fits = (read_fits e k r q is fits).1

  -- the value of a read, from that of its receiver and from what the field has there
  pub read_value : (s : State) (e : ObjectExpr) (k : ℕ) (r : Box ObjectExpr Global) (q : Place) (a b v : ℕ) → e ≡ x.Read k r q → ObjectFits names e → object_of (object_in names r.value) s ≡ value a → dereferenced (object_in names r.value) q a ≡ value b → ((y : Name) → slice_get names k ≡ Some y → v ≡ (s.field y).objects b) →
      object_of (object_in names e) s ≡ value v
  unfolding object_in
  read_value s e k r q a b v is fits object safe reads =
      let g = (s.field (named (text_at names k))).objects in
      ap (λ d. object_of (object_in names d) s) is ∙ ap (λ w. read_at (object_in names r.value) q w g) object ∙ ap (λ w. then_value w (λ o. value (g o))) safe ∙ ap value (sym (reads (named (text_at names k)) (field_fits e k r q is fits)))

  -- a fault of the receiver's object, or of its dereference, is one of the read
  pub read_object_faults : (s : State) (e : ObjectExpr) (k : ℕ) (r : Box ObjectExpr Global) (q : Place) (d : Fault) → e ≡ x.Read k r q → ObjectFault (object_in names r.value) s d → ObjectFault (object_in names e) s d
  unfolding object_in IsFault
  read_object_faults s e k r q (f.Null p) is fault = ap (λ d. object_of (object_in names d) s) is ∙ ap (λ w. read_at (object_in names r.value) q w (s.field (named (text_at names k))).objects) fault
  read_object_faults s e k r q (f.Overflow p) is fault = fault

  pub read_null_faults : (s : State) (e : ObjectExpr) (k : ℕ) (r : Box ObjectExpr Global) (q : Place) (a : ℕ) (d : Fault) → e ≡ x.Read k r q → object_of (object_in names r.value) s ≡ value a → IsFault (dereferenced (object_in names r.value) q a) Never d → ObjectFault (object_in names e) s d
  unfolding object_in IsFault
  read_null_faults s e k r q a (f.Null p) is object fault =
      let g = (s.field (named (text_at names k))).objects in
      ap (λ d. object_of (object_in names d) s) is ∙ ap (λ w. read_at (object_in names r.value) q w g) object ∙ ap (λ w. then_value w (λ o. value (g o))) fault
  read_null_faults s e k r q a (f.Overflow p) is object fault = fault

  pub this_within : (e : ObjectExpr) (k : ℕ) → e ≡ x.This k → ObjectFits names e → k < length names
  this_within e k is fits = slice_get_within names k this_name (this_fits e k is fits)

  pub name_within : (e : ObjectExpr) (k : ℕ) → e ≡ x.Name k → ObjectFits names e → k < length names
  name_within e k is fits = slice_get_within names k (named (text_at names k)) (name_fits e k is fits)

  pub field_within : (e : ObjectExpr) (k : ℕ) (r : Box ObjectExpr Global) (q : Place) → e ≡ x.Read k r q → ObjectFits names e → k < length names
  field_within e k r q is fits = slice_get_within names k (named (text_at names k)) (field_fits e k r q is fits)

  -- the values of the arms
  pub null_value : (s : State) (e : ObjectExpr) → e ≡ x.Null → object_of (object_in names e) s ≡ value 0
  unfolding object_in
  null_value s e is = ap (λ d. object_of (object_in names d) s) is

  pub this_value : (s : State) (e : ObjectExpr) (k a : ℕ) → e ≡ x.This k → ObjectFits names e → ((y : Name) → slice_get names k ≡ Some y → a ≡ s.object y) → object_of (object_in names e) s ≡ value a
  unfolding object_in
  this_value s e k a is fits reads = ap (λ d. object_of (object_in names d) s) is ∙ ap value (sym (reads this_name (this_fits e k is fits)))

  pub name_value : (s : State) (e : ObjectExpr) (k a : ℕ) → e ≡ x.Name k → ObjectFits names e → ((y : Name) → slice_get names k ≡ Some y → a ≡ s.object y) → object_of (object_in names e) s ≡ value a
  unfolding object_in
  name_value s e k a is fits reads = ap (λ d. object_of (object_in names d) s) is ∙ ap value (sym (reads (named (text_at names k)) (name_fits e k is fits)))

-- a read is its receiver's value, and then what the field has there
pub read-is : {X : Type 0} (r : ObjectCode) (p : Place) (s : State) (g : ℕ → X) → read_at r p (object_of r s) g ≡ then_value (receiver_of r p s) (λ b. value (g b))
read-is {X} r p s g = by (object_of r s)
  where
    by : (v : Value ℕ) → read_at r p v g ≡ then_value (then_value v (dereferenced r p)) (λ b. value (g b))
    by (value a) = refl
    by (null_at q) = refl

-- what the receiver is
pub receiver-is : (r : ObjectCode) (p : Place) (s : State) (a : ℕ) (v : Value ℕ) → object_of r s ≡ value a → dereferenced r p a ≡ v → receiver_of r p s ≡ v
receiver-is r p s a v object is = ap (λ w. then_value w (dereferenced r p)) object ∙ is

-- a fault of a receiver's object, or of its dereference
pub receiver-faults : (r : ObjectCode) (p : Place) (s : State) (e : Fault) → IsFault (object_of r s) Never e → IsFault (receiver_of r p s) Never e
unfolding IsFault
receiver-faults r p s (f.Null q) fault = ap (λ w. then_value w (dereferenced r p)) fault
receiver-faults r p s (f.Overflow q) fault = fault

pub null-faults : (r : ObjectCode) (p : Place) (s : State) (a : ℕ) (e : Fault) → object_of r s ≡ value a → IsFault (dereferenced r p a) Never e → IsFault (receiver_of r p s) Never e
unfolding IsFault
null-faults r p s a (f.Null q) object fault = ap (λ w. then_value w (dereferenced r p)) object ∙ fault
null-faults r p s a (f.Overflow q) object fault = fault

-- what is asked of each receiver but `this`
pub null_is : (names : List Name) (e : ObjectExpr) (q : Place) (a : ℕ) → e ≡ x.Null → dereferenced (object_in names e) q a ≡ unless_null q a
unfolding object_in
null_is names e q a is = ap (λ d. dereferenced (object_in names d) q a) is ∙ by a
  where
    by : (a : ℕ) → dereferenced c.null q a ≡ unless_null q a
    by zero = refl
    by (suc a) = refl

pub named_is : (names : List Name) (e : ObjectExpr) (k : ℕ) (q : Place) (a : ℕ) → e ≡ x.Name k → dereferenced (object_in names e) q a ≡ unless_null q a
unfolding object_in
named_is names e k q a is = ap (λ d. dereferenced (object_in names d) q a) is ∙ by a
  where
    by : (a : ℕ) → dereferenced (c.object (text_at names k)) q a ≡ unless_null q a
    by zero = refl
    by (suc a) = refl

pub read_is : (names : List Name) (e : ObjectExpr) (k : ℕ) (r : Box ObjectExpr Global) (p q : Place) (a : ℕ) → e ≡ x.Read k r p → dereferenced (object_in names e) q a ≡ unless_null q a
unfolding object_in
read_is names e k r p q a is = ap (λ d. dereferenced (object_in names d) q a) is ∙ by a
  where
    by : (a : ℕ) → dereferenced (c.read_object (text_at names k) (object_in names r.value) p) q a ≡ unless_null q a
    by zero = refl
    by (suc a) = refl

pub this_is : (names : List Name) (e : ObjectExpr) (k : ℕ) (q : Place) (a : ℕ) → e ≡ x.This k → dereferenced (object_in names e) q a ≡ value a
unfolding object_in
this_is names e k q a is = ap (λ d. dereferenced (object_in names d) q a) is

pub no_fault : (q : Place) (a : ℕ) → a ≡ 0 → IsFault (unless_null q a) Never (f.Null q)
unfolding IsFault
no_fault q a e = ap (unless_null q) e

pub some_value : (q : Place) (a : ℕ) → (a ≡ 0 → ⊥) → unless_null q a ≡ value a
some_value q zero h = absurd (h refl)
some_value q (suc a) h = refl

-- a fault of one value is that of an equal one
pub same_fault : (v w : Value ℕ) (e : Fault) → w ≡ v → IsFault v Never e → IsFault w Never e
same_fault v w e same fault = subst (λ u. IsFault u Never e) (sym same) fault

pub ruleset dereference_steps = (null_is, named_is, read_is, this_is, no_fault, some_value, same_fault)

pub ruleset object_steps = (null_value, this_value, name_value, receiver_fits)

pub ruleset receiver_steps = (receiver-is, receiver-faults, null-faults)
