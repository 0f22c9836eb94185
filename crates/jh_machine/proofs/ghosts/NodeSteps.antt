-- The values of nodes by their sorts, and what is stored of them.
use Rattle.std.proofs.Common.{◌≡◌, refl, sym, ap, subst, ◌∙◌, ◌⊎◌, inl, inr, ℕ, suc, ◌<◌, ◌≤◌, ℤ, Bool, true, false, ◌&&◌, ◌==◌, not, if◌then◌else◌, leb, nat_lt, List, [], Option, Some, None, slice_get, length, arith}
use Rattle.std.proofs.lemmas.Bool.{cases_lt, lt-ltb, le-ltb}
use Rattle.std.proofs.lemmas.Bool.Decides.{nat_tests}
use Rattle.std.proofs.lemmas.Option.{slice_get-get_or}
use Rattle.std.specs.declared.alloc.Global.{Global}
use Rattle.std.specs.declared.vec.Vec.{Vec}
use Rattle.jh_name.specs.declared.naming.Name.{Name}
use Rattle.jh_name.specs.declared.place.Place.{Place}
use Rattle.jh_name.specs.declared.place.Sort.TheVariants as Sort
use Rattle.jh_form.specs.Tree.{ValueTree, FormulaTree, TermTree, of_truth, of_object, of_number, of_set, of_field, null}
use Rattle.jh_form.specs.Meaning.{Interp, Datum, an_object, a_number, a_truth, a_set, a_field, datum, truth, term_value, int_value, set_value, field_value}
use Rattle.jh_form.specs.Assigned.{assigned}
use Rattle.jh_form.specs.Passing.{name_equal}
use Rattle.jh_form.specs.Sorts.{tree_sort}
use Rattle.jh_form.proofs.Names.{name_equal-true}
use Rattle.jh_arena.specs.table.Entries.{is_object, is_number, is_truth, is_set, the_object, the_number, the_truth, the_set, the_value}
use Rattle.jh_sem.specs.declared.answer.SemError.{SemError}
use Rattle.jh_sem.specs.declared.answer.SemError.TheVariants as e
use Rattle.jh_sem.specs.Wide.{AreInside, IsWide}
use Rattle.jh_semantics.specs.Code.{Text}
use Rattle.jh_semantics.specs.State.{State, named, alloc_name, stored, stored_at}
use Rattle.jh_semantics.specs.Objects.{is_free}
use Rattle.jh_operands.specs.declared.values.Scalar.{Scalar}
use Rattle.jh_operands.specs.declared.values.Scalar.TheVariants as y
use Rattle.jh_operands.specs.Scalars.{datum_of, IsInside}
use Rattle.jh_machine.specs.declared.continuation.stop.Stop.{Stop}
use Rattle.jh_machine.specs.declared.continuation.stop.Stop.TheVariants as s
use Rattle.jh_machine.specs.continuation.Formulas.{ValueOverflows, OverflowsOnly, stop_for}
use Rattle.jh_machine.specs.declared.ghosts.ghosts.NodeValue.{NodeValue}
use Rattle.jh_machine.specs.declared.ghosts.ghosts.NodeValue.TheVariants as v
use Rattle.jh_machine.specs.ghosts.Nodes.{IsValue, ValueInside, AreMembers}

-- no object stands for a bound variable
pub none_bound : (last : ℕ) → AreInside last []
none_bound last = λ k. omega arith

pub some_there : (ts : List ValueTree) (i : ℕ) → i < length ts → slice_get ts i ≡ Some (the_value (slice_get ts i))
unfolding the_value
some_there ts i lt =
    let h = slice_get-get_or ts i (of_object null) lt in
    h ∙ ap (λ (z : Option ValueTree). Some (the_value z)) (sym h)

module _ (o : Option ValueTree) where
  pub sort_truth : Sort.Bool ≡ tree_sort (the_value o) → is_truth o ≡ true
  unfolding the_value is_truth
  sort_truth h = by o h
    where
      by : (o : Option ValueTree) → Sort.Bool ≡ tree_sort (the_value o) → is_truth o ≡ true
      by (Some (of_object a)) h = cc
      by (Some (of_number a)) h = cc
      by (Some (of_truth a)) h = refl
      by (Some (of_set a)) h = cc
      by (Some (of_field a)) h = cc
      by None h = cc

  pub sort_object : (v : ValueTree) → o ≡ Some v → Sort.Obj ≡ tree_sort (the_value o) → is_object o ≡ true
  unfolding the_value is_object
  sort_object v is h = sym (by v (h ∙ ap (λ z. tree_sort (the_value z)) is) ∙ ap is_object (sym is))
    where
      by : (v : ValueTree) → Sort.Obj ≡ tree_sort v → true ≡ is_object (Some v)
      by (of_object a) h = refl
      by (of_number a) h = cc
      by (of_truth a) h = cc
      by (of_set a) h = cc
      by (of_field a) h = cc

  pub sort_number : Sort.Int ≡ tree_sort (the_value o) → is_number o ≡ true
  unfolding the_value is_number
  sort_number h = by o h
    where
      by : (o : Option ValueTree) → Sort.Int ≡ tree_sort (the_value o) → is_number o ≡ true
      by (Some (of_object a)) h = cc
      by (Some (of_number a)) h = refl
      by (Some (of_truth a)) h = cc
      by (Some (of_set a)) h = cc
      by (Some (of_field a)) h = cc
      by None h = cc

  pub sort_set : Sort.Set ≡ tree_sort (the_value o) → is_set o ≡ true
  unfolding the_value is_set
  sort_set h = by o h
    where
      by : (o : Option ValueTree) → Sort.Set ≡ tree_sort (the_value o) → is_set o ≡ true
      by (Some (of_object a)) h = cc
      by (Some (of_number a)) h = cc
      by (Some (of_truth a)) h = cc
      by (Some (of_set a)) h = refl
      by (Some (of_field a)) h = cc
      by None h = cc

  truth_there : (f : FormulaTree) → o ≡ Some (of_truth f) → the_truth o ≡ f
  unfolding the_truth
  truth_there f is = ap the_truth is

  object_there : (a : TermTree) → o ≡ Some (of_object a) → the_object o ≡ a
  unfolding the_object
  object_there a is = ap the_object is

  pub truth_is : (f : FormulaTree) → o ≡ Some (of_truth f) → (m : Interp) (b : Bool) → b ≡ truth (the_truth o) m [] → b ≡ truth f m []
  truth_is f is m b h = h ∙ ap (λ g. truth g m []) (truth_there f is)

  pub object_is : (a : TermTree) → o ≡ Some (of_object a) → (m : Interp) (x : ℕ) → x ≡ term_value (the_object o) m [] → x ≡ term_value a m []
  object_is a is m x h = h ∙ ap (λ g. term_value g m []) (object_there a is)

  pub truth_wide : (f : FormulaTree) → o ≡ Some (of_truth f) → (m : Interp) (p : Place) (why : Stop) → OverflowsOnly p (IsWide m (of_truth (the_truth o))) why → OverflowsOnly p (IsWide m (of_truth f)) why
  truth_wide f is m p why h = subst (λ g. OverflowsOnly p (IsWide m (of_truth g)) why) (truth_there f is) h

  pub object_wide : (a : TermTree) → o ≡ Some (of_object a) → (m : Interp) (p : Place) (why : Stop) → OverflowsOnly p (IsWide m (of_object (the_object o))) why → OverflowsOnly p (IsWide m (of_object a)) why
  object_wide a is m p why h = subst (λ g. OverflowsOnly p (IsWide m (of_object g)) why) (object_there a is) h

-- a formula without an answer stops at its place
stop_only : (p : Place) (why : SemError) (Overflows : Type 0) → (why ≡ e.Wide → Overflows) → OverflowsOnly p Overflows (stop_for p why)
unfolding stop_for OverflowsOnly
stop_only p e.Wide Overflows h = (refl, h refl)
stop_only p e.Memory Overflows h = tt

pub stop_as : (p : Place) (why : SemError) (stop : Stop) (Overflows : Type 0) → stop ≡ stop_for p why → (why ≡ e.Wide → Overflows) → OverflowsOnly p Overflows stop
stop_as p why stop Overflows is h = subst (λ (z : Stop). OverflowsOnly p Overflows z) (sym is) (stop_only p why Overflows h)

pub overflows_weaker : (p : Place) (Less More : Type 0) → (Less → More) → (why : Stop) → OverflowsOnly p Less why → OverflowsOnly p More why
unfolding OverflowsOnly
overflows_weaker p Less More f (s.Overflow q) h = (h.0, f h.1)
overflows_weaker p Less More f s.Memory h = tt
overflows_weaker p Less More f (s.Null q) h = absurd h
overflows_weaker p Less More f (s.AssertFailed q) h = absurd h
overflows_weaker p Less More f (s.NoObject q) h = absurd h
overflows_weaker p Less More f s.StepsOut h = absurd h

pub memory_only : (p : Place) (Overflows : Type 0) (why : Stop) → why ≡ s.Memory → OverflowsOnly p Overflows why
unfolding OverflowsOnly
memory_only p Overflows why is = subst (λ (z : Stop). OverflowsOnly p Overflows z) (sym is) tt

-- the value of a node by its sort
module _ (last : ℕ) (o : Option ValueTree) (w : ValueTree) (is : o ≡ Some w) (m : Interp) (p : Place) where
  pub object_value : Sort.Obj ≡ tree_sort (the_value o) → (x : ℕ) → ((a : TermTree) → o ≡ Some (of_object a) → x ≡ term_value a m []) → IsValue last (v.Scalar (y.Object x)) (datum w m [])
  unfolding the_value IsValue datum_of
  object_value at x h = by w is (at ∙ ap (λ z. tree_sort (the_value z)) is)
    where
      by : (w : ValueTree) → o ≡ Some w → Sort.Obj ≡ tree_sort w → datum w m [] ≡ an_object x
      by (of_object a) is at = ap an_object (sym (h a is))
      by (of_number a) is at = cc
      by (of_truth a) is at = cc
      by (of_set a) is at = cc
      by (of_field a) is at = cc

  pub object_stop : Sort.Obj ≡ tree_sort (the_value o) → (why : Stop) → ((a : TermTree) → o ≡ Some (of_object a) → OverflowsOnly p (IsWide m (of_object a)) why) → OverflowsOnly p (ValueOverflows m w) why
  unfolding the_value
  object_stop at why h = by w is (at ∙ ap (λ z. tree_sort (the_value z)) is)
    where
      by : (w : ValueTree) → o ≡ Some w → Sort.Obj ≡ tree_sort w → OverflowsOnly p (ValueOverflows m w) why
      by (of_object a) is at = overflows_weaker p (IsWide m (of_object a)) (ValueOverflows m (of_object a)) (λ wide. inl wide) why (h a is)
      by (of_number a) is at = cc
      by (of_truth a) is at = cc
      by (of_set a) is at = cc
      by (of_field a) is at = cc

  pub truth_value : Sort.Bool ≡ tree_sort (the_value o) → (x : Bool) → ((f : FormulaTree) → o ≡ Some (of_truth f) → x ≡ truth f m []) → IsValue last (v.Scalar (y.Truth x)) (datum w m [])
  unfolding the_value IsValue datum_of
  truth_value at x h = by w is (at ∙ ap (λ z. tree_sort (the_value z)) is)
    where
      by : (w : ValueTree) → o ≡ Some w → Sort.Bool ≡ tree_sort w → datum w m [] ≡ a_truth x
      by (of_truth a) is at = ap a_truth (sym (h a is))
      by (of_number a) is at = cc
      by (of_object a) is at = cc
      by (of_set a) is at = cc
      by (of_field a) is at = cc

  pub truth_stop : Sort.Bool ≡ tree_sort (the_value o) → (why : Stop) → ((f : FormulaTree) → o ≡ Some (of_truth f) → OverflowsOnly p (IsWide m (of_truth f)) why) → OverflowsOnly p (ValueOverflows m w) why
  unfolding the_value
  truth_stop at why h = by w is (at ∙ ap (λ z. tree_sort (the_value z)) is)
    where
      by : (w : ValueTree) → o ≡ Some w → Sort.Bool ≡ tree_sort w → OverflowsOnly p (ValueOverflows m w) why
      by (of_truth a) is at = overflows_weaker p (IsWide m (of_truth a)) (ValueOverflows m (of_truth a)) (λ wide. inl wide) why (h a is)
      by (of_number a) is at = cc
      by (of_object a) is at = cc
      by (of_set a) is at = cc
      by (of_field a) is at = cc

  pub number_value : Sort.Int ≡ tree_sort (the_value o) → (x : ℤ) → x ≡ int_value (the_number o) m [] → IsValue last (v.Scalar (y.Number x)) (datum w m [])
  unfolding the_value the_number IsValue datum_of
  number_value at x h = by w (at ∙ ap (λ z. tree_sort (the_value z)) is) (h ∙ ap (λ z. int_value (the_number z) m []) is)
    where
      by : (w : ValueTree) → Sort.Int ≡ tree_sort w → x ≡ int_value (the_number (Some w)) m [] → datum w m [] ≡ a_number x
      by (of_number a) at h = ap a_number (sym h)
      by (of_object a) at h = cc
      by (of_truth a) at h = cc
      by (of_set a) at h = cc
      by (of_field a) at h = cc

  pub number_stop : Sort.Int ≡ tree_sort (the_value o) → (why : Stop) → OverflowsOnly p (ValueOverflows m (of_number (the_number o))) why → OverflowsOnly p (ValueOverflows m w) why
  unfolding the_value the_number
  number_stop at why h = by w (at ∙ ap (λ z. tree_sort (the_value z)) is) (subst (λ z. OverflowsOnly p (ValueOverflows m (of_number (the_number z))) why) is h)
    where
      by : (w : ValueTree) → Sort.Int ≡ tree_sort w → OverflowsOnly p (ValueOverflows m (of_number (the_number (Some w)))) why → OverflowsOnly p (ValueOverflows m w) why
      by (of_number a) at h = h
      by (of_object a) at h = cc
      by (of_truth a) at h = cc
      by (of_set a) at h = cc
      by (of_field a) at h = cc

  pub set_is : Sort.Set ≡ tree_sort (the_value o) → (row : Vec Bool Global) → AreMembers last row.items (set_value (the_set o) m []) → IsValue last (v.Set row) (datum w m [])
  unfolding the_value the_set IsValue
  set_is at row h = by w (at ∙ ap (λ z. tree_sort (the_value z)) is) (subst (λ z. AreMembers last row.items (set_value (the_set z) m [])) is h)
    where
      by : (w : ValueTree) → Sort.Set ≡ tree_sort w → AreMembers last row.items (set_value (the_set (Some w)) m []) → (test : ℕ → Bool) × (datum w m [] ≡ a_set test) × AreMembers last row.items test
      by (of_set a) at h = (set_value a m [], refl, h)
      by (of_object a) at h = cc
      by (of_truth a) at h = cc
      by (of_number a) at h = cc
      by (of_field a) at h = cc

  pub set_stop : Sort.Set ≡ tree_sort (the_value o) → (why : Stop) → OverflowsOnly p (IsWide m (of_set (the_set o))) why → OverflowsOnly p (ValueOverflows m w) why
  unfolding the_value the_set
  set_stop at why h = by w (at ∙ ap (λ z. tree_sort (the_value z)) is) (subst (λ z. OverflowsOnly p (IsWide m (of_set (the_set z))) why) is h)
    where
      by : (w : ValueTree) → Sort.Set ≡ tree_sort w → OverflowsOnly p (IsWide m (of_set (the_set (Some w)))) why → OverflowsOnly p (ValueOverflows m w) why
      by (of_set a) at h = overflows_weaker p (IsWide m (of_set a)) (ValueOverflows m (of_set a)) (λ wide. inl wide) why h
      by (of_object a) at h = cc
      by (of_truth a) at h = cc
      by (of_number a) at h = cc
      by (of_field a) at h = cc

  pub field_is : Sort.Field ≡ tree_sort (the_value o) → IsValue last v.Field (datum w m [])
  unfolding the_value IsValue
  field_is at = by w (at ∙ ap (λ z. tree_sort (the_value z)) is)
    where
      by : (w : ValueTree) → Sort.Field ≡ tree_sort w → IsValue last v.Field (datum w m [])
      by (of_field a) at = (field_value a m [], refl)
      by (of_object a) at = cc
      by (of_truth a) at = cc
      by (of_number a) at = cc
      by (of_set a) at = cc

-- what is stored of a value, by its variant
module _ (last : ℕ) (x : NodeValue) (d : Datum) (inside : ValueInside last x) (is : IsValue last x d) where
  pub scalar_is : (z : Scalar) → x ≡ v.Scalar z → IsInside last z × (d ≡ datum_of z)
  unfolding IsValue ValueInside
  scalar_is z e = (subst (λ (y : NodeValue). ValueInside last y) e inside, subst (λ (y : NodeValue). IsValue last y d) e is)

  pub set_members : (row : Vec Bool Global) → x ≡ v.Set row → (test : ℕ → Bool) × (d ≡ a_set test) × AreMembers last row.items test
  unfolding IsValue
  set_members row e = subst (λ (y : NodeValue). IsValue last y d) e is

  pub field_stored : x ≡ v.Field → (m : State) (t : Text) → m ≡ stored m t d
  unfolding IsValue
  field_stored e m t =
      let whole : IsValue last v.Field d = subst (λ (y : NodeValue). IsValue last y d) e is in
      sym (ap (stored m t) whole.1)

-- a field that gets its own value at an object is as it was
own-field : (m : State) (x : Name) → assigned m x (a_field (m.field x)) ≡ m
own-field m x = λ j. record m { field = λ y. by y (name_equal y x) refl j }
  where
    by : (y : Name) (b : Bool) → name_equal y x ≡ b → (if b then m.field x else m.field y) ≡ m.field y
    by y true e = ap m.field (sym (name_equal-true y x e))
    by y false e = refl

pub field_stored_at : (last : ℕ) (x : NodeValue) (d : Datum) → IsValue last x d → x ≡ v.Field → (m : State) (t : Text) (a : ℕ) → m ≡ stored_at m t a d
unfolding IsValue
field_stored_at last x d is e m t a =
    let whole : IsValue last v.Field d = subst (λ (y : NodeValue). IsValue last y d) e is in
    sym (ap (stored_at m t a) whole.1 ∙ own-field m (named t))

-- an object isn't there yet
at-most : (a n : ℕ) → leb a n ≡ nat_lt a (suc n)
at-most a n = by (cases_lt a (suc n)) (leb a n) refl
  where
    by : (a < suc n) ⊎ (suc n ≤ a) → (b : Bool) → leb a n ≡ b → leb a n ≡ nat_lt a (suc n)
    by (inl h) true e = e ∙ sym (lt-ltb a (suc n) h)
    by (inl h) false e = grind (arith, nat_tests)
    by (inr h) true e = grind (arith, nat_tests)
    by (inr h) false e = e ∙ sym (le-ltb a (suc n) h)

pub free_is : (m : State) (a l : ℕ) (one has r : Bool) → l ≡ m.last → one ≡ (not (a == 0) && leb a l) → has ≡ m.set alloc_name a → r ≡ (one && not has) → r ≡ is_free m a
free_is m a l one has r el eo eh er =
    er ∙ ap (λ b. b && not has) (eo ∙ ap (λ n. not (a == 0) && leb a n) el ∙ ap (λ b. not (a == 0) && b) (at-most a m.last))
    ∙ ap (λ t. not (a == 0) && nat_lt a (suc m.last) && not t) eh
