-- Where values go, by the destination.
use Rattle.std.proofs.Common.{◌≡◌, refl, sym, ap, subst, ◌∙◌, ℕ, suc, ◌<◌, ℤ, Bool, List}
use Rattle.jh_name.specs.declared.naming.Name.{Name}
use Rattle.jh_name.specs.declared.place.Place.{Place}
use Rattle.jh_form.specs.Meaning.{Datum, an_object, a_number, a_truth}
use Rattle.jh_operands.specs.declared.values.Scalar.{Scalar}
use Rattle.jh_operands.specs.declared.values.Scalar.TheVariants as y
use Rattle.jh_operands.specs.Scalars.{datum_of, IsInside}
use Rattle.jh_semantics.specs.Code as c
use Rattle.jh_semantics.specs.State.{State, stored, stored_at}
use Rattle.jh_semantics.specs.Values.{Value, value, null_at, dereferenced, object_of, value_of}
use Rattle.jh_semantics.specs.Objects.{target_of, put}
use Rattle.jh_semantics.specs.Progress.{Configuration, Progress, goes_on, stops, null_dereferenced, goes_on_in, with_value}
use Rattle.jh_operands.specs.declared.fault.Fault.{Fault}
use Rattle.jh_operands.specs.declared.fault.Fault.TheVariants as f
use Rattle.jh_operands.specs.declared.exprs.ObjectExpr.{ObjectExpr}
use Rattle.jh_operands.specs.Exprs.{object_in, text_at, IsPlain, ObjectFits}
use Rattle.jh_operands.specs.Faults.{IsFault, Never, HasValue, AnyOverflows}
use Rattle.jh_machine_code.specs.declared.code.destination.Destination.{Destination}
use Rattle.jh_machine_code.specs.declared.code.destination.Destination.TheVariants as x
use Rattle.jh_machine_code.specs.code.Destinations.{undeclared, target_in, DestinationFits, IsTarget}
use Rattle.jh_machine.specs.declared.continuation.stop.Stop.{Stop}
use Rattle.jh_machine.specs.declared.continuation.stop.Stop.TheVariants as s
use Rattle.jh_machine.specs.continuation.Stops.{stop_of, StopsAs, TargetFault}
use Rattle.jh_machine.specs.continuation.Assigning.{assigned_by, AssignOverflows}

-- a local that is declared is as any other name
object-same : (t : c.Target) (m : State) → target_of t m ≡ target_of (undeclared t) m
unfolding undeclared
object-same c.nowhere m = refl
object-same (c.to_new l) m = refl
object-same (c.to_name z) m = refl
object-same (c.to_field g r q) m = refl

put-same : (t : c.Target) (a : ℕ) (d : Datum) (r : Configuration) → put t a d r ≡ put (undeclared t) a d r
unfolding undeclared
put-same c.nowhere a d r = refl
put-same (c.to_new l) a d r = refl
put-same (c.to_name z) a d r = refl
put-same (c.to_field g e q) a d r = refl

module _ (names : List Name) (d : Destination) (t : c.Target) (is : IsTarget names d t) (e : Destination) (same : d ≡ e) where
  fits-there : DestinationFits names e
  fits-there = subst (λ (z : Destination). DestinationFits names z) same is.fits

  object-there : (m : State) → target_of t m ≡ target_of (target_in names e) m
  object-there m = object-same t m ∙ ap (λ u. target_of u m) (is.same ∙ ap (target_in names) same)

  put-there : (a : ℕ) (v : Datum) (r : Configuration) → put t a v r ≡ put (target_in names e) a v r
  put-there a v r = put-same t a v r ∙ ap (λ u. put u a v r) (is.same ∙ ap (target_in names) same)

module _ (names : List Name) (d : Destination) (t : c.Target) (is : IsTarget names d t) where
  pub nowhere_object : d ≡ x.Nowhere → (m : State) → target_of t m ≡ value 0
  unfolding target_in
  nowhere_object e m = object-there names d t is x.Nowhere e m

  pub name_object : (k : ℕ) → d ≡ x.Name k → (m : State) → target_of t m ≡ value 0
  unfolding target_in
  name_object k e m = object-there names d t is (x.Name k) e m

  pub field_fits : (k : ℕ) (r : ObjectExpr) (q : Place) → d ≡ x.Field k r q → ObjectFits names r
  unfolding DestinationFits
  field_fits k r q e = (fits-there names d t is (x.Field k r q) e).1

  pub field_plain : (k : ℕ) (r : ObjectExpr) (q : Place) → d ≡ x.Field k r q → IsPlain names k
  unfolding DestinationFits
  field_plain k r q e = (fits-there names d t is (x.Field k r q) e).0

  pub name_plain : (k : ℕ) → d ≡ x.Name k → IsPlain names k
  unfolding DestinationFits
  name_plain k e = fits-there names d t is (x.Name k) e

  pub field_object : (k : ℕ) (r : ObjectExpr) (q : Place) → d ≡ x.Field k r q → (m : State) (v : Value ℕ) → object_of (object_in names r) m ≡ v → target_of t m ≡ v
  unfolding target_in
  field_object k r q e m v h = object-there names d t is (x.Field k r q) e m ∙ h

  pub field_fault : (k : ℕ) (r : ObjectExpr) (q : Place) → d ≡ x.Field k r q → (m : State) (why : Fault) → IsFault (object_of (object_in names r) m) Never why → TargetFault t m why
  unfolding target_in IsFault
  field_fault k r q e m (f.Null p) h = object-there names d t is (x.Field k r q) e m ∙ h
  field_fault k r q e m (f.Overflow p) h = h

  pub put_nowhere : d ≡ x.Nowhere → (a : ℕ) (v : Datum) (r : Configuration) (m : State) → r.now ≡ m → put t a v r ≡ goes_on_in r m
  unfolding target_in
  put_nowhere e a v r m at = put-there names d t is x.Nowhere e a v r ∙ ap (λ n. goes_on_in r n) at

  pub put_to_name : (k : ℕ) → d ≡ x.Name k → (a : ℕ) (v : Datum) (r : Configuration) (m n : State) → r.now ≡ m → n ≡ stored m (text_at names k) v → put t a v r ≡ goes_on_in r n
  unfolding target_in
  put_to_name k e a v r m n at new = put-there names d t is (x.Name k) e a v r ∙ ap (λ z. goes_on_in r (stored z (text_at names k) v)) at ∙ ap (λ z. goes_on_in r z) (sym new)

  pub put_to_field : (k : ℕ) (o : ObjectExpr) (q : Place) → d ≡ x.Field k o q → (a b : ℕ) (v : Datum) (r : Configuration) (m n : State) → r.now ≡ m → dereferenced (object_in names o) q a ≡ value b →
      n ≡ stored_at m (text_at names k) b v → put t a v r ≡ goes_on_in r n
  unfolding target_in
  put_to_field k o q e a b v r m n at on new =
      put-there names d t is (x.Field k o q) e a v r
      ∙ ap (λ w. with_value w (λ b. goes_on_in r (stored_at r.now (text_at names k) b v))) on
      ∙ ap (λ z. goes_on_in r (stored_at z (text_at names k) b v)) at ∙ ap (λ z. goes_on_in r z) (sym new)

  pub put_to_null : (k : ℕ) (o : ObjectExpr) (q : Place) → d ≡ x.Field k o q → (a : ℕ) (v : Datum) (r : Configuration) (why : Fault) → IsFault (dereferenced (object_in names o) q a) Never why → StopsAs (put t a v r) Never (stop_of why)
  unfolding target_in IsFault StopsAs stop_of
  put_to_null k o q e a v r (f.Null p) h = put-there names d t is (x.Field k o q) e a v r ∙ ap (λ w. with_value w (λ b. goes_on_in r (stored_at r.now (text_at names k) b v))) h
  put_to_null k o q e a v r (f.Overflow p) h = h

-- want of memory stops as anything
pub memory_stops : (g : Progress) (Overflows : Place → Type 0) (why : Stop) → why ≡ s.Memory → StopsAs g Overflows why
unfolding StopsAs
memory_stops g Overflows why e = subst (λ (z : Stop). StopsAs g Overflows z) (sym e) tt

-- a stop is that of what leads to the same, and overflows where the other does
pub stops_there : (g k : Progress) (Less More : Place → Type 0) (why : Stop) → k ≡ g → ((p : Place) → Less p → More p) → StopsAs g Less why → StopsAs k More why
unfolding StopsAs
stops_there g k Less More (s.Null q) e f h = e ∙ h
stops_there g k Less More (s.AssertFailed q) e f h = e ∙ h
stops_there g k Less More (s.NoObject q) e f h = e ∙ h
stops_there g k Less More s.StepsOut e f h = e ∙ h
stops_there g k Less More (s.Overflow q) e f h = f q h
stops_there g k Less More s.Memory e f h = tt

-- a value that isn't there stops the run, and a fault in it is that of the run
pub fault_stops : {X : Type 0} (v : Value X) (next : X → Progress) (Own Overflows : Place → Type 0) (why : Fault) → IsFault v Own why → ((p : Place) → Own p → Overflows p) → StopsAs (with_value v next) Overflows (stop_of why)
unfolding IsFault StopsAs stop_of
fault_stops v next Own Overflows (f.Null p) h g = ap (λ w. with_value w next) h
fault_stops v next Own Overflows (f.Overflow p) h g = g p h

-- an assignment, from its parts
module _ (t : c.Target) (code : c.AnyCode) (r : Configuration) (m : State) (at : r.now ≡ m) where
  pub first_stops : (why : Fault) → TargetFault t m why → StopsAs (assigned_by t code r) (λ p. AssignOverflows p t code r.now) (stop_of why)
  first_stops why h =
      fault_stops (target_of t r.now) (λ a. with_value (value_of code r.now) (λ d. put t a d r)) Never (λ p. AssignOverflows p t code r.now) why (subst (λ n. TargetFault t n why) (sym at) h) (λ p no. absurd no)

  pub with_object : (a : ℕ) → target_of t m ≡ value a → assigned_by t code r ≡ with_value (value_of code r.now) (λ d. put t a d r)
  with_object a h = ap (λ w. with_value w (λ a. with_value (value_of code r.now) (λ d. put t a d r))) (ap (target_of t) at ∙ h)

  pub second_stops : (a : ℕ) → target_of t m ≡ value a → (why : Fault) → IsFault (value_of code m) (λ p. AnyOverflows p code m) why → StopsAs (assigned_by t code r) (λ p. AssignOverflows p t code r.now) (stop_of why)
  second_stops a h why g =
      stops_there (with_value (value_of code r.now) (λ d. put t a d r)) (assigned_by t code r) (λ p. AnyOverflows p code r.now) (λ p. AssignOverflows p t code r.now) (stop_of why) (with_object a h)
      (λ p over. ((a, ap (target_of t) at ∙ h), over))
      (fault_stops (value_of code r.now) (λ d. put t a d r) (λ p. AnyOverflows p code r.now) (λ p. AnyOverflows p code r.now) why (subst (λ n. IsFault (value_of code n) (λ p. AnyOverflows p code n) why) (sym at) g) (λ p over. over))

  pub with_both : (a : ℕ) → target_of t m ≡ value a → (d : Datum) → value_of code m ≡ value d → assigned_by t code r ≡ put t a d r
  with_both a h d g = with_object a h ∙ ap (λ w. with_value w (λ d. put t a d r)) (ap (value_of code) at ∙ g)

-- what is stored of a value, by its variant
module _ (v : Scalar) (last : ℕ) where
  pub object_inside : (a : ℕ) → v ≡ y.Object a → IsInside last v → a < suc last
  unfolding IsInside
  object_inside a e h = subst (λ (z : Scalar). IsInside last z) e h

  pub stored_as : (d : Datum) → datum_of v ≡ d → (m n : State) (x : List ℕ) → n ≡ stored m x d → n ≡ stored m x (datum_of v)
  stored_as d e m n x h = h ∙ ap (stored m x) (sym e)

  pub stored_at_as : (d : Datum) → datum_of v ≡ d → (m n : State) (x : List ℕ) (a : ℕ) → n ≡ stored_at m x a d → n ≡ stored_at m x a (datum_of v)
  stored_at_as d e m n x a h = h ∙ ap (stored_at m x a) (sym e)

  pub object_datum : (a : ℕ) → v ≡ y.Object a → datum_of v ≡ an_object a
  unfolding datum_of
  object_datum a e = ap datum_of e

  pub number_datum : (z : ℤ) → v ≡ y.Number z → datum_of v ≡ a_number z
  unfolding datum_of
  number_datum z e = ap datum_of e

  pub truth_datum : (b : Bool) → v ≡ y.Truth b → datum_of v ≡ a_truth b
  unfolding datum_of
  truth_datum b e = ap datum_of e
