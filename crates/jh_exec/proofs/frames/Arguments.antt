-- The values of arguments, and of calls.
use Rattle.std.proofs.Common.{◌≡◌, refl, sym, ap, subst, ◌∙◌, ◌⊎◌, inl, inr, ℕ, zero, suc, Bool, ◌<◌, ◌≤◌, List, [], ◌∷◌, ◌++◌, Option, Some, None, map, length, get_or, drop, drop-cons, arith}
use Rattle.std.proofs.lemmas.List.{drop_all}
use Rattle.jh_name.specs.declared.naming.Name.{Name}
use Rattle.jh_name.specs.declared.place.Place.{Place}
use Rattle.jh_form.specs.Meaning.{Datum}
use Rattle.jh_arena.specs.table.Entries.{Listing}
use Rattle.jh_vars.specs.Written.{Callee}
use Rattle.jh_semantics.specs.Code.{AnyCode, ObjectCode, Target, Stmt}
use Rattle.jh_semantics.specs.Code as c
use Rattle.jh_semantics.specs.Program.{Program}
use Rattle.jh_semantics.specs.State.{State}
use Rattle.jh_semantics.specs.Values.{Value, value, value_of}
use Rattle.jh_semantics.specs.Objects.{target_of}
use Rattle.jh_semantics.specs.Progress.{Configuration, Progress, with_value}
use Rattle.jh_semantics.specs.Execution.{with_values, receiver_of, called_on, back, call}
use Rattle.jh_operands.specs.declared.exprs.AnyExpr.{AnyExpr}
use Rattle.jh_operands.specs.declared.exprs.ObjectExpr.{ObjectExpr}
use Rattle.jh_operands.specs.declared.fault.Fault.{Fault}
use Rattle.jh_operands.specs.declared.values.Scalar.{Scalar}
use Rattle.jh_operands.specs.Exprs.{any_in, object_in, AnyFits, ObjectFits}
use Rattle.jh_operands.specs.Faults.{HasValue, AnyOverflows, AnyFault, IsFault, Never}
use Rattle.jh_operands.specs.Scalars.{datum_of, IsInside}
use Rattle.jh_machine_code.specs.code.Steps.{ReceiverIs, AllFit}
use Rattle.jh_machine.specs.locals.Locals.{AllInside}
use Rattle.jh_machine.specs.declared.continuation.stop.Stop.{Stop}
use Rattle.jh_machine.specs.continuation.Stops.{stop_of, StopsAs, TargetFault}
use Rattle.jh_machine.specs.continuation.Overflows.{AreValues, ArgsOverflow, OwnOverflows, DoneOverflows, CallOverflows, in_call}
use Rattle.jh_machine.specs.continuation.Done.{done}
use Rattle.jh_machine.proofs.writes.TargetSteps.{stops_there, fault_stops}
use Rattle.jh_exec.specs.frames.Calls.{Calls}

module _ (names : List Name) where
  fits_at : (t : Listing) (numbered : Callee → Option ℕ) (keeps : Bool) (es : List AnyExpr) → AllFit names t numbered keeps es → (i : ℕ) (e : AnyExpr) → i < length es → AnyFits names (get_or es i e)
  unfolding AllFit
  fits_at t numbered keeps [] h i e lt = absurd (omega (lt, arith))
  fits_at t numbered keeps (a ∷ es) h zero e lt = h.0
  fits_at t numbered keeps (a ∷ es) h (suc i) e lt = fits_at t numbered keeps es h.1 i e (omega (lt, arith))

  pub fits_here : (t : Listing) (numbered : Callee → Option ℕ) (keeps : Bool) (es : List AnyExpr) → AllFit names t numbered keeps es → (i : ℕ) (e : AnyExpr) → i < length es → e ≡ get_or es i e → AnyFits names e
  fits_here t numbered keeps es h i e lt at = subst (λ (z : AnyExpr). AnyFits names z) (sym at) (fits_at t numbered keeps es h i e lt)

  codes-from : (es : List AnyExpr) (i : ℕ) (e : AnyExpr) → i < length es → e ≡ get_or es i e → map (any_in names) (drop i es) ≡ any_in names e ∷ map (any_in names) (drop (suc i) es)
  codes-from es i e lt at = ap (map (any_in names)) (drop-cons es i e lt) ∙ ap (λ (z : AnyExpr). any_in names z ∷ map (any_in names) (drop (suc i) es)) (sym at)

  module _ (es : List AnyExpr) (i : ℕ) (e : AnyExpr) (lt : i < length es) (at : e ≡ get_or es i e) (s : State) where
    -- the value of one more argument
    pub value_more : (v : Scalar) → value_of (any_in names e) s ≡ value (datum_of v) → (ds : List Datum) → AreValues (map (any_in names) (drop (suc i) es)) s ds → AreValues (map (any_in names) (drop i es)) s (datum_of v ∷ ds)
    unfolding AreValues
    value_more v is ds h = subst (λ (cs : List AnyCode). AreValues cs s (datum_of v ∷ ds)) (sym (codes-from es i e lt at)) (datum_of v, ds, is, h, refl)

    pub next_more : (v : Scalar) → value_of (any_in names e) s ≡ value (datum_of v) → (next : List Datum → Progress) →
        with_values (map (any_in names) (drop i es)) s next ≡ with_values (map (any_in names) (drop (suc i) es)) s (λ ds. next (datum_of v ∷ ds))
    next_more v is next =
        ap (λ (cs : List AnyCode). with_values cs s next) (codes-from es i e lt at)
        ∙ ap (λ (w : Value Datum). with_value w (λ d. with_values (map (any_in names) (drop (suc i) es)) s (λ ds. next (d ∷ ds)))) is

    pub over_more : (v : Scalar) → value_of (any_in names e) s ≡ value (datum_of v) → (q : Place) → ArgsOverflow q (map (any_in names) (drop (suc i) es)) s → ArgsOverflow q (map (any_in names) (drop i es)) s
    unfolding ArgsOverflow
    over_more v is q h = subst (λ (cs : List AnyCode). ArgsOverflow q cs s) (sym (codes-from es i e lt at)) (inr ((datum_of v, is), h))

    -- an argument without a value stops the run
    pub fault_more : (why : Fault) → AnyFault (any_in names e) s why → (next : List Datum → Progress) →
        StopsAs (with_values (map (any_in names) (drop i es)) s next) (λ q. ArgsOverflow q (map (any_in names) (drop i es)) s) (stop_of why)
    unfolding ArgsOverflow
    fault_more why h next =
        subst (λ (cs : List AnyCode). StopsAs (with_values cs s next) (λ q. ArgsOverflow q cs s) (stop_of why)) (sym (codes-from es i e lt at))
        (fault_stops (value_of (any_in names e) s) (λ d. with_values (map (any_in names) (drop (suc i) es)) s (λ ds. next (d ∷ ds))) (λ q. AnyOverflows q (any_in names e) s)
        (λ q. AnyOverflows q (any_in names e) s ⊎ (HasValue (value_of (any_in names e) s) × ArgsOverflow q (map (any_in names) (drop (suc i) es)) s)) why h (λ q o. inl o))

  pub no_more : (es : List AnyExpr) (i : ℕ) → length es ≤ i → (s : State) → AreValues (map (any_in names) (drop i es)) s []
  unfolding AreValues
  no_more es i h s = subst (λ (xs : List AnyExpr). AreValues (map (any_in names) xs) s []) (sym (drop_all i es h)) refl

-- one behind others
pub behind : (vs : List Scalar) (v : Scalar) (ds : List Datum) → map datum_of (vs ++ v ∷ []) ++ ds ≡ map datum_of vs ++ (datum_of v ∷ ds)
behind [] v ds = refl
behind (w ∷ vs) v ds = ap (λ (xs : List Datum). datum_of w ∷ xs) (behind vs v ds)

pub all_of : (ds : List Datum) → ds ++ [] ≡ ds
all_of [] = refl
all_of (d ∷ ds) = ap (λ (xs : List Datum). d ∷ xs) (all_of ds)

pub inside_behind : (last : ℕ) (vs : List Scalar) (v : Scalar) → AllInside last vs → IsInside last v → AllInside last (vs ++ v ∷ [])
unfolding AllInside
inside_behind last [] v h g = (g, tt)
inside_behind last (w ∷ vs) v h g = (h.0, inside_behind last vs v h.1 g)

-- what arguments with values lead to
values-go : (es : List AnyCode) (s : State) (ds : List Datum) → AreValues es s ds → (next : List Datum → Progress) → with_values es s next ≡ next ds
unfolding AreValues
values-go [] s ds h next = ap next (sym h)
values-go (e ∷ es) s ds h next =
    ap (λ (w : Value Datum). with_value w (λ d. with_values es s (λ xs. next (d ∷ xs)))) h.2 ∙ values-go es s h.1 h.3 (λ xs. next (h.0 ∷ xs)) ∙ ap next (sym h.4)

-- a receiver, and the object that is asked
module _ (names : List Name) (t : Listing) (numbered : Callee → Option ℕ) (keeps : Bool) (o : Option ObjectExpr) (r : Option ObjectCode) (is : ReceiverIs names t numbered keeps o r) where
  pub receiver_none : o ≡ None → r ≡ None
  unfolding ReceiverIs
  receiver_none e = subst (λ (z : Option ObjectExpr). ReceiverIs names t numbered keeps z r) e is

  pub receiver_some : (x : ObjectExpr) → o ≡ Some x → ObjectFits names x × (r ≡ Some (object_in names x))
  unfolding ReceiverIs
  receiver_some x e = subst (λ (z : Option ObjectExpr). ReceiverIs names t numbered keeps z r) e is

pub fault_same : {X : Type 0} (v w : Value X) (why : Fault) → w ≡ v → IsFault v Never why → IsFault w Never why
fault_same v w why e h = subst (λ z. IsFault z Never why) (sym e) h

-- a call from its values
module _ (p : Program) (a : Stmt) (r : Configuration) (t : Target) (m : Callee) (object on : ℕ) (ds : List Datum) (is : Calls a r t m object on ds) where
  pub calls_done : done p a r ≡ back r t object (call p m on ds r)
  unfolding done
  calls_done =
      ap (λ z. done p z r) is.is
      ∙ ap (λ (w : Value ℕ). with_value w (λ b. with_value (receiver_of is.receiver r.now) (λ x. with_values is.args r.now (λ xs. with_value (called_on is.receiver is.receiver_place x) (λ y. back r t b (call p m y xs r)))))) is.goes
      ∙ ap (λ (w : Value ℕ). with_value w (λ x. with_values is.args r.now (λ xs. with_value (called_on is.receiver is.receiver_place x) (λ y. back r t object (call p m y xs r))))) is.asks
      ∙ values-go is.args r.now ds is.values (λ xs. with_value (called_on is.receiver is.receiver_place is.asked) (λ y. back r t object (call p m y xs r)))
      ∙ ap (λ (w : Value ℕ). with_value w (λ y. back r t object (call p m y ds r))) is.called

  pub calls_overflow : (q : Place) → CallOverflows p q m on ds r → DoneOverflows p q a r
  calls_overflow q h = subst (λ (z : Stmt). DoneOverflows p q z r) (sym is.is) (in_call is.goes is.asks is.values is.called h)

-- why a call has no values
module _ (p : Program) (q : Place) (t : Target) (o : Option ObjectCode) (l : Place) (m : Callee) (args : List AnyCode) (r : Configuration) where
  pub goes_stop : (why : Fault) → TargetFault t r.now why → StopsAs (done p (c.call q t o l m args) r) (λ x. OwnOverflows x (c.call q t o l m args) r) (stop_of why)
  unfolding done
  goes_stop why h =
      fault_stops (target_of t r.now) (λ a. with_value (receiver_of o r.now) (λ x. with_values args r.now (λ ds. with_value (called_on o l x) (λ y. back r t a (call p m y ds r)))))
      Never (λ x. OwnOverflows x (c.call q t o l m args) r) why h (λ x no. absurd no)

  module _ (a : ℕ) (goes : target_of t r.now ≡ value a) where
    first-is : done p (c.call q t o l m args) r ≡ with_value (receiver_of o r.now) (λ x. with_values args r.now (λ ds. with_value (called_on o l x) (λ y. back r t a (call p m y ds r))))
    unfolding done
    first-is = ap (λ (w : Value ℕ). with_value w (λ a. with_value (receiver_of o r.now) (λ x. with_values args r.now (λ ds. with_value (called_on o l x) (λ y. back r t a (call p m y ds r)))))) goes

    pub asks_stop : (why : Fault) → IsFault (receiver_of o r.now) Never why → StopsAs (done p (c.call q t o l m args) r) (λ x. OwnOverflows x (c.call q t o l m args) r) (stop_of why)
    asks_stop why h =
        stops_there (with_value (receiver_of o r.now) (λ x. with_values args r.now (λ ds. with_value (called_on o l x) (λ y. back r t a (call p m y ds r))))) (done p (c.call q t o l m args) r)
        (λ x. OwnOverflows x (c.call q t o l m args) r) (λ x. OwnOverflows x (c.call q t o l m args) r) (stop_of why) first-is (λ x h. h)
        (fault_stops (receiver_of o r.now) (λ x. with_values args r.now (λ ds. with_value (called_on o l x) (λ y. back r t a (call p m y ds r)))) Never (λ x. OwnOverflows x (c.call q t o l m args) r) why h (λ x no. absurd no))

    module _ (b : ℕ) (asks : receiver_of o r.now ≡ value b) where
      second-is : done p (c.call q t o l m args) r ≡ with_values args r.now (λ ds. with_value (called_on o l b) (λ y. back r t a (call p m y ds r)))
      second-is = first-is ∙ ap (λ (w : Value ℕ). with_value w (λ x. with_values args r.now (λ ds. with_value (called_on o l x) (λ y. back r t a (call p m y ds r))))) asks

      pub args_stop : (why : Stop) → StopsAs (with_values args r.now (λ ds. with_value (called_on o l b) (λ y. back r t a (call p m y ds r)))) (λ x. ArgsOverflow x args r.now) why →
          StopsAs (done p (c.call q t o l m args) r) (λ x. OwnOverflows x (c.call q t o l m args) r) why
      unfolding OwnOverflows
      args_stop why h =
          stops_there (with_values args r.now (λ ds. with_value (called_on o l b) (λ y. back r t a (call p m y ds r)))) (done p (c.call q t o l m args) r)
          (λ x. ArgsOverflow x args r.now) (λ x. HasValue (target_of t r.now) × HasValue (receiver_of o r.now) × ArgsOverflow x args r.now) why second-is (λ x h. ((a, goes), (b, asks), h)) h

      pub called_stop : (ds : List Datum) → AreValues args r.now ds → (why : Fault) → IsFault (called_on o l b) Never why → StopsAs (done p (c.call q t o l m args) r) (λ x. OwnOverflows x (c.call q t o l m args) r) (stop_of why)
      called_stop ds values why h =
          stops_there (with_value (called_on o l b) (λ y. back r t a (call p m y ds r))) (done p (c.call q t o l m args) r)
          (λ x. OwnOverflows x (c.call q t o l m args) r) (λ x. OwnOverflows x (c.call q t o l m args) r) (stop_of why)
          (second-is ∙ values-go args r.now ds values (λ ds. with_value (called_on o l b) (λ y. back r t a (call p m y ds r)))) (λ x h. h)
          (fault_stops (called_on o l b) (λ y. back r t a (call p m y ds r)) Never (λ x. OwnOverflows x (c.call q t o l m args) r) why h (λ x no. absurd no))

-- a statement that is a call stops as that
pub stops_as_call : (p : Program) (a b : Stmt) (r : Configuration) (why : Stop) → a ≡ b → StopsAs (done p b r) (λ x. OwnOverflows x b r) why → StopsAs (done p a r) (λ x. OwnOverflows x a r) why
stops_as_call p a b r why e h = subst (λ (z : Stmt). StopsAs (done p z r) (λ x. OwnOverflows x z r) why) (sym e) h
