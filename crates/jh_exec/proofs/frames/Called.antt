-- Calls and their ends.
use Rattle.std.proofs.Common.{◌≡◌, refl, sym, ap, subst, ◌∙◌, ◌⊎◌, inl, inr, ℕ, List, ◌∷◌, Option, Some, None, slice_get}
use Rattle.std.specs.Option.{option_map_or}
use Rattle.jh_name.specs.declared.naming.Name.{Name}
use Rattle.jh_name.specs.declared.place.Place.{Place}
use Rattle.jh_form.specs.Meaning.{Datum, an_object}
use Rattle.jh_form.specs.Assigned.{assigned}
use Rattle.jh_arena.specs.table.Entries.{Listing}
use Rattle.jh_vars.specs.Written.{Callee}
use Rattle.jh_semantics.specs.Code.{Stmt, Target}
use Rattle.jh_semantics.specs.Program.{Program, Method}
use Rattle.jh_semantics.specs.State.{State, this_name}
use Rattle.jh_semantics.specs.Objects.{put}
use Rattle.jh_semantics.specs.Locals.{with_locals_of, without_locals, with_args, entered}
use Rattle.jh_semantics.specs.Progress.{Configuration, Progress, goes_on, steps_out, stopped, pay_from}
use Rattle.jh_semantics.specs.Execution.{exec_all, calls, call, back, at_entry, result_of}
use Rattle.jh_store.specs.memory.Held.{state_of}
use Rattle.jh_operands.specs.declared.values.Scalar.{Scalar}
use Rattle.jh_operands.specs.Scalars.{IsInside}
use Rattle.jh_machine_code.specs.declared.code.body.Body.{Body}
use Rattle.jh_machine_code.specs.code.Steps.{IsBody, MethodIs}
use Rattle.jh_machine.specs.declared.continuation.stop.Stop as code
use Rattle.jh_machine.specs.continuation.Stops.{StopsAs}
use Rattle.jh_machine.specs.continuation.Overflows.{OwnOverflows, CallOverflows, own}
use Rattle.jh_machine.specs.continuation.Todos.{Todo, rest, return_to, resume, through, StackOverflows, TodoOverflows, Reaches, EndsAs}
use Rattle.jh_machine.specs.continuation.Done.{done, Else}
use Rattle.jh_machine.specs.continuation.Resumed.{Resumes}
use Rattle.jh_machine.proofs.continuation.Reaching.{stops-end, ends_there, resume-stops}
use Rattle.jh_machine.specs.declared.machine.prepared.Prepared.{Prepared}
use Rattle.jh_machine.specs.declared.machine.machine.Machine.{Machine}
use Rattle.jh_machine.specs.machine.Machines.{stands, WasPaid}
use Rattle.jh_exec.specs.declared.frames.frames.Frame.{Frame}
use Rattle.jh_exec.specs.declared.frames.frames.Way.{Way}
use Rattle.jh_exec.specs.declared.frames.frames.Way.TheVariants as way
use Rattle.jh_exec.specs.frames.Calls.{Calls}
use Rattle.jh_exec.specs.frames.Frames.{IsRun, Stands, WayInside, progress, way_value}
use Rattle.jh_exec.proofs.frames.Arguments.{calls_done, calls_overflow}
use Rattle.jh_exec.proofs.frames.Standing.{is_paid}

-- the body of a method, by its number
module _ (names : List Name) (t : Listing) (numbered : Callee → Option ℕ) (bodies : List Body) (n : Option ℕ) where
  pub absent_method : (o : Option Method) → MethodIs names t numbered bodies o n → n ≡ None → o ≡ None
  unfolding MethodIs
  absent_method None h e = refl
  absent_method (Some m) h e = cc

  pub there_method : (o : Option Method) → MethodIs names t numbered bodies o n → (k : ℕ) → n ≡ Some k → (b : Body) → slice_get bodies k ≡ Some b → (m : Method) × (o ≡ Some m) × IsBody names t numbered b m
  unfolding MethodIs
  there_method None h k e b at = cc
  there_method (Some m) h k e b at =
      let same : h.0 ≡ k = cc in
      let there : slice_get bodies k ≡ Some h.1 = subst (λ i. slice_get bodies i ≡ Some h.1) same h.3 in
      let body : h.1 ≡ b = cc in
      (m, refl, subst (λ (z : Body). IsBody names t numbered z m) body h.4)

-- the state in which a body begins, from its steps
pub begins : (m : Method) (a : ℕ) (ds : List Datum) (first clear given all : State) → clear ≡ without_locals first → given ≡ assigned clear this_name (an_object a) → all ≡ with_args m.params ds given → all ≡ entered m a ds first
begins m a ds first clear given all x y z = z ∙ ap (with_args m.params ds) (y ∙ ap (λ (n : State). assigned n this_name (an_object a)) x)

module _ (p : Program) where
  -- no step was left for a call
  pub unpaid_call : (m : Callee) (a : ℕ) (ds : List Datum) (r : Configuration) (ks : List Todo) → r.steps ≡ 0 → resume p ks (call p m a ds r) ≡ stopped steps_out
  unpaid_call m a ds r ks h =
      ap (resume p ks) (ap (λ k. pay_from k r (λ (u : Configuration). option_map_or (λ (y : Method). exec_all (calls r.steps p) y.body (at_entry y a ds u)) (p.method m) (goes_on u))) h)
      ∙ resume-stops p ks steps_out

  module _ (law : Resumes p) (numbered : Callee → Option ℕ) (x : Prepared) (m : Callee) (a : ℕ) (ds : List Datum) (old paid : Machine) (s : State) (ks : List Todo) (is : WasPaid old paid) where
    -- what overflows in a call, or in what is to be done behind it
    abbrev pub CallElse : Place → Type 0
    CallElse q = CallOverflows p q m a ds (stands old s) ⊎ StackOverflows p q ks (call p m a ds (stands old s))

    pub absent_stands : (frames : List Frame) → IsRun p numbered x paid.now.names paid.now.last paid.entry frames s ks → p.method m ≡ None →
        Stands p numbered x paid frames way.On (resume p ks (call p m a ds (stands old s))) CallElse
    unfolding WayInside progress
    absent_stands frames run none = record {
      entry = s;
      todos = ks;
      is_run = run;
      inside = tt;
      reaches = law.absent m a ds (stands old s) (stands paid s) (is_paid old paid s is) ks none;
    }

    pub entered_stands : (y : Method) (new : Machine) (frames : List Frame) → p.method m ≡ Some y → new ≡ record paid { now = new.now; entry = new.entry } → state_of new.now ≡ entered y a ds (state_of paid.now) →
        IsRun p numbered x new.now.names new.now.last new.entry frames (state_of old.now) (rest y.body ∷ ks) → Stands p numbered x new frames way.On (resume p ks (call p m a ds (stands old s))) CallElse
    unfolding WayInside progress
    entered_stands y new frames some same begun run = record {
      entry = state_of old.now;
      todos = rest y.body ∷ ks;
      is_run = run;
      inside = tt;
      reaches =
          subst (λ (u : Configuration). Reaches p (resume p ks (call p m a ds (stands old s))) CallElse (rest y.body ∷ ks) (goes_on u)) there
          (law.entered m a ds (stands old s) (stands paid s) (is_paid old paid s is) ks y some);
    }
      where
        first : state_of paid.now ≡ state_of old.now
        first = ap (λ (z : Machine). state_of z.now) is.same

        there : at_entry y a ds (stands paid s) ≡ stands new (state_of old.now)
        there =
            ap (λ (z : State). record (stands paid s) { now = entered y a ds (state_of paid.now); entry = z }) first
            ∙ ap (λ (z : State). record (stands paid s) { now = z; entry = state_of old.now }) (sym begun)
            ∙ ap (λ (z : Machine). record { now = state_of new.now; entry = state_of old.now; picks = (stands z s).picks; steps = z.steps }) (sym same)

  -- a call that waits for its end
  module _ (c : Stmt) (r : Configuration) (t : Target) (m : Callee) (object on : ℕ) (ds : List Datum) (is : Calls c r t m object on ds) (ks : List Todo) where
    called : resume p (return_to r t object ∷ ks) (call p m on ds r) ≡ resume p ks (done p c r)
    unfolding resume through
    called = ap (resume p ks) (sym (calls_done p c r t m object on ds is))

    over : (q : Place) → CallOverflows p q m on ds r ⊎ StackOverflows p q (return_to r t object ∷ ks) (call p m on ds r) → Else p c r ks q
    unfolding StackOverflows TodoOverflows through
    over q (inl h) = inl (calls_overflow p c r t m object on ds is q h)
    over q (inr (inl h)) = absurd h
    over q (inr (inr h)) = inr (subst (λ (z : Progress). StackOverflows p q ks z) (sym (calls_done p c r t m object on ds is)) h)

    pub call_stands : (numbered : Callee → Option ℕ) (x : Prepared) (new : Machine) (frames : List Frame) (w : Way) →
        Stands p numbered x new frames w (resume p (return_to r t object ∷ ks) (call p m on ds r)) (λ q. CallOverflows p q m on ds r ⊎ StackOverflows p q (return_to r t object ∷ ks) (call p m on ds r)) →
        Stands p numbered x new frames w (resume p ks (done p c r)) (Else p c r ks)
    call_stands numbered x new frames w h = record {
      entry = h.entry;
      todos = h.todos;
      is_run = h.is_run;
      inside = h.inside;
      reaches = record { same = h.reaches.same ∙ called; faults = λ q f. over q (h.reaches.faults q f) };
    }

    pub call_ends : (why : code.Stop) → EndsAs (resume p (return_to r t object ∷ ks) (call p m on ds r)) (λ q. ⊥) why → EndsAs (resume p ks (done p c r)) (Else p c r ks) why
    call_ends why h = ends_there p (resume p (return_to r t object ∷ ks) (call p m on ds r)) (resume p ks (done p c r)) (λ q. ⊥) (Else p c r ks) why called (λ q no. absurd no) h

  -- a statement that stops by itself
  pub own_ends : (a : Stmt) (r : Configuration) (ks : List Todo) (why : code.Stop) → StopsAs (done p a r) (λ q. OwnOverflows q a r) why → EndsAs (resume p ks (done p a r)) (Else p a r ks) why
  own_ends a r ks why h = stops-end p ks (done p a r) (λ q. OwnOverflows q a r) (Else p a r ks) why h (λ q o. inl (own o))

-- the end of a call
pub back_put : (caller : Configuration) (t : Target) (a : ℕ) (w : Way) (r : Configuration) → back caller t a (progress w r) ≡ put t a (result_of (way_value w)) (record r { now = with_locals_of r.now caller.now; entry = caller.entry })
unfolding progress way_value
back_put caller t a way.On r = refl
back_put caller t a (way.Return v) r = refl

-- the value that a way returns is of the universe
pub some_inside : (last : ℕ) (w : Way) (v : Scalar) → w ≡ way.Return (Some v) → WayInside last w → IsInside last v
unfolding WayInside
some_inside last w v e h = subst (λ (z : Way). WayInside last z) e h
