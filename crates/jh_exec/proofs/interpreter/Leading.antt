-- Where steps of the machine lead.
use Rattle.std.proofs.Common.{◌≡◌, sym, ap, subst, ◌∙◌, inl, inr, ℕ, Bool, List, [], ◌∷◌, Option, option_map}
use Rattle.jh_name.specs.declared.naming.Name.{Name}
use Rattle.jh_name.specs.declared.place.Place.{Place}
use Rattle.jh_form.specs.Meaning.{Datum}
use Rattle.jh_vars.specs.Written.{Callee}
use Rattle.jh_semantics.specs.Code.{Stmt}
use Rattle.jh_semantics.specs.Program.{Program}
use Rattle.jh_semantics.specs.State.{State}
use Rattle.jh_semantics.specs.Progress.{Configuration, Progress, goes_on, returns, steps_out, Outcome, returned, stopped, pay_from}
use Rattle.jh_semantics.specs.Execution.{exec, call}
use Rattle.jh_operands.specs.declared.values.Scalar.{Scalar}
use Rattle.jh_operands.specs.Scalars.{datum_of}
use Rattle.jh_machine.specs.declared.continuation.stop.Stop as code
use Rattle.jh_machine.specs.continuation.Overflows.{Paid, paid}
use Rattle.jh_machine.specs.continuation.Todos.{Todo, one, resume, through, StackOverflows, TodoOverflows, Reaches, EndsAs}
use Rattle.jh_machine.specs.continuation.Done.{done, Else}
use Rattle.jh_machine.specs.continuation.Resumed.{Resumes}
use Rattle.jh_machine.proofs.continuation.Reaching.{exec-done, pay-goes, resume-stops, then_reaches, ends_there, rest_passes, one_passes, turn_passes}
use Rattle.jh_machine.specs.declared.machine.prepared.Prepared.{Prepared}
use Rattle.jh_machine.specs.declared.machine.machine.Machine.{Machine}
use Rattle.jh_machine.specs.machine.Machines.{stands, WasPaid}
use Rattle.jh_exec.specs.declared.frames.frames.Frame.{Frame}
use Rattle.jh_exec.specs.declared.frames.frames.Work.{Work}
use Rattle.jh_exec.specs.declared.frames.frames.Work.TheVariants as w
use Rattle.jh_exec.specs.declared.frames.frames.Way.{Way}
use Rattle.jh_exec.specs.declared.frames.frames.Way.TheVariants as way
use Rattle.jh_exec.specs.frames.Frames.{IsRun, Stands, WorkIs, WayInside, progress}
use Rattle.jh_exec.proofs.frames.Standing.{is_paid}
use Rattle.jh_exec.specs.interpreter.Returns.{way_result}

module _ (p : Program) where
  module _ (end : Outcome) (Overflows : Place → Type 0) (ks : List Todo) (x : Progress) (g : Reaches p end Overflows ks x) where
    -- a machine that stands behind what a run leads to stands behind the run
    pub leads : (numbered : Callee → Option ℕ) (y : Prepared) (m : Machine) (frames : List Frame) (w : Way) → Stands p numbered y m frames w (resume p ks x) (λ q. StackOverflows p q ks x) → Stands p numbered y m frames w end Overflows
    leads numbered y m frames w h = record {
      entry = h.entry;
      todos = h.todos;
      is_run = h.is_run;
      inside = h.inside;
      reaches = then_reaches p end Overflows ks x h.todos (progress w (stands m h.entry)) g h.reaches;
    }

    pub leads_end : (why : code.Stop) → EndsAs (resume p ks x) (λ q. StackOverflows p q ks x) why → EndsAs end Overflows why
    leads_end why h = ends_there p (resume p ks x) end (λ q. StackOverflows p q ks x) Overflows why g.same g.faults h

    -- a machine stands there
    pub stands_there : (numbered : Callee → Option ℕ) (y : Prepared) (m : Machine) (frames : List Frame) (entry : State) → x ≡ goes_on (stands m entry) → IsRun p numbered y m.now.names m.now.last m.entry frames entry ks → Stands p numbered y m frames way.On end Overflows
    unfolding progress WayInside
    stands_there numbered y m frames entry e run = record {
      entry = entry;
      todos = ks;
      is_run = run;
      inside = tt;
      reaches = subst (λ (z : Progress). Reaches p end Overflows ks z) e g;
    }

  -- a statement that pays
  module _ (a : Stmt) (r u : Configuration) (ks : List Todo) where
    pub unpaid_one : r.steps ≡ 0 → resume p (one a ∷ ks) (goes_on r) ≡ stopped steps_out
    unfolding resume through
    unpaid_one h = ap (resume p ks) (exec-done p a r ∙ ap (λ k. pay_from k r (done p a)) h) ∙ resume-stops p ks steps_out

    pub paid_ends : Paid r u → (why : code.Stop) → EndsAs (resume p ks (done p a u)) (Else p a u ks) why → EndsAs (resume p (one a ∷ ks) (goes_on r)) (λ q. StackOverflows p q (one a ∷ ks) (goes_on r)) why
    unfolding resume through StackOverflows TodoOverflows
    paid_ends pays why h = ends_there p (resume p ks (done p a u)) (resume p ks (exec (call p) a r)) (Else p a u ks) (λ q. StackOverflows p q (one a ∷ ks) (goes_on r)) why (ap (resume p ks) (sym is)) (λ q f. by q f) h
      where
        is : exec (call p) a r ≡ done p a u
        is = exec-done p a r ∙ pay-goes r u (done p a) pays

        by : (q : Place) → Else p a u ks q → StackOverflows p q (one a ∷ ks) (goes_on r)
        by q (inl f) = inl (paid pays f)
        by q (inr f) = inr (subst (λ (z : Progress). StackOverflows p q ks z) (sym is) f)

  -- a statement that was paid, as another that it is
  pub stands_as : (a b : Stmt) (r : Configuration) (ks : List Todo) → a ≡ b → (numbered : Callee → Option ℕ) (y : Prepared) (m : Machine) (frames : List Frame) (w : Way) →
      Stands p numbered y m frames w (resume p ks (done p b r)) (Else p b r ks) → Stands p numbered y m frames w (resume p ks (done p a r)) (Else p a r ks)
  stands_as a b r ks e numbered y m frames w h = subst (λ (z : Stmt). Stands p numbered y m frames w (resume p ks (done p z r)) (Else p z r ks)) (sym e) h

  pub ends_as : (a b : Stmt) (r : Configuration) (ks : List Todo) → a ≡ b → (why : code.Stop) → EndsAs (resume p ks (done p b r)) (Else p b r ks) why → EndsAs (resume p ks (done p a r)) (Else p a r ks) why
  ends_as a b r ks e why h = subst (λ (z : Stmt). EndsAs (resume p ks (done p z r)) (Else p z r ks) why) (sym e) h

  module _ (law : Resumes p) (numbered : Callee → Option ℕ) (y : Prepared) where
    pub one_stands : (a : Stmt) (old new : Machine) (entry : State) (ks : List Todo) → WasPaid old new → (m : Machine) (frames : List Frame) (w : Way) →
        Stands p numbered y m frames w (resume p ks (done p a (stands new entry))) (Else p a (stands new entry) ks) →
        Stands p numbered y m frames w (resume p (one a ∷ ks) (goes_on (stands old entry))) (λ q. StackOverflows p q (one a ∷ ks) (goes_on (stands old entry)))
    one_stands a old new entry ks is m frames w h = record {
      entry = h.entry;
      todos = h.todos;
      is_run = h.is_run;
      inside = h.inside;
      reaches = law.pays a (stands old entry) (stands new entry) ks h.todos (progress w (stands m h.entry)) (is_paid old new entry is) h.reaches;
    }

    -- a statement that returns
    pub returns_stand : (a : Stmt) (m : Machine) (frames : List Frame) (entry : State) (ks : List Todo) → IsRun p numbered y m.now.names m.now.last m.entry frames entry ks → (v : Option Scalar) → WayInside m.now.last (way.Return v) →
        done p a (stands m entry) ≡ returns (stands m entry) (option_map datum_of v) → Stands p numbered y m frames (way.Return v) (resume p ks (done p a (stands m entry))) (Else p a (stands m entry) ks)
    unfolding progress
    returns_stand a m frames entry ks run v inside e = record {
      entry = entry;
      todos = ks;
      is_run = run;
      inside = inside;
      reaches = record { same = ap (resume p ks) (sym e); faults = λ q f. inr (subst (λ (z : Progress). StackOverflows p q ks z) (sym e) f) };
    }

  -- what returns leaves out what is to be done in its method
  pub work_passes : (names : List Name) (last : ℕ) (y : Prepared) (numbered : Callee → Option ℕ) (keeps : Bool) (z : Work) (k : Todo) → WorkIs names last y numbered keeps z k → (u : Configuration) (d : Option Datum) (ks : List Todo) →
      Reaches p (resume p (k ∷ ks) (returns u d)) (λ q. StackOverflows p q (k ∷ ks) (returns u d)) ks (returns u d)
  unfolding WorkIs
  work_passes names last y numbered keeps (w.Rest steps) k h u d ks = subst (λ (j : Todo). Reaches p (resume p (j ∷ ks) (returns u d)) (λ q. StackOverflows p q (j ∷ ks) (returns u d)) ks (returns u d)) (sym h.2) (rest_passes p h.0 u d ks)
  work_passes names last y numbered keeps (w.One step) k h u d ks = subst (λ (j : Todo). Reaches p (resume p (j ∷ ks) (returns u d)) (λ q. StackOverflows p q (j ∷ ks) (returns u d)) ks (returns u d)) (sym h.2) (one_passes p h.0 u d ks)
  work_passes names last y numbered keeps (w.Turn test body) k h u d ks = subst (λ (j : Todo). Reaches p (resume p (j ∷ ks) (returns u d)) (λ q. StackOverflows p q (j ∷ ks) (returns u d)) ks (returns u d)) (sym h.3) (turn_passes p _ h.0 u d ks)

  -- nothing is to be done
  pub ended : (end : Outcome) (Overflows : Place → Type 0) (ks : List Todo) (v : Way) (r : Configuration) → ks ≡ [] → Reaches p end Overflows ks (progress v r) → end ≡ returned r.now (option_map datum_of (way_result v))
  unfolding resume progress way_result
  ended end Overflows ks way.On r e h = sym h.same ∙ ap (λ (js : List Todo). resume p js (goes_on r)) e
  ended end Overflows ks (way.Return v) r e h = sym h.same ∙ ap (λ (js : List Todo). resume p js (returns r (option_map datum_of v))) e
