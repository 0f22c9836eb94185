-- Whole runs, and the objects that are free.
use Rattle.std.proofs.Common.{◌≡◌, refl, sym, ap, subst, ◌∙◌, ◌⊎◌, inl, inr, ℕ, suc, Bool, true, false, List, [], ◌∷◌, ◌++◌, reverse, filter, append-nil, cond, Option, is_some, option_map}
use Rattle.std.proofs.lemmas.List.Elements.{filter-append}
use Rattle.jh_name.specs.declared.naming.Name.{Name}
use Rattle.jh_name.specs.declared.place.Place.{Place}
use Rattle.jh_form.specs.Meaning.{Datum}
use Rattle.jh_vars.specs.Written.{Callee}
use Rattle.jh_semantics.specs.Program.{Program}
use Rattle.jh_semantics.specs.State.{State}
use Rattle.jh_semantics.specs.Objects.{is_free, below}
use Rattle.jh_semantics.specs.Progress.{Configuration, goes_on, Outcome, returned}
use Rattle.jh_semantics.specs.Execution.{call, run}
use Rattle.jh_store.specs.memory.Held.{Held, state_of}
use Rattle.jh_operands.specs.Scalars.{datum_of}
use Rattle.jh_machine.specs.declared.continuation.stop.Stop as code
use Rattle.jh_machine.specs.continuation.Overflows.{CallOverflows, RunOverflows}
use Rattle.jh_machine.specs.continuation.Todos.{Todo, resume, StackOverflows, EndsAs}
use Rattle.jh_machine.specs.continuation.Resumed.{Resumes}
use Rattle.jh_machine.proofs.continuation.Reaching.{ends_there}
use Rattle.jh_machine.specs.declared.machine.prepared.Prepared.{Prepared}
use Rattle.jh_machine.specs.declared.machine.machine.Machine.{Machine}
use Rattle.jh_machine.specs.machine.Machines.{stands}
use Rattle.jh_exec.specs.declared.frames.frames.Frame.{Frame}
use Rattle.jh_exec.specs.declared.frames.frames.Way.{Way}
use Rattle.jh_exec.specs.declared.frames.frames.Way.TheVariants as way
use Rattle.jh_exec.specs.frames.Frames.{IsPrepared, IsRun, IsWaiting, Stands, WayInside, AreFrames, progress}
use Rattle.jh_exec.specs.interpreter.Returns.{way_result}
use Rattle.jh_exec.proofs.interpreter.Leading.{ended}

module _ (p : Program) (numbered : Callee → Option ℕ) (x : Prepared) where
  -- a machine stands at the beginning of what is to be done
  pub begins_there : (m : Machine) (frames : List Frame) (s : State) (ks : List Todo) → IsRun p numbered x m.now.names m.now.last m.entry frames s ks →
      Stands p numbered x m frames way.On (resume p ks (goes_on (stands m s))) (λ q. StackOverflows p q ks (goes_on (stands m s)))
  unfolding progress WayInside
  begins_there m frames s ks run = record { entry = s; todos = ks; is_run = run; inside = tt; reaches = record { same = refl; faults = λ q f. f } }

  -- nothing is to be done where there is no frame
  pub no_todos : (names : List Name) (last : ℕ) (kept : Option Held) (frames : List Frame) (s : State) (ks : List Todo) → IsRun p numbered x names last kept frames s ks → frames ≡ [] → ks ≡ []
  unfolding AreFrames
  no_todos names last kept frames s ks h none = subst (λ (fs : List Frame). AreFrames names last x numbered (is_some kept) (reverse fs) ks) none h.frames_are

  -- the frames as another list that they are
  pub same_frames : (names : List Name) (last : ℕ) (kept : Option Held) (frames others : List Frame) (s : State) (ks : List Todo) → frames ≡ others → IsRun p numbered x names last kept frames s ks → IsRun p numbered x names last kept others s ks
  same_frames names last kept frames others s ks e h = subst (λ (fs : List Frame). IsRun p numbered x names last kept fs s ks) e h

  -- where there is no frame, the run has ended
  pub run_ended : (m : Machine) (frames : List Frame) (v : Way) (end : Outcome) (Overflows : Place → Type 0) → Stands p numbered x m frames v end Overflows → frames ≡ [] → end ≡ returned (state_of m.now) (option_map datum_of (way_result v))
  run_ended m frames v end Overflows h none = ended p end Overflows h.todos v (stands m h.entry) (no_todos m.now.names m.now.last m.entry frames h.entry h.todos h.is_run none) h.reaches

  -- before the first step nothing is to be done behind the call
  pub waits_first : (names : List Name) (last : ℕ) (frames : List Frame) → frames ≡ [] → IsPrepared p numbered x names → IsWaiting p numbered x names last frames []
  unfolding AreFrames
  waits_first names last frames none h = record {
    prepared = h;
    frames_are = λ keeps. subst (λ (fs : List Frame). AreFrames names last x numbered keeps (reverse fs) []) (sym none) refl;
  }

-- The end of a run, from the end of the call with nothing to be done behind it.
module _ (p : Program) (law : Resumes p) (m : Callee) (first : State) (this : ℕ) (ds : List Datum) (picks : List ℕ) (k : ℕ) where
  abbrev pub begun : Configuration
  begun = record { now = first; entry = first; picks = picks; steps = k }

  abbrev pub RunElse : Place → Type 0
  RunElse q = CallOverflows p q m this ds begun ⊎ StackOverflows p q [] (call p m this ds begun)

  only : (q : Place) → RunElse q → RunOverflows p q m first this ds picks k
  unfolding StackOverflows
  only q (inl f) = f
  only q (inr none) = absurd none

  pub run_ends : (why : code.Stop) → EndsAs (resume p [] (call p m this ds begun)) (λ q. ⊥) why → EndsAs (run p m first this ds picks k) (λ q. RunOverflows p q m first this ds picks k) why
  run_ends why h = ends_there p (resume p [] (call p m this ds begun)) (run p m first this ds picks k) (λ q. ⊥) (λ q. RunOverflows p q m first this ds picks k) why (law.whole m first this ds picks k) (λ q no. absurd no) h

  module _ (numbered : Callee → Option ℕ) (x : Prepared) (machine : Machine) (frames : List Frame) (h : Stands p numbered x machine frames way.On (resume p [] (call p m this ds begun)) RunElse) where
    pub run_returns : (last : State) (v : Option Datum) → resume p h.todos (goes_on (stands machine h.entry)) ≡ returned last v → run p m first this ds picks k ≡ returned last v
    unfolding progress
    run_returns last v is = sym (law.whole m first this ds picks k) ∙ sym h.reaches.same ∙ is

    pub run_stops : (why : code.Stop) → EndsAs (resume p h.todos (goes_on (stands machine h.entry))) (λ q. StackOverflows p q h.todos (goes_on (stands machine h.entry))) why →
        EndsAs (run p m first this ds picks k) (λ q. RunOverflows p q m first this ds picks k) why
    unfolding progress
    run_stops why is =
        ends_there p (resume p h.todos (goes_on (stands machine h.entry))) (run p m first this ds picks k) (λ q. StackOverflows p q h.todos (goes_on (stands machine h.entry))) (λ q. RunOverflows p q m first this ds picks k) why
        (h.reaches.same ∙ law.whole m first this ds picks k) (λ q f. only q (h.reaches.faults q f)) is

-- the free objects so far
module _ (s : State) (n : ℕ) where
  longer : filter (is_free s) (below (suc n)) ≡ filter (is_free s) (below n) ++ filter (is_free s) (n ∷ [])
  longer = filter-append (is_free s) (below n) (n ∷ [])

  pub one_free : (made new : List ℕ) → made ≡ filter (is_free s) (below n) → is_free s n ≡ true → new ≡ made ++ n ∷ [] → new ≡ filter (is_free s) (below (suc n))
  one_free made new known is more =
      more ∙ ap (λ (xs : List ℕ). xs ++ n ∷ []) known ∙ ap (λ (b : Bool). filter (is_free s) (below n) ++ cond b (n ∷ []) []) (sym is) ∙ sym longer

  pub none_free : (made : List ℕ) → made ≡ filter (is_free s) (below n) → is_free s n ≡ false → made ≡ filter (is_free s) (below (suc n))
  none_free made known is =
      known ∙ sym (append-nil (filter (is_free s) (below n))) ∙ ap (λ (b : Bool). filter (is_free s) (below n) ++ cond b (n ∷ []) []) (sym is) ∙ sym longer
