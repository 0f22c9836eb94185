-- Behind the last frame: what is to be done first.
use Rattle.std.proofs.Common.{◌≡◌, refl, sym, ap, subst, ◌∙◌, ℕ, Bool, List, [], ◌∷◌, ◌++◌, Option, is_some, option_map}
use Rattle.jh_name.specs.declared.naming.Name.{Name}
use Rattle.jh_vars.specs.Written.{Callee}
use Rattle.jh_semantics.specs.Code.{Stmt, Stmts}
use Rattle.jh_semantics.specs.Code as c
use Rattle.jh_semantics.specs.Program.{Program}
use Rattle.jh_semantics.specs.State.{State}
use Rattle.jh_semantics.specs.Progress.{Configuration, Progress, goes_on, returns}
use Rattle.jh_semantics.specs.Execution.{back}
use Rattle.jh_store.specs.memory.Held.{Held}
use Rattle.jh_operands.specs.declared.values.Scalar.{Scalar}
use Rattle.jh_operands.specs.Exprs.{truth_in, TruthFits}
use Rattle.jh_operands.specs.Faults.{Never}
use Rattle.jh_operands.specs.Scalars.{datum_of}
use Rattle.jh_machine_code.specs.code.Steps.{IsStep, AreSteps}
use Rattle.jh_machine.specs.declared.continuation.stop.Stop as code
use Rattle.jh_machine.specs.continuation.Stops.{StopsAs}
use Rattle.jh_machine.specs.continuation.Todos.{Todo, rest, one, turn, return_to, resume, through, StackOverflows, EndsAs}
use Rattle.jh_machine.specs.continuation.Resumed.{Resumes}
use Rattle.jh_machine.proofs.continuation.Reaching.{stops-end}
use Rattle.jh_machine.specs.declared.machine.prepared.Prepared.{Prepared}
use Rattle.jh_machine.specs.declared.machine.machine.Machine.{Machine}
use Rattle.jh_machine.specs.machine.Machines.{stands}
use Rattle.jh_exec.specs.declared.frames.frames.Frame.{Frame}
use Rattle.jh_exec.specs.declared.frames.frames.Frame.TheVariants as f
use Rattle.jh_exec.specs.declared.frames.frames.Work.{Work}
use Rattle.jh_exec.specs.declared.frames.frames.Work.TheVariants as w
use Rattle.jh_exec.specs.declared.frames.frames.Back.{Back}
use Rattle.jh_exec.specs.declared.frames.frames.Way.{Way}
use Rattle.jh_exec.specs.declared.frames.frames.Way.TheVariants as way
use Rattle.jh_exec.specs.frames.Frames.{IsRun, Stands, WorkIs, BackIs, WayInside, progress}
use Rattle.jh_exec.proofs.frames.Standing.{popped_work, popped_back}
use Rattle.jh_exec.proofs.interpreter.Leading.{stands_there, work_passes}

-- which step a frame's work is
module _ (names : List Name) (last : ℕ) (x : Prepared) (numbered : Callee → Option ℕ) (keeps : Bool) (z : Work) (k : Todo) (is : WorkIs names last x numbered keeps z k) where
  at : (y : Work) → z ≡ y → WorkIs names last x numbered keeps y k
  at y e = subst (λ (v : Work). WorkIs names last x numbered keeps v k) e is

  pub work_rest : (steps : _) → z ≡ w.Rest steps → (ss : Stmts) × AreSteps names x.table.now numbered keeps steps.now ss × (k ≡ rest ss)
  unfolding WorkIs
  work_rest steps e = at (w.Rest steps) e

  pub work_one : (step : _) → z ≡ w.One step → (s : Stmt) × IsStep names x.table.now numbered keeps step.now s × (k ≡ one s)
  unfolding WorkIs
  work_one step e = at (w.One step) e

  pub work_turn : (test : _) (body : _) → z ≡ w.Turn test body → (s : Stmt) × TruthFits names test.now × IsStep names x.table.now numbered keeps body.now s × (k ≡ turn (truth_in names test.now) s)
  unfolding WorkIs
  work_turn test body e = at (w.Turn test body) e

module _ (p : Program) (numbered : Callee → Option ℕ) (y : Prepared) where
  -- what is to be done first, as another thing that it is
  pub stands_work : (k j : Todo) (ks : List Todo) (u : Progress) → k ≡ j → (m : Machine) (frames : List Frame) (v : Way) →
      Stands p numbered y m frames v (resume p (j ∷ ks) u) (λ q. StackOverflows p q (j ∷ ks) u) → Stands p numbered y m frames v (resume p (k ∷ ks) u) (λ q. StackOverflows p q (k ∷ ks) u)
  stands_work k j ks u e m frames v h = subst (λ (i : Todo). Stands p numbered y m frames v (resume p (i ∷ ks) u) (λ q. StackOverflows p q (i ∷ ks) u)) (sym e) h

  pub stands_todos : (ks js : List Todo) (u : Progress) → ks ≡ js → (m : Machine) (frames : List Frame) (v : Way) →
      Stands p numbered y m frames v (resume p js u) (λ q. StackOverflows p q js u) → Stands p numbered y m frames v (resume p ks u) (λ q. StackOverflows p q ks u)
  stands_todos ks js u e m frames v h = subst (λ (is : List Todo). Stands p numbered y m frames v (resume p is u) (λ q. StackOverflows p q is u)) (sym e) h

pub ends_work : (p : Program) (k j : Todo) (ks : List Todo) (u : Progress) → k ≡ j → (why : code.Stop) → EndsAs (resume p (j ∷ ks) u) (λ q. StackOverflows p q (j ∷ ks) u) why → EndsAs (resume p (k ∷ ks) u) (λ q. StackOverflows p q (k ∷ ks) u) why
ends_work p k j ks u e why h = subst (λ (i : Todo). EndsAs (resume p (i ∷ ks) u) (λ q. StackOverflows p q (i ∷ ks) u) why) (sym e) h

pub ends_todos : (p : Program) (ks js : List Todo) (u : Progress) → ks ≡ js → (why : code.Stop) → EndsAs (resume p js u) (λ q. StackOverflows p q js u) why → EndsAs (resume p ks u) (λ q. StackOverflows p q ks u) why
ends_todos p ks js u e why h = subst (λ (is : List Todo). EndsAs (resume p is u) (λ q. StackOverflows p q is u) why) (sym e) h

module _ (p : Program) (law : Resumes p) (numbered : Callee → Option ℕ) (y : Prepared) where
  -- the end of a call
  module _ (old : Machine) (frames : List Frame) (entry : State) (ks : List Todo) (b : Back) (run : IsRun p numbered y old.now.names old.now.last old.entry (frames ++ f.Back b ∷ []) entry ks) where
    abbrev pub Popped : Type 0
    Popped = (k : Todo) × (more : List Todo) × (is : BackIs old.now.names old.now.last y numbered b k) × IsRun p numbered y old.now.names old.now.last b.entry frames is.caller.entry more × (ks ≡ k ∷ more)

    pub popped : Popped
    popped = popped_back p numbered y old.now.names old.now.last old.entry frames entry ks b run

    todos : ks ≡ return_to popped.2.caller popped.2.target b.object ∷ popped.1
    todos = popped.4 ∙ ap (λ (k : Todo). k ∷ popped.1) popped.2.is

    pub left_stands : (v : Way) (new : Machine) → new.now.names ≡ old.now.names → new.now.last ≡ old.now.last → new.entry ≡ b.entry →
        back popped.2.caller popped.2.target b.object (progress v (stands old entry)) ≡ goes_on (stands new popped.2.caller.entry) →
        Stands p numbered y new frames way.On (resume p ks (progress v (stands old entry))) (λ q. StackOverflows p q ks (progress v (stands old entry)))
    left_stands v new names last kept is =
        stands_todos p numbered y ks (return_to caller target b.object ∷ popped.1) x todos new frames way.On
        (stands_there p (resume p (return_to caller target b.object ∷ popped.1) x) (λ q. StackOverflows p q (return_to caller target b.object ∷ popped.1) x) popped.1 (goes_on (stands new caller.entry))
        (law.left caller target b.object x (stands new caller.entry) popped.1 is) numbered y new frames caller.entry refl goes)
      where
        caller : Configuration
        caller = popped.2.caller

        target : c.Target
        target = popped.2.target

        x : Progress
        x = progress v (stands old entry)

        goes : IsRun p numbered y new.now.names new.now.last new.entry frames caller.entry popped.1
        goes =
            subst (λ (e : Option Held). IsRun p numbered y new.now.names new.now.last e frames caller.entry popped.1) (sym kept)
            (subst (λ (l : ℕ). IsRun p numbered y new.now.names l b.entry frames caller.entry popped.1) (sym last)
            (subst (λ (ns : List Name). IsRun p numbered y ns old.now.last b.entry frames caller.entry popped.1) (sym names) popped.3))

    pub left_ends : (v : Way) (why : code.Stop) → StopsAs (back popped.2.caller popped.2.target b.object (progress v (stands old entry))) Never why →
        EndsAs (resume p ks (progress v (stands old entry))) (λ q. StackOverflows p q ks (progress v (stands old entry))) why
    unfolding resume through
    left_ends v why h =
        ends_todos p ks (return_to popped.2.caller popped.2.target b.object ∷ popped.1) (progress v (stands old entry)) todos why
        (stops-end p popped.1 (back popped.2.caller popped.2.target b.object (progress v (stands old entry))) Never
        (λ q. StackOverflows p q (return_to popped.2.caller popped.2.target b.object ∷ popped.1) (progress v (stands old entry))) why h (λ q no. absurd no))

  -- what was to be done, where what was before it returned
  pub passed_stands : (m : Machine) (frames : List Frame) (entry : State) (ks : List Todo) (z : Work) → IsRun p numbered y m.now.names m.now.last m.entry (frames ++ f.Work z ∷ []) entry ks → (v : Option Scalar) → WayInside m.now.last (way.Return v) →
      Stands p numbered y m frames (way.Return v) (resume p ks (progress (way.Return v) (stands m entry))) (λ q. StackOverflows p q ks (progress (way.Return v) (stands m entry)))
  unfolding progress
  passed_stands m frames entry ks z run v inside =
      let got = popped_work p numbered y m.now.names m.now.last m.entry frames entry ks z run in
      let u = stands m entry in
      let d = option_map datum_of v in
      stands_todos p numbered y ks (got.0 ∷ got.1) (returns u d) got.4 m frames (way.Return v)
      (record {
        entry = entry;
        todos = got.1;
        is_run = got.3;
        inside = inside;
        reaches = work_passes p m.now.names m.now.last y numbered (is_some m.entry) z got.0 got.2 u d got.1;
      })
