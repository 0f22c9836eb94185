-- What the interpreter says of a run is what the definition of runs says.
use Rattle.std.proofs.Common.{◌≡◌, ◌⊎◌, refl, sym, ap, ◌∙◌, ℕ, List, Option, Some, None, inl, inr}
use Rattle.jh_ast.specs.Programs.{ProgramTree}
use Rattle.jh_rules.specs.Names.{declared_in}
use Rattle.jh_vars.specs.Written.{Callee}
use Rattle.jh_semantics.specs.Program.{Program}
use Rattle.jh_semantics.specs.Progress.{Outcome, returned, stopped}
use Rattle.jh_semantics.specs.Heaps.{Heap, Args, Cell, answered, listed}
use Rattle.jh_semantics.specs.LoweredProgram.{program_of}
use Rattle.jh_run.specs.jh_heap.text.Errors.{IsError}
use Rattle.jh_run.specs.jh_heap.text.Outlines.{outline_of}
use Rattle.jh_run.specs.jh_heap.text.Reading.{Reading, reading}
use Rattle.jh_run.specs.jh_heap.declared.text.reading.HeapError.{HeapError}
use Rattle.jh_run.specs.jh_heap.declared.text.reading.HeapError.TheVariants as heap
use Rattle.jh_run.specs.jh_machine.declared.continuation.stop.Stop.{Stop}
use Rattle.jh_run.specs.jh_machine.declared.continuation.stop.Stop.TheVariants as stop
use Rattle.jh_run.specs.jh_machine.continuation.Todos.{EndsAs}
use Rattle.jh_run.specs.runner.Runs.{OverflowsOn, outcome_on}
use Rattle.jh_run.specs.outcome.Outcomes.{IsAbsent, IsReason, IsReasonIn, IsWhy, Returns, Starts}
use Rattle.jh_run.specs.declared.outcome.unreturned.Unreturned.{Unreturned}
use Rattle.jh_run.specs.declared.outcome.unreturned.Unreturned.TheVariants as why
use Rattle.jh_reply.specs.Causes.{heap_status, stop_status, unreturned_status}
use Rattle.jh_reply.specs.Run.{IsOverflow, ending_at, ending_in, ending_named, ending_of, ending_read, ending_status, ends, outcome_status}

-- where the method is there and the text spells a heap, the run ends
starts-ends : (p : Program) (m : Callee) (text : List ℕ) (steps : ℕ) (h : Heap) (args : Args) → Starts p m text h args → ending_at p steps text m ≡ ends (outcome_on p m h args steps)
starts-ends p m text steps h args s = ap (ending_in p steps text m) s.there ∙ ap (ending_read p steps m) s.spelled

-- a run that is answered returned
answered-zero : (p : Program) (x : Outcome) (h : Heap) (v : Option Cell) → listed p x ≡ answered h v → outcome_status x ≡ 0
answered-zero p (returned s w) h v e = refl
answered-zero p (stopped w) h v e = cc

pub returns-zero : (p : ProgramTree) (class name text : List ℕ) (steps : ℕ) (printed : List ℕ) → Returns p class name text steps printed → ending_status (ending_of p class name text steps) ≡ 0
returns-zero p class name text steps printed r =
    let q : Program = program_of p in
    let m : Callee = record { class = r.number; name = name } in
    ap (λ o. ending_status (ending_named q steps name text o)) r.class_is
    ∙ ap ending_status (starts-ends q m text steps r.returned.heap r.returned.args r.returned.starts)
    ∙ answered-zero q (outcome_on q m r.returned.heap r.returned.args steps) r.returned.last r.returned.value r.returned.run

-- an error is that of the text, or want of memory
error-status : (p : Program) (m : Callee) (steps : ℕ) (e : HeapError) (r : Reading) → IsError e r → (heap_status e ≡ ending_status (ending_read p steps m r)) ⊎ (heap_status e ≡ 6)
error-status p m steps (heap.BadLine n) r is = inl (sym (ap (λ x. ending_status (ending_read p steps m x)) is))
error-status p m steps (heap.NotWellFormed n rule) r is = inl (sym (ap (λ x. ending_status (ending_read p steps m x)) is))
error-status p m steps heap.Memory r is = inr refl

module _ (p : ProgramTree) (class name text : List ℕ) (steps : ℕ) where
  -- the status of what stops a run is that of what the run comes to, or 14 where something overflows in it, or it is want of memory
  abbrev pub IsStatus : ℕ → Type 0
  IsStatus status = (status ≡ ending_status (ending_of p class name text steps)) ⊎ ((status ≡ 14) × IsOverflow p class name text steps) ⊎ (status ≡ 6)

  module _ (number : ℕ) (class_is : (declared_in p).class_named class ≡ Some number) where
    abbrev q : Program
    q = program_of p

    abbrev m : Callee
    m = record { class = number; name = name }

    named : ending_status (ending_of p class name text steps) ≡ ending_status (ending_at q steps text m)
    named = ap (λ o. ending_status (ending_named q steps name text o)) class_is

    module _ (h : Heap) (args : Args) (starts : Starts q m text h args) where
      ended : (x : Outcome) → outcome_on q m h args steps ≡ x → ending_status (ending_of p class name text steps) ≡ outcome_status x
      ended x is = named ∙ ap ending_status (starts-ends q m text steps h args starts) ∙ ap outcome_status is

      stop-status : (s : Stop) → EndsAs (outcome_on q m h args steps) (λ place. OverflowsOn q m h args steps place) s → IsStatus (stop_status s)
      unfolding EndsAs
      stop-status (stop.Null place) is = inl (sym (ended _ is))
      stop-status (stop.AssertFailed place) is = inl (sym (ended _ is))
      stop-status (stop.NoObject place) is = inl (sym (ended _ is))
      stop-status stop.StepsOut is = inl (sym (ended _ is))
      stop-status (stop.Overflow place) over = inr (inl (refl, record { number = number; class_is = class_is; heap = h; args = args; starts = starts; place = place; overflows = over }))
      stop-status stop.Memory is = inr (inr refl)

    why-status : (e : Unreturned) → IsWhy q m text steps e → IsStatus (unreturned_status e)
    why-status why.NoMethod none = inl (sym (named ∙ ap (λ o. ending_status (ending_in q steps text m o)) none))
    why-status (why.NoHeap e) bad =
        elim (error-status q m steps e (reading (outline_of q bad.code) text) bad.error_is) [
          | inl is ↦ inl (is ∙ sym (named ∙ ap (λ o. ending_status (ending_in q steps text m o)) bad.there))
          | inr six ↦ inr (inr six)
        ]
    why-status (why.Stopped s) stops = stop-status stops.heap stops.args stops.starts s stops.stops
    why-status why.Memory is = inr (inr refl)

  absent-status : (e : Unreturned) → (declared_in p).class_named class ≡ None → IsAbsent e → IsStatus (unreturned_status e)
  absent-status why.NoMethod none is = inl (sym (ap (λ o. ending_status (ending_named (program_of p) steps name text o)) none))
  absent-status (why.NoHeap e) none is = absurd is
  absent-status (why.Stopped s) none is = absurd is
  absent-status why.Memory none is = inr (inr refl)

  reason-in : (e : Unreturned) (o : Option ℕ) → (declared_in p).class_named class ≡ o → IsReasonIn p class name text steps e o → IsStatus (unreturned_status e)
  reason-in e None none is = absent-status e none is
  reason-in e (Some n) there is = why-status n there e is

  pub reason-status : (e : Unreturned) → IsReason p class name text steps e → IsStatus (unreturned_status e)
  reason-status e is = reason-in e ((declared_in p).class_named class) refl is
