-- A machine behind one of its steps, and what waits on its stack.
use Rattle.std.proofs.Common.{◌≡◌, refl, sym, ap, subst, ℕ, Bool, List, [], ◌∷◌, ◌++◌, reverse, Option, is_some}
use Rattle.std.proofs.lemmas.List.{reverse-append}
use Rattle.jh_name.specs.declared.naming.Name.{Name}
use Rattle.jh_name.specs.declared.place.Place.{Place}
use Rattle.jh_vars.specs.Written.{Callee}
use Rattle.jh_semantics.specs.Code.{Stmt}
use Rattle.jh_semantics.specs.Program.{Program}
use Rattle.jh_semantics.specs.State.{State}
use Rattle.jh_semantics.specs.Progress.{goes_on, Outcome}
use Rattle.jh_store.specs.memory.Held.{Held}
use Rattle.jh_machine.specs.declared.continuation.stop.Stop as code
use Rattle.jh_machine.specs.declared.continuation.stop.Stop.TheVariants as s
use Rattle.jh_machine.specs.continuation.Overflows.{Paid}
use Rattle.jh_machine.specs.continuation.Todos.{Todo, resume, EndsAs}
use Rattle.jh_machine.specs.continuation.Done.{done, Else}
use Rattle.jh_machine.proofs.continuation.Reaching.{went_on}
use Rattle.jh_machine.specs.declared.machine.prepared.Prepared.{Prepared}
use Rattle.jh_machine.specs.declared.machine.machine.Machine.{Machine}
use Rattle.jh_machine.specs.machine.Machines.{stands, EntryIs, Sees, IsBeside, WasPaid}
use Rattle.jh_exec.specs.declared.frames.frames.Frame.{Frame}
use Rattle.jh_exec.specs.declared.frames.frames.Frame.TheVariants as f
use Rattle.jh_exec.specs.declared.frames.frames.Work.{Work}
use Rattle.jh_exec.specs.declared.frames.frames.Back.{Back}
use Rattle.jh_exec.specs.declared.frames.frames.Way.TheVariants as way
use Rattle.jh_exec.specs.frames.Frames.{IsRun, IsWaiting, Stands, WayInside, WorkIs, BackIs, AreFrames, progress}

-- want of memory ends a run as anything
pub memory_ends : (x : Outcome) (Overflows : Place → Type 0) (why : code.Stop) → why ≡ s.Memory → EndsAs x Overflows why
unfolding EndsAs
memory_ends x Overflows why e = subst (λ (z : code.Stop). EndsAs x Overflows z) (sym e) tt

-- a step was paid
pub is_paid : (old new : Machine) (entry : State) → WasPaid old new → Paid (stands old entry) (stands new entry)
is_paid old new entry h = record {
  left = new.steps;
  one = h.one;
  is = ap (λ (m : Machine). stands m entry) h.same;
}

pub sees_paid : (x : Prepared) (old new : Machine) → WasPaid old new → Sees x old → Sees x new
sees_paid x old new h g = subst (λ (m : Machine). Sees x m) (sym h.same) (record { homes = g.homes; entry = g.entry; entry_is = g.entry_is })

module _ (p : Program) (numbered : Callee → Option ℕ) (x : Prepared) where
  -- what runs sees what formulas ask
  pub run_sees : (m : Machine) (frames : List Frame) (entry : State) (ks : List Todo) → IsRun p numbered x m.now.names m.now.last m.entry frames entry ks → Sees x m
  run_sees m frames entry ks h = record { homes = h.prepared.homes; entry = entry; entry_is = h.entry_is }

  pub run_paid : (old new : Machine) (frames : List Frame) (entry : State) (ks : List Todo) → WasPaid old new → IsRun p numbered x old.now.names old.now.last old.entry frames entry ks → IsRun p numbered x new.now.names new.now.last new.entry frames entry ks
  run_paid old new frames entry ks h g = subst (λ (m : Machine). IsRun p numbered x m.now.names m.now.last m.entry frames entry ks) (sym h.same) g

  pub waits_paid : (old new : Machine) (frames : List Frame) (ks : List Todo) → WasPaid old new → IsWaiting p numbered x old.now.names old.now.last frames ks → IsWaiting p numbered x new.now.names new.now.last frames ks
  waits_paid old new frames ks h g = subst (λ (m : Machine). IsWaiting p numbered x m.now.names m.now.last frames ks) (sym h.same) g

  module _ (frames : List Frame) (entry : State) (ks : List Todo) where
    -- a run goes on in a machine whose memory is of the same names and objects, with the same state at entry
    pub run_beside : (old new : Machine) → IsBeside old new → IsRun p numbered x old.now.names old.now.last old.entry frames entry ks → IsRun p numbered x new.now.names new.now.last new.entry frames entry ks
    run_beside old new b h =
        subst (λ (e : Option Held). IsRun p numbered x new.now.names new.now.last e frames entry ks) (sym b.entry)
        (subst (λ (l : ℕ). IsRun p numbered x new.now.names l old.entry frames entry ks) (sym b.last)
        (subst (λ (ns : List Name). IsRun p numbered x ns old.now.last old.entry frames entry ks) (sym b.names) h))

    -- a statement that went on, with nothing more to be done
    pub simple_stands : (a : Stmt) (old new : Machine) → IsBeside old new → IsRun p numbered x old.now.names old.now.last old.entry frames entry ks → done p a (stands old entry) ≡ goes_on (stands new entry) →
        Stands p numbered x new frames way.On (resume p ks (done p a (stands old entry))) (Else p a (stands old entry) ks)
    unfolding WayInside progress
    simple_stands a old new b h is = record {
      entry = entry;
      todos = ks;
      is_run = run_beside old new b h;
      inside = tt;
      reaches = went_on p a (stands old entry) (stands new entry) ks is;
    }

  module _ (names : List Name) (last : ℕ) where
    -- the last frame is the first thing to be done
    pushed : (keeps : Bool) (frames : List Frame) (frame : Frame) (ks : List Todo) → AreFrames names last x numbered keeps (frame ∷ reverse frames) ks → AreFrames names last x numbered keeps (reverse (frames ++ frame ∷ [])) ks
    pushed keeps frames frame ks h = subst (λ (fs : List Frame). AreFrames names last x numbered keeps fs ks) (sym (reverse-append frames (frame ∷ []))) h

    popped : (keeps : Bool) (frames : List Frame) (frame : Frame) (ks : List Todo) → AreFrames names last x numbered keeps (reverse (frames ++ frame ∷ [])) ks → AreFrames names last x numbered keeps (frame ∷ reverse frames) ks
    popped keeps frames frame ks h = subst (λ (fs : List Frame). AreFrames names last x numbered keeps fs ks) (reverse-append frames (frame ∷ [])) h

    -- a body begins, of which a state at entry is kept, or plays no part
    pub run_begun : (other : Option Held) (frames new : List Frame) (s : State) (ks : List Todo) (z : Work) (k : Todo) → new ≡ frames ++ f.Work z ∷ [] → WorkIs names last x numbered (is_some other) z k →
        EntryIs names last other s → IsWaiting p numbered x names last frames ks → IsRun p numbered x names last other new s (k ∷ ks)
    unfolding AreFrames
    run_begun other frames new s ks z k e is known h = record {
      prepared = h.prepared;
      entry_is = known;
      frames_are =
          subst (λ (fs : List Frame). AreFrames names last x numbered (is_some other) (reverse fs) (k ∷ ks)) (sym e)
          (pushed (is_some other) frames (f.Work z) (k ∷ ks) (k, ks, is, h.frames_are (is_some other), refl));
    }

    -- what waits goes on
    pub waits_on : (kept : Option Held) (frames : List Frame) (s : State) (ks : List Todo) → EntryIs names last kept s → IsWaiting p numbered x names last frames ks → IsRun p numbered x names last kept frames s ks
    waits_on kept frames s ks known h = record { prepared = h.prepared; entry_is = known; frames_are = h.frames_are (is_some kept) }

    module _ (kept : Option Held) (frames new : List Frame) (entry : State) (ks : List Todo) where
      pub pushed_work : (w : Work) (k : Todo) → new ≡ frames ++ f.Work w ∷ [] → WorkIs names last x numbered (is_some kept) w k → IsRun p numbered x names last kept frames entry ks → IsRun p numbered x names last kept new entry (k ∷ ks)
      unfolding AreFrames
      pushed_work w k e is h = record {
        prepared = h.prepared;
        entry_is = h.entry_is;
        frames_are = subst (λ (fs : List Frame). AreFrames names last x numbered (is_some kept) (reverse fs) (k ∷ ks)) (sym e) (pushed (is_some kept) frames (f.Work w) (k ∷ ks) (k, ks, is, h.frames_are, refl));
      }

      -- behind the return to a caller no state at entry plays a part but those of callers
      pub pushed_back : (b : Back) (k : Todo) → new ≡ frames ++ f.Back b ∷ [] → BackIs names last x numbered b k → b.entry ≡ kept → IsRun p numbered x names last kept frames entry ks → IsWaiting p numbered x names last new (k ∷ ks)
      unfolding AreFrames
      pushed_back b k e is same h = record {
        prepared = h.prepared;
        frames_are = λ keeps.
            subst (λ (fs : List Frame). AreFrames names last x numbered keeps (reverse fs) (k ∷ ks)) (sym e)
            (pushed keeps frames (f.Back b) (k ∷ ks) (k, ks, is, subst (λ (o : Option Held). AreFrames names last x numbered (is_some o) (reverse frames) ks) (sym same) h.frames_are, refl));
      }

    module _ (kept : Option Held) (frames : List Frame) (entry : State) (ks : List Todo) where
      -- one statement, or list, or loop, is the first thing to be done
      pub popped_work : (w : Work) → IsRun p numbered x names last kept (frames ++ f.Work w ∷ []) entry ks → (k : Todo) × (more : List Todo) × WorkIs names last x numbered (is_some kept) w k × IsRun p numbered x names last kept frames entry more × (ks ≡ k ∷ more)
      unfolding AreFrames
      popped_work w h =
          let all = popped (is_some kept) frames (f.Work w) ks h.frames_are in
          (all.0, all.1, all.2, record { prepared = h.prepared; entry_is = h.entry_is; frames_are = all.3 }, all.4)

      -- the return to a caller is
      pub popped_back : (b : Back) → IsRun p numbered x names last kept (frames ++ f.Back b ∷ []) entry ks →
          (k : Todo) × (more : List Todo) × (is : BackIs names last x numbered b k) × IsRun p numbered x names last b.entry frames is.caller.entry more × (ks ≡ k ∷ more)
      unfolding AreFrames
      popped_back b h =
          let all = popped (is_some kept) frames (f.Back b) ks h.frames_are in
          (all.0, all.1, all.2, record { prepared = h.prepared; entry_is = all.2.entry; frames_are = all.3 }, all.4)
