-- What a machine with a stack is among runs of the definition.
use Rattle.std.specs.Prelude.{◌≡◌, ℕ, Bool, List, [], ◌∷◌, reverse, Option, Some, None, is_some, slice_get, option_map}
use Rattle.jh_name.specs.declared.naming.Name.{Name}
use Rattle.jh_name.specs.declared.place.Place.{Place}
use Rattle.jh_form.specs.Meaning.{Datum}
use Rattle.jh_vars.specs.Written.{Callee}
use Rattle.jh_semantics.specs.Code as c
use Rattle.jh_semantics.specs.Program.{Program, Method}
use Rattle.jh_semantics.specs.State.{State, this_name, alloc_name}
use Rattle.jh_semantics.specs.Progress.{Configuration, Progress, goes_on, returns, Outcome}
use Rattle.jh_semantics.specs.Locals.{entered}
use Rattle.jh_store.specs.memory.Held.{Held, state_of}
use Rattle.jh_store.specs.state_pairs.Homes.{AreHomes}
use Rattle.jh_operands.specs.Exprs.{truth_in, TruthFits}
use Rattle.jh_operands.specs.Scalars.{datum_of, IsInside}
use Rattle.jh_machine_code.specs.code.Destinations.{IsTarget}
use Rattle.jh_machine_code.specs.code.Steps.{IsStep, AreSteps, AreBodies}
use Rattle.jh_machine.specs.locals.Locals.{AreLocals, AreSaved, AreInside, IsOf}
use Rattle.jh_machine.specs.declared.machine.prepared.Prepared.{Prepared}
use Rattle.jh_machine.specs.declared.machine.machine.Machine.{Machine}
use Rattle.jh_machine.specs.machine.Machines.{stands, EntryIs}
use Rattle.jh_exec.specs.declared.frames.frames.Frame.{Frame}
use Rattle.jh_exec.specs.declared.frames.frames.Frame.TheVariants as f
use Rattle.jh_exec.specs.declared.frames.frames.Work.{Work}
use Rattle.jh_exec.specs.declared.frames.frames.Work.TheVariants as w
use Rattle.jh_exec.specs.declared.frames.frames.Back.{Back}
use Rattle.jh_exec.specs.declared.frames.frames.Way.{Way}
use Rattle.jh_exec.specs.declared.frames.frames.Way.TheVariants as way
use Rattle.jh_machine.specs.continuation.Todos.{Todo, rest, one, turn, return_to, Reaches}

-- what is prepared is a program, over names
pub record IsPrepared (p : Program) (numbered : Callee → Option ℕ) (x : Prepared) (names : List Name) : Type 0 where
  pub bodies : AreBodies names x.table.now numbered x.methods.now p
  pub homes : AreHomes x.table.now.pools.names names x.homes.now
  pub locals : AreLocals names x.locals.now
  pub known : names ≡ x.names.now
  pub own : slice_get names x.this ≡ Some this_name
  pub all : slice_get names x.all ≡ Some alloc_name

-- where what was done leads
unfoldable pub progress : Way → Configuration → Progress
progress way.On r = goes_on r
progress (way.Return v) r = returns r (option_map datum_of v)

-- the result of what leads some way
unfoldable pub way_value : Way → Option Datum
way_value way.On = None
way_value (way.Return v) = option_map datum_of v

unfoldable pub WayInside : ℕ → Way → Type 0
WayInside last way.On = Unit {0}
WayInside last (way.Return None) = Unit {0}
WayInside last (way.Return (Some v)) = IsInside last v

module _ (names : List Name) (last : ℕ) (x : Prepared) (numbered : Callee → Option ℕ) where
  unfoldable pub WorkIs : Bool → Work → Todo → Type 0
  WorkIs keeps (w.Rest steps) k = (ss : c.Stmts) × AreSteps names x.table.now numbered keeps steps.now ss × (k ≡ rest ss)
  WorkIs keeps (w.One step) k = (s : c.Stmt) × IsStep names x.table.now numbered keeps step.now s × (k ≡ one s)
  WorkIs keeps (w.Turn test body) k = (s : c.Stmt) × TruthFits names test.now × IsStep names x.table.now numbered keeps body.now s × (k ≡ turn (truth_in names test.now) s)

  -- the return to a caller: the caller's locals are saved, and its state at entry is kept, or plays no part
  pub record BackIs (b : Back) (k : Todo) : Type 0 where
    pub caller : Configuration
    pub target : c.Target
    pub goes : IsTarget names b.destination.now target
    pub saved : AreSaved names caller.now x.locals.now b.saved.items
    pub inside : AreInside last b.saved.items
    pub known : IsOf names caller.now
    pub entry : EntryIs names last b.entry caller.entry
    pub is : k ≡ return_to caller target b.object

  -- What is to be done, the first thing next; behind the return to a caller the state at entry is the caller's.
  unfoldable pub AreFrames : Bool → List Frame → List Todo → Type 0
  AreFrames keeps [] ks = ks ≡ []
  AreFrames keeps (f.Work w ∷ fs) ks = (k : Todo) × (more : List Todo) × WorkIs keeps w k × AreFrames keeps fs more × (ks ≡ k ∷ more)
  AreFrames keeps (f.Back b ∷ fs) ks = (k : Todo) × (more : List Todo) × BackIs b k × AreFrames (is_some b.entry) fs more × (ks ≡ k ∷ more)

-- A machine with what is to be done, which runs what is prepared.
pub record IsRun (p : Program) (numbered : Callee → Option ℕ) (x : Prepared) (names : List Name) (last : ℕ) (kept : Option Held) (frames : List Frame) (entry : State) (ks : List Todo) : Type 0 where
  pub prepared : IsPrepared p numbered x names
  pub entry_is : EntryIs names last kept entry
  pub frames_are : AreFrames names last x numbered (is_some kept) (reverse frames) ks

-- What is to be done waits for a call's end, or there is nothing; so no state at entry plays a part in it but those of callers.
pub record IsWaiting (p : Program) (numbered : Callee → Option ℕ) (x : Prepared) (names : List Name) (last : ℕ) (frames : List Frame) (ks : List Todo) : Type 0 where
  pub prepared : IsPrepared p numbered x names
  pub frames_are : (keeps : Bool) → AreFrames names last x numbered keeps (reverse frames) ks

-- The body of a method begins: it is what is to be done first, in the state that the definition has there.
pub record Begun (p : Program) (numbered : Callee → Option ℕ) (x : Prepared) (old new : Machine) (frames : List Frame) (m : Method) (on : ℕ) (ds : List Datum) (ks : List Todo) : Type 0 where
  pub same : new ≡ record old { now = new.now; entry = new.entry }
  pub state : state_of new.now ≡ entered m on ds (state_of old.now)
  pub is_run : IsRun p numbered x new.now.names new.now.last new.entry frames (state_of old.now) (rest m.body ∷ ks)

-- A machine stands where a run leads that ends in this way.
pub record Stands (p : Program) (numbered : Callee → Option ℕ) (x : Prepared) (m : Machine) (frames : List Frame) (w : Way) (end : Outcome) (Overflows : Place → Type 0) : Type 0 where
  pub entry : State
  pub todos : List Todo
  pub is_run : IsRun p numbered x m.now.names m.now.last m.entry frames entry todos
  pub inside : WayInside m.now.last w
  pub reaches : Reaches p end Overflows todos (progress w (stands m entry))
