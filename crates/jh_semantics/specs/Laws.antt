-- What the definition of runs comes to.
use Rattle.std.specs.Prelude.{◌≡◌, ◌<◌, ℕ, suc, true, false, List, [], ◌∷◌, Option, None, Some}
use Rattle.std.specs.Option.{option_map_or}
use Rattle.jh_form.specs.Meaning.{Datum, an_object, a_set, truth}
use Rattle.jh_vars.specs.Written.{Callee}
use Rattle.jh_semantics.specs.Code.{Text, TruthCode, Stmt}
use Rattle.jh_semantics.specs.Program.{Program, Method}
use Rattle.jh_semantics.specs.State.{State, IsWhole, named, shown}
use Rattle.jh_semantics.specs.Locals.{has_dot}
use Rattle.jh_semantics.specs.Values.{truth_of}
use Rattle.jh_semantics.specs.Progress.{Configuration, Progress, goes_on, then_run, pay, with_value, choose, Outcome, returned, stopped}
use Rattle.jh_semantics.specs.Execution.{turns, loop, exec, exec_all, at_entry, calls, call, run}
use Rattle.jh_semantics.specs.Typed.{ProgramFits}
use Rattle.jh_semantics.specs.WellFormed.{well_formed}
use Rattle.jh_semantics.specs.Entry.{ThisLiesIn, AllLieIn}
use Rattle.jh_semantics.specs.Sound.{HasResult}
use Rattle.jh_rules.specs.declared.types.Ty.{Ty}
use Rattle.jh_semantics.specs.Heaps.{Heap, IsHeap, state_of}

-- the statement in a run of the program
abbrev pub runs : Program → Stmt → Configuration → Progress
runs p s = exec (call p) s

-- Bounds on the turns of loops and on the depth of calls end no run: with greater ones all runs are the same.
pub record BoundsEndNoRun (p : Program) : Type 0 where
  pub loops : (e : TruthCode) (body : Stmt) (r : Configuration) (n : ℕ) → r.steps < n → turns n e (runs p body) r ≡ loop e (runs p body) r
  pub calls : (m : Callee) (this : ℕ) (args : List Datum) (r : Configuration) (n : ℕ) → r.steps < n → calls n p m this args r ≡ call p m this args r

-- So a loop is one turn and then the loop again, where its condition is true; and a call is the body of the method, in which calls are
-- calls. No bound stands in either.
abbrev pub LoopsUnfold : Program → Type 0
LoopsUnfold p =
    (e : TruthCode) (body : Stmt) (r : Configuration) →
    loop e (runs p body) r ≡ with_value (truth_of e r.now) (λ b. choose b (λ r. pay r (λ r. then_run (runs p body r) (loop e (runs p body)))) goes_on r)

abbrev pub CallsUnfold : Program → Type 0
CallsUnfold p =
    (m : Callee) (this : ℕ) (args : List Datum) (r : Configuration) →
    call p m this args r ≡ pay r (λ r. option_map_or (λ (x : Method). exec_all (call p) x.body (at_entry x this args r)) (p.method m) (goes_on r))

-- a value that is an object is one of the objects 0 to n
abbrev pub IsInside : ℕ → Datum → Type 0
IsInside n (an_object a) = a < suc n
IsInside n d = Unit {0}

abbrev pub AreInside : ℕ → List Datum → Type 0
AreInside n [] = Unit {0}
AreInside n (d ∷ ds) = IsInside n d × AreInside n ds

abbrev pub ResultInside : ℕ → Option Datum → Type 0
ResultInside n None = Unit {0}
ResultInside n (Some d) = IsInside n d

-- where a run returns, its objects are still those from 0 to n, and nothing else is in its state
abbrev pub EndsWhole : ℕ → Outcome → Type 0
EndsWhole n (returned last result) = (last.last ≡ n) × IsWhole last × ResultInside n result
EndsWhole n (stopped why) = Unit {0}

-- Runs of whole states stay whole, whatever the program.
abbrev pub RunsStayWhole : Program → Type 0
RunsStayWhole p =
    (m : Callee) (first : State) (this : ℕ) (args : List Datum) → IsWhole first → this < suc first.last → AreInside first.last args →
    (picks : List ℕ) (k : ℕ) → EndsWhole first.last (run p m first this args picks k)

-- The state that a heap lists is whole.
abbrev pub HeapsAreWhole : Type 0
HeapsAreWhole = (p : Program) (h : Heap) → IsHeap p h → IsWhole (state_of p h)

-- no set
abbrev pub IsPlain : Datum → Type 0
IsPlain (a_set v) = ⊥
IsPlain d = Unit {0}

abbrev pub ArePlain : List Datum → Type 0
ArePlain [] = Unit {0}
ArePlain (d ∷ ds) = IsPlain d × ArePlain ds

-- a state has all that another has in the sets `alloc` and of the classes, which are those without a dot
abbrev pub Grew : State → State → Type 0
Grew first last = (x : Text) → has_dot x ≡ false → (a : ℕ) → first.set (named x) a ≡ true → last.set (named x) a ≡ true

abbrev pub EndsGrown : State → Outcome → Type 0
EndsGrown first (returned last result) = Grew first last
EndsGrown first (stopped why) = Unit {0}

-- Runs of a program that the type rules leave only add to `alloc` and to the classes.
abbrev pub RunsOnlyAdd : Program → Type 0
RunsOnlyAdd p =
    ProgramFits p → (m : Callee) (first : State) (this : ℕ) (args : List Datum) → ArePlain args → (picks : List ℕ) (k : ℕ) →
    EndsGrown first (run p m first this args picks k)

-- where a run returns, the state is well formed, and the result lies in its type
abbrev pub EndsWellFormed : Program → Ty → Outcome → Type 0
EndsWellFormed p type (returned last result) = (truth (well_formed p [] None) (shown last last) [] ≡ true) × HasResult p type last result
EndsWellFormed p type (stopped why) = Unit {0}

-- Runs of a program that the type rules leave keep states well formed, and answer results in their types.
abbrev pub RunsStayWellFormed : Program → Type 0
RunsStayWellFormed p =
    ProgramFits p → (m : Callee) (x : Method) → p.method m ≡ Some x → (first : State) (this : ℕ) (args : List Datum) →
    IsWhole first → truth (well_formed p [] None) (shown first first) [] ≡ true → ThisLiesIn p x.this first this → AllLieIn p x.params first args →
    (picks : List ℕ) (k : ℕ) → EndsWellFormed p x.result (run p m first this args picks k)
