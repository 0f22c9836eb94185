-- What it is that a program meets its specifications.
use Rattle.std.specs.Prelude.{◌≡◌, ℕ, true, List, [], Option, None, Some}
use Rattle.jh_rules.specs.declared.types.Ty.{Ty}
use Rattle.jh_rules.specs.declared.types.Ty.TheVariants as ty
use Rattle.jh_form.specs.Meaning.{Datum, truth}
use Rattle.jh_form.specs.Assigned.{assigned}
use Rattle.jh_vars.specs.Written.{Callee}
use Rattle.jh_semantics.specs.Code.{Text}
use Rattle.jh_semantics.specs.Program.{Program, Method}
use Rattle.jh_semantics.specs.State.{State, result_name, shown}
use Rattle.jh_semantics.specs.Progress.{Stop, null_dereferenced, assert_failed, no_object, steps_out, Outcome, returned, stopped}
use Rattle.jh_semantics.specs.Execution.{run}
use Rattle.jh_semantics.specs.Entry.{Entry, LiesIn, AllTrue, condition, owed}
use Rattle.jh_semantics.specs.Frame.{Frame}

-- the last state, with the result under the name `result`
abbrev pub with_result : State → Option Datum → State
with_result s None = s
with_result s (Some d) = assigned s result_name d

-- a result in its type; a void method has none
abbrev pub HasResult : Program → Ty → State → Option Datum → Type 0
HasResult p ty.Void s None = Unit {0}
HasResult p type s (Some d) = LiesIn p type s d
HasResult p _ s None = ⊥

-- A run returns well: the result lies in its type, `ensures` and the owed invariants are true with the first state for `old`, and the
-- frame holds.
pub record ReturnsWell (p : Program) (Modifies : Text → Type 0) (x : Method) (first last : State) (result : Option Datum) : Type 0 where
  pub typed : HasResult p x.result last result
  pub ensures : truth (condition x.ensures) (shown (with_result last result) first) [] ≡ true
  pub invariants : AllTrue (owed p x) last first
  pub frame : Frame p Modifies first last

-- that no object is left, or no step, is no fault
abbrev pub IsNoFault : Stop → Type 0
IsNoFault (null_dereferenced place) = ⊥
IsNoFault (assert_failed place) = ⊥
IsNoFault (no_object place) = Unit {0}
IsNoFault steps_out = Unit {0}

-- a run ends well: it dereferences no null and fails no assert, and where it returns, it returns well
abbrev pub EndsWell : Program → (Text → Type 0) → Method → State → Outcome → Type 0
EndsWell p Modifies x first (returned last result) = ReturnsWell p Modifies x first last result
EndsWell p Modifies x first (stopped why) = IsNoFault why

-- A program is sound: each run of each method from each state from which it may be entered ends well, whichever objects `new` takes and
-- however many steps there are. `Modifies` says what the `modifies` of a method names.
abbrev pub Sound : Program → (Callee → Text → Type 0) → Type 0
Sound p Modifies =
    (m : Callee) (x : Method) → p.method m ≡ Some x → (first : State) (this : ℕ) (args : List Datum) → Entry p x first this args →
    (picks : List ℕ) (k : ℕ) → EndsWell p (Modifies m) x first (run p m first this args picks k)
