-- What is to be done leads on, a step at a time, and what overflows in a step overflows in the whole.
use Rattle.std.specs.Prelude.{◌≡◌, ◌⊎◌, ℕ, true, false, List, [], ◌∷◌, Some, None}
use Rattle.jh_name.specs.declared.place.Place.{Place}
use Rattle.jh_form.specs.Meaning.{Datum}
use Rattle.jh_vars.specs.Written.{Callee}
use Rattle.jh_semantics.specs.Code.{TruthCode, Target, Claim, Stmt, Stmts}
use Rattle.jh_semantics.specs.Code as c
use Rattle.jh_semantics.specs.Program.{Program, Method}
use Rattle.jh_semantics.specs.State.{State}
use Rattle.jh_semantics.specs.Values.{value, truth_of}
use Rattle.jh_semantics.specs.Progress.{Configuration, Progress, goes_on}
use Rattle.jh_semantics.specs.Execution.{at_entry, back, call, run}
use Rattle.jh_machine.specs.continuation.Overflows.{Paid, CallOverflows}
use Rattle.jh_machine.specs.continuation.Todos.{Todo, rest, one, turn, return_to, resume, StackOverflows, Reaches}
use Rattle.jh_machine.specs.continuation.Done.{done, Else}

-- from what is to be done behind what led some way, to what is to be done then
abbrev pub LeadsOn : Program → List Todo → Progress → List Todo → Progress → Type 0
LeadsOn p ks x js y = Reaches p (resume p ks x) (λ place. StackOverflows p place ks x) js y

-- the same from a statement that was paid
abbrev pub DoneLeads : Program → Stmt → Configuration → List Todo → List Todo → Progress → Type 0
DoneLeads p s u ks js y = Reaches p (resume p ks (done p s u)) (Else p s u ks) js y

-- and from a call
abbrev pub CallLeads : Program → Callee → ℕ → List Datum → Configuration → List Todo → List Todo → Progress → Type 0
CallLeads p m this args r ks js y = Reaches p (resume p ks (call p m this args r)) (λ place. CallOverflows p place m this args r ⊎ StackOverflows p place ks (call p m this args r)) js y

pub record Resumes (p : Program) : Type 0 where
  pub whole : (m : Callee) (first : State) (this : ℕ) (args : List Datum) (picks : List ℕ) (k : ℕ) →
      resume p [] (call p m this args (record { now = first; entry = first; picks = picks; steps = k })) ≡ run p m first this args picks k
  pub none : (u : Configuration) (ks : List Todo) → LeadsOn p (rest c.none ∷ ks) (goes_on u) ks (goes_on u)
  pub more : (s : Stmt) (ss : Stmts) (u : Configuration) (ks : List Todo) → LeadsOn p (rest (c.more s ss) ∷ ks) (goes_on u) (one s ∷ rest ss ∷ ks) (goes_on u)
  pub pays : (s : Stmt) (r u : Configuration) (ks js : List Todo) (x : Progress) → Paid r u → DoneLeads p s u ks js x → LeadsOn p (one s ∷ ks) (goes_on r) js x
  pub block : (body : Stmts) (u : Configuration) (ks : List Todo) → DoneLeads p (c.block body) u ks (rest body ∷ ks) (goes_on u)
  pub first : (q : Place) (e : TruthCode) (a : Stmt) (b : Stmts) (u : Configuration) (ks : List Todo) → truth_of e u.now ≡ value true → DoneLeads p (c.branch q e a b) u ks (one a ∷ ks) (goes_on u)
  pub second : (q : Place) (e : TruthCode) (a : Stmt) (b : Stmts) (u : Configuration) (ks : List Todo) → truth_of e u.now ≡ value false → DoneLeads p (c.branch q e a b) u ks (rest b ∷ ks) (goes_on u)
  pub loop : (q : Place) (claims : List Claim) (e : TruthCode) (body : Stmt) (u : Configuration) (ks : List Todo) → DoneLeads p (c.loop q claims e body) u ks (turn e body ∷ ks) (goes_on u)
  pub ended : (e : TruthCode) (body : Stmt) (r : Configuration) (ks : List Todo) → truth_of e r.now ≡ value false → LeadsOn p (turn e body ∷ ks) (goes_on r) ks (goes_on r)
  pub turned : (e : TruthCode) (body : Stmt) (r : Configuration) (ks : List Todo) (u : Configuration) → truth_of e r.now ≡ value true → Paid r u →
      LeadsOn p (turn e body ∷ ks) (goes_on r) (one body ∷ turn e body ∷ ks) (goes_on u)
  pub entered : (m : Callee) (this : ℕ) (args : List Datum) (r u : Configuration) → Paid r u → (ks : List Todo) (x : Method) → p.method m ≡ Some x →
      CallLeads p m this args r ks (rest x.body ∷ ks) (goes_on (at_entry x this args u))
  pub absent : (m : Callee) (this : ℕ) (args : List Datum) (r u : Configuration) → Paid r u → (ks : List Todo) → p.method m ≡ None → CallLeads p m this args r ks ks (goes_on u)
  pub left : (caller : Configuration) (target : Target) (a : ℕ) (x : Progress) (v : Configuration) (ks : List Todo) → back caller target a x ≡ goes_on v → LeadsOn p (return_to caller target a ∷ ks) x ks (goes_on v)
