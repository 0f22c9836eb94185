-- What is still to be done while a method runs, and what comes of it.
use Rattle.std.specs.Prelude.{◌≡◌, ◌⊎◌, ℕ, List, [], ◌∷◌}
use Rattle.jh_name.specs.declared.place.Place.{Place}
use Rattle.jh_semantics.specs.Code.{TruthCode, Target, Stmt, Stmts}
use Rattle.jh_semantics.specs.Code as c
use Rattle.jh_semantics.specs.Program.{Program}
use Rattle.jh_semantics.specs.Values.{dereferenced}
use Rattle.jh_semantics.specs.Progress.{Configuration, Progress, goes_on, returns, stops, Stop, null_dereferenced, assert_failed, no_object, steps_out, Outcome, stopped, outcome_of, then_run}
use Rattle.jh_semantics.specs.Execution.{exec, exec_all, loop, back, call}
use Rattle.jh_machine.specs.declared.continuation.stop.Stop as code
use Rattle.jh_machine.specs.declared.continuation.stop.Stop.TheVariants as s
use Rattle.jh_machine.specs.continuation.Overflows.{StmtOverflows, AllOverflows, LoopOverflows}

-- the rest of a list of statements, one statement, a loop from its condition on, or the return to a caller from where it stood
pub data Todo : Type 0 where
  rest : Stmts → Todo
  one : Stmt → Todo
  turn : TruthCode → Stmt → Todo
  return_to : Configuration → Target → ℕ → Todo

-- where it leads, behind what led some way
unfoldable pub through : Program → Todo → Progress → Progress
through p (rest ss) x = then_run x (λ r. exec_all (call p) ss r)
through p (one s) x = then_run x (λ r. exec (call p) s r)
through p (turn e body) x = then_run x (λ r. loop e (λ u. exec (call p) body u) r)
through p (return_to caller target a) x = back caller target a x

-- how a run ends that leads some way, where all this is still to be done, the first thing next
unfoldable pub resume : Program → List Todo → Progress → Outcome
resume p [] x = outcome_of x
resume p (k ∷ ks) x = resume p ks (through p k x)

-- something overflows at a place in what is to be done
unfoldable pub TodoOverflows : Program → Place → Todo → Progress → Type 0
TodoOverflows p place (rest ss) (goes_on r) = AllOverflows p place ss r
TodoOverflows p place (one s) (goes_on r) = StmtOverflows p place s r
TodoOverflows p place (turn e body) (goes_on r) = LoopOverflows p place e body r
TodoOverflows p place k x = ⊥

unfoldable pub StackOverflows : Program → Place → List Todo → Progress → Type 0
StackOverflows p place [] x = ⊥
StackOverflows p place (k ∷ ks) x = TodoOverflows p place k x ⊎ StackOverflows p place ks (through p k x)

-- A run that ends in this way stands where all this is to be done: what comes is how it ends, and what overflows from there on
-- overflows in it.
pub record Reaches (p : Program) (end : Outcome) (Overflows : Place → Type 0) (ks : List Todo) (x : Progress) : Type 0 where
  pub same : resume p ks x ≡ end
  pub faults : (place : Place) → StackOverflows p place ks x → Overflows place

-- a run ends as the definition has it, or something overflows in it, or memory ran out
unfoldable pub EndsAs : Outcome → (Place → Type 0) → code.Stop → Type 0
EndsAs x Overflows (s.Null q) = x ≡ stopped (null_dereferenced q)
EndsAs x Overflows (s.AssertFailed q) = x ≡ stopped (assert_failed q)
EndsAs x Overflows (s.NoObject q) = x ≡ stopped (no_object q)
EndsAs x Overflows s.StepsOut = x ≡ stopped steps_out
EndsAs x Overflows (s.Overflow q) = Overflows q
EndsAs x Overflows s.Memory = Unit {0}
