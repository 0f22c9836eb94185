-- Loops and branches whose condition has no value, and loops that can't pay.
use Rattle.std.proofs.Common.{◌≡◌, ap, ◌∙◌, inl, Bool, true, List, ◌∷◌}
use Rattle.jh_name.specs.declared.place.Place.{Place}
use Rattle.jh_semantics.specs.Code.{TruthCode, Stmt, Stmts}
use Rattle.jh_semantics.specs.Code as c
use Rattle.jh_semantics.specs.Program.{Program}
use Rattle.jh_semantics.specs.Values.{Value, value, truth_of}
use Rattle.jh_semantics.specs.Progress.{Configuration, goes_on, steps_out, stopped, then_run, pay, pay_from, with_value, choose}
use Rattle.jh_semantics.specs.Execution.{exec, exec_all, loop, call}
use Rattle.jh_semantics.specs.Laws.{runs, LoopsUnfold}
use Rattle.jh_operands.specs.declared.fault.Fault.{Fault}
use Rattle.jh_operands.specs.Faults.{TruthFault, TruthOverflows}
use Rattle.jh_machine.specs.continuation.Stops.{stop_of}
use Rattle.jh_machine.specs.continuation.Overflows.{OwnOverflows, in_test, own}
use Rattle.jh_machine.specs.continuation.Todos.{Todo, turn, resume, through, StackOverflows, TodoOverflows, EndsAs}
use Rattle.jh_machine.specs.continuation.Done.{done, Else}
use Rattle.jh_machine.proofs.continuation.Reaching.{resume-stops, stops-end}
use Rattle.jh_machine.proofs.writes.TargetSteps.{stops_there, fault_stops}

module _ (p : Program) (e : TruthCode) (body : Stmt) (r : Configuration) (ks : List Todo) (unfolds : LoopsUnfold p) where
  pub unpaid_turn : truth_of e r.now ≡ value true → r.steps ≡ 0 → resume p (turn e body ∷ ks) (goes_on r) ≡ stopped steps_out
  unfolding resume through
  unpaid_turn is none =
      ap (resume p ks)
      (unfolds e body r
      ∙ ap (λ (v : Value Bool). with_value v (λ b. choose b (λ r. pay r (λ r. then_run (runs p body r) (loop e (runs p body)))) goes_on r)) is
      ∙ ap (λ k. pay_from k r (λ r. then_run (runs p body r) (loop e (runs p body)))) none)
      ∙ resume-stops p ks steps_out

  pub turn_stop : (why : Fault) → TruthFault e r.now why → EndsAs (resume p (turn e body ∷ ks) (goes_on r)) (λ q. StackOverflows p q (turn e body ∷ ks) (goes_on r)) (stop_of why)
  unfolding resume through StackOverflows TodoOverflows
  turn_stop why h =
      stops-end p ks (loop e (λ u. exec (call p) body u) r) (λ q. TruthOverflows q e r.now) (λ q. StackOverflows p q (turn e body ∷ ks) (goes_on r)) (stop_of why)
      (stops_there (with_value (truth_of e r.now) (λ b. choose b (λ r. pay r (λ r. then_run (runs p body r) (loop e (runs p body)))) goes_on r)) (loop e (λ u. exec (call p) body u) r)
      (λ q. TruthOverflows q e r.now) (λ q. TruthOverflows q e r.now) (stop_of why) (unfolds e body r) (λ q f. f)
      (fault_stops (truth_of e r.now) (λ b. choose b (λ r. pay r (λ r. then_run (runs p body r) (loop e (runs p body)))) goes_on r) (λ q. TruthOverflows q e r.now) (λ q. TruthOverflows q e r.now) why h (λ q f. f)))
      (λ q f. inl (in_test f))

-- a branch whose condition has no value
pub branch_stop : (p : Program) (q : Place) (e : TruthCode) (a : Stmt) (b : Stmts) (r : Configuration) (ks : List Todo) (why : Fault) → TruthFault e r.now why →
    EndsAs (resume p ks (done p (c.branch q e a b) r)) (Else p (c.branch q e a b) r ks) (stop_of why)
unfolding done OwnOverflows
branch_stop p q e a b r ks why h =
    stops-end p ks (done p (c.branch q e a b) r) (λ x. TruthOverflows x e r.now) (Else p (c.branch q e a b) r ks) (stop_of why)
    (fault_stops (truth_of e r.now) (λ t. choose t (λ r. exec (call p) a r) (λ r. exec_all (call p) b r) r) (λ x. TruthOverflows x e r.now) (λ x. TruthOverflows x e r.now) why h (λ x f. f))
    (λ x f. inl (own f))
