-- Statements with no statement in them, from what their calls say.
use Rattle.std.proofs.Common.{◌≡◌, sym, ap, subst, ◌∙◌, ◌⊎◌, inl, inr, ℕ, List, Option, Result, OnOk, IfErr}
use Rattle.std.proofs.lemmas.Result.{IfErr-weaker}
use Rattle.jh_vars.specs.Written.{Callee}
use Rattle.jh_semantics.specs.Code.{Stmt, Claim}
use Rattle.jh_semantics.specs.Code as c
use Rattle.jh_semantics.specs.Program.{Program}
use Rattle.jh_semantics.specs.State.{State}
use Rattle.jh_semantics.specs.Progress.{Configuration, goes_on}
use Rattle.jh_semantics.specs.Execution.{asked}
use Rattle.jh_machine.specs.declared.continuation.stop.Stop as code
use Rattle.jh_machine.specs.continuation.Stops.{StopsAs}
use Rattle.jh_machine.specs.continuation.Overflows.{OwnOverflows, ClaimOverflows}
use Rattle.jh_machine.specs.continuation.Todos.{Todo, resume, EndsAs}
use Rattle.jh_machine.specs.continuation.Done.{done, Else}
use Rattle.jh_machine.specs.declared.machine.prepared.Prepared.{Prepared}
use Rattle.jh_machine.specs.declared.machine.machine.Machine.{Machine}
use Rattle.jh_machine.specs.machine.Machines.{stands, IsBeside}
use Rattle.jh_exec.specs.declared.frames.frames.Frame.{Frame}
use Rattle.jh_exec.specs.declared.frames.frames.Way.TheVariants as way
use Rattle.jh_exec.specs.frames.Frames.{IsRun, Stands}
use Rattle.jh_exec.proofs.frames.Standing.{simple_stands}
use Rattle.jh_exec.proofs.frames.Called.{own_ends}
use Rattle.jh_exec.proofs.interpreter.Leading.{ends_as}
use Rattle.jh_exec.proofs.interpreter.Choosing.{on_both}

module _ {T : Type 0} (p : Program) (numbered : Callee → Option ℕ) (x : Prepared) (frames : List Frame) (s : State) (ks : List Todo) (a b : Stmt) (is : a ≡ b) (m : Machine) (result : Result T code.Stop) where
  -- it goes on
  pub simple_on : (new : Machine) → IsRun p numbered x m.now.names m.now.last m.entry frames s ks → OnOk result (IsBeside m new) → OnOk result (done p b (stands m s) ≡ goes_on (stands new s)) →
      OnOk result (Stands p numbered x new frames way.On (resume p ks (done p a (stands m s))) (Else p a (stands m s) ks))
  simple_on new run beside goes =
      on_both result (λ beside goes. simple_stands p numbered x frames s ks a m new beside run (ap (λ (z : Stmt). done p z (stands m s)) is ∙ goes)) beside goes

  -- it stops
  pub simple_stop : IfErr result (StopsAs (done p b (stands m s)) (λ q. OwnOverflows q b (stands m s))) → IfErr result (EndsAs (resume p ks (done p a (stands m s))) (Else p a (stands m s) ks))
  simple_stop h =
      IfErr-weaker result (StopsAs (done p b (stands m s)) (λ q. OwnOverflows q b (stands m s))) (EndsAs (resume p ks (done p a (stands m s))) (Else p a (stands m s) ks))
      (λ why stops. ends_as p a b (stands m s) ks is why (own_ends p b (stands m s) ks why stops)) h

-- a formula that is asked
module _ (p : Program) (a : Stmt) (claim : Claim) (r : Configuration) where
  pub asked_done : (a ≡ c.assert claim) ⊎ (a ≡ c.note claim) → done p a r ≡ asked claim r
  unfolding done
  asked_done (inl is) = ap (λ (z : Stmt). done p z r) is
  asked_done (inr is) = ap (λ (z : Stmt). done p z r) is

  pub asked_stops : (a ≡ c.assert claim) ⊎ (a ≡ c.note claim) → (why : code.Stop) → StopsAs (asked claim r) (λ q. ClaimOverflows q claim r) why → StopsAs (done p a r) (λ q. OwnOverflows q a r) why
  unfolding done OwnOverflows
  asked_stops (inl is) why h = subst (λ (z : Stmt). StopsAs (done p z r) (λ q. OwnOverflows q z r) why) (sym is) h
  asked_stops (inr is) why h = subst (λ (z : Stmt). StopsAs (done p z r) (λ q. OwnOverflows q z r) why) (sym is) h
