-- Branches and loops from the value of their condition.
use Rattle.std.proofs.Common.{◌≡◌, refl, sym, ap, subst, ◌⊎◌, inl, inr, ℕ, true, false, List, ◌∷◌, Option, is_some}
use Rattle.std.specs.Prelude.{Result, Ok, Err, OnOk}
use Rattle.jh_name.specs.declared.place.Place.{Place}
use Rattle.jh_vars.specs.Written.{Callee}
use Rattle.jh_semantics.specs.Code.{TruthCode, Stmt, Stmts}
use Rattle.jh_semantics.specs.Code as c
use Rattle.jh_semantics.specs.Program.{Program}
use Rattle.jh_semantics.specs.State.{State}
use Rattle.jh_semantics.specs.Values.{value, truth_of}
use Rattle.jh_semantics.specs.Progress.{Configuration, goes_on}
use Rattle.jh_semantics.specs.Laws.{LoopsUnfold}
use Rattle.jh_operands.specs.declared.exprs.TruthExpr.{TruthExpr}
use Rattle.jh_operands.specs.Exprs.{truth_in, TruthFits}
use Rattle.jh_machine_code.specs.declared.code.step.Step.{Step}
use Rattle.jh_machine_code.specs.code.Steps.{IsStep}
use Rattle.jh_machine.specs.declared.continuation.stop.Stop as code
use Rattle.jh_machine.specs.declared.continuation.stop.Stop.TheVariants as s
use Rattle.jh_machine.specs.continuation.Todos.{Todo, one, rest, turn, resume, StackOverflows, EndsAs}
use Rattle.jh_machine.specs.continuation.Done.{done, Else}
use Rattle.jh_machine.specs.continuation.Resumed.{Resumes}
use Rattle.jh_machine.specs.declared.machine.prepared.Prepared.{Prepared}
use Rattle.jh_machine.specs.declared.machine.machine.Machine.{Machine}
use Rattle.jh_machine.specs.machine.Machines.{stands, WasPaid}
use Rattle.jh_exec.specs.declared.frames.frames.Frame.{Frame}
use Rattle.jh_exec.specs.declared.frames.frames.Way.TheVariants as way
use Rattle.jh_exec.specs.frames.Frames.{IsRun, Stands}
use Rattle.jh_exec.proofs.frames.Standing.{is_paid, memory_ends}
use Rattle.jh_exec.proofs.interpreter.Leading.{stands_there}
use Rattle.jh_exec.proofs.interpreter.Turns.{unpaid_turn}

module _ (p : Program) (law : Resumes p) (numbered : Callee → Option ℕ) (x : Prepared) (m : Machine) (entry : State) (ks : List Todo) (e : TruthCode) (a : Stmt) where
  -- the first part of a branch is to be done
  pub first_stands : (q : Place) (b : Stmts) → truth_of e (stands m entry).now ≡ value true → (frames : List Frame) → IsRun p numbered x m.now.names m.now.last m.entry frames entry (one a ∷ ks) →
      Stands p numbered x m frames way.On (resume p ks (done p (c.branch q e a b) (stands m entry))) (Else p (c.branch q e a b) (stands m entry) ks)
  first_stands q b is frames run =
      stands_there p (resume p ks (done p (c.branch q e a b) (stands m entry))) (Else p (c.branch q e a b) (stands m entry) ks) (one a ∷ ks) (goes_on (stands m entry)) (law.first q e a b (stands m entry) ks is)
      numbered x m frames entry refl run

  -- the second one is
  pub second_stands : (q : Place) (b : Stmts) → truth_of e (stands m entry).now ≡ value false → (frames : List Frame) → IsRun p numbered x m.now.names m.now.last m.entry frames entry (rest b ∷ ks) →
      Stands p numbered x m frames way.On (resume p ks (done p (c.branch q e a b) (stands m entry))) (Else p (c.branch q e a b) (stands m entry) ks)
  second_stands q b is frames run =
      stands_there p (resume p ks (done p (c.branch q e a b) (stands m entry))) (Else p (c.branch q e a b) (stands m entry) ks) (rest b ∷ ks) (goes_on (stands m entry)) (law.second q e a b (stands m entry) ks is)
      numbered x m frames entry refl run

  -- a loop ends
  pub ended_stands : truth_of e (stands m entry).now ≡ value false → (frames : List Frame) → IsRun p numbered x m.now.names m.now.last m.entry frames entry ks →
      Stands p numbered x m frames way.On (resume p (turn e a ∷ ks) (goes_on (stands m entry))) (λ q. StackOverflows p q (turn e a ∷ ks) (goes_on (stands m entry)))
  ended_stands is frames run =
      stands_there p (resume p (turn e a ∷ ks) (goes_on (stands m entry))) (λ q. StackOverflows p q (turn e a ∷ ks) (goes_on (stands m entry))) ks (goes_on (stands m entry)) (law.ended e a (stands m entry) ks is)
      numbered x m frames entry refl run

  -- a loop turns
  pub turned_stands : truth_of e (stands m entry).now ≡ value true → (new : Machine) → WasPaid m new → (frames : List Frame) → IsRun p numbered x new.now.names new.now.last new.entry frames entry (one a ∷ turn e a ∷ ks) →
      Stands p numbered x new frames way.On (resume p (turn e a ∷ ks) (goes_on (stands m entry))) (λ q. StackOverflows p q (turn e a ∷ ks) (goes_on (stands m entry)))
  turned_stands is new paid frames run =
      stands_there p (resume p (turn e a ∷ ks) (goes_on (stands m entry))) (λ q. StackOverflows p q (turn e a ∷ ks) (goes_on (stands m entry))) (one a ∷ turn e a ∷ ks) (goes_on (stands new entry))
      (law.turned e a (stands m entry) ks (stands new entry) is (is_paid m new entry paid)) numbered x new frames entry refl run

-- want of memory, or of a step
abbrev pub Refused : code.Stop → Machine → Type 0
Refused why m = (why ≡ s.Memory) ⊎ ((why ≡ s.StepsOut) × (m.steps ≡ 0))

-- a turn that wants memory, or a step
pub again_ends : (p : Program) (e : TruthCode) (a : Stmt) (r : Configuration) (ks : List Todo) → LoopsUnfold p → truth_of e r.now ≡ value true → (why : code.Stop) → (why ≡ s.Memory) ⊎ ((why ≡ s.StepsOut) × (r.steps ≡ 0)) →
    EndsAs (resume p (turn e a ∷ ks) (goes_on r)) (λ q. StackOverflows p q (turn e a ∷ ks) (goes_on r)) why
unfolding EndsAs
again_ends p e a r ks unfolds is why (inl h) = memory_ends (resume p (turn e a ∷ ks) (goes_on r)) (λ q. StackOverflows p q (turn e a ∷ ks) (goes_on r)) why h
again_ends p e a r ks unfolds is why (inr h) = subst (λ (z : code.Stop). EndsAs (resume p (turn e a ∷ ks) (goes_on r)) (λ q. StackOverflows p q (turn e a ∷ ks) (goes_on r)) z) (sym h.0) (unpaid_turn p e a r ks unfolds is h.1)

-- two facts of what went on
pub on_both : {T E P Q R : Type 0} (r : Result T E) → (P → Q → R) → OnOk r P → OnOk r Q → OnOk r R
on_both (Ok x) f a b = f a b
on_both (Err y) f a b = tt

-- what was work is still behind a step that was paid
module _ (old new : Machine) (paid : WasPaid old new) (x : Prepared) (numbered : Callee → Option ℕ) where
  pub step_paid : (step : Step) (a : Stmt) → IsStep old.now.names x.table.now numbered (is_some old.entry) step a → IsStep new.now.names x.table.now numbered (is_some new.entry) step a
  step_paid step a is = subst (λ (m : Machine). IsStep m.now.names x.table.now numbered (is_some m.entry) step a) (sym paid.same) is

  pub one_paid : (step : Step) (a : Stmt) → IsStep old.now.names x.table.now numbered (is_some old.entry) step a → (b : Stmt) × IsStep new.now.names x.table.now numbered (is_some new.entry) step b × (one a ≡ one b)
  one_paid step a is = (a, subst (λ (m : Machine). IsStep m.now.names x.table.now numbered (is_some m.entry) step a) (sym paid.same) is, refl)

  pub turn_paid : (test : TruthExpr) (step : Step) (a : Stmt) → TruthFits old.now.names test → IsStep old.now.names x.table.now numbered (is_some old.entry) step a →
      (b : Stmt) × TruthFits new.now.names test × IsStep new.now.names x.table.now numbered (is_some new.entry) step b × (turn (truth_in old.now.names test) a ≡ turn (truth_in new.now.names test) b)
  turn_paid test step a fits is = (
    a,
    subst (λ (m : Machine). TruthFits m.now.names test) (sym paid.same) fits,
    subst (λ (m : Machine). IsStep m.now.names x.table.now numbered (is_some m.entry) step a) (sym paid.same) is,
    ap (λ (m : Machine). turn (truth_in m.now.names test) a) (sym paid.same),
  )
