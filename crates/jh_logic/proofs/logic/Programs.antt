-- What holds of the calls of a program whose code fits its types: loops are safe under their commands, and a call changes only what its
-- method may write.
use Rattle.std.proofs.Common.{◌≡◌, ℕ, List, Option, Some}
use Rattle.jh_form.specs.Tree.{FormulaTree}
use Rattle.jh_form.specs.Meaning.{Interp, Datum}
use Rattle.jh_rules.specs.declared.types.Ty.{Ty}
use Rattle.jh_vars.specs.Written.{Callee}
use Rattle.jh_semantics.specs.Code.{Stmts}
use Rattle.jh_semantics.specs.Program.{Program, Method}
use Rattle.jh_semantics.specs.Locals.{with_locals_of}
use Rattle.jh_semantics.specs.Progress.{Configuration, Progress, goes_on, returns, stops}
use Rattle.jh_semantics.specs.Execution.{calls}
use Rattle.jh_semantics.specs.Typed.{ProgramFits}
use Rattle.jh_semantics.specs.Laws.{ArePlain}
use Rattle.jh_semantics.proofs.Keeping.{Ends}
use Rattle.jh_semantics.proofs.Growth.{calls-add}
use Rattle.jh_semantics.proofs.TypedRuns.{CallsGood}
use Rattle.jh_semantics.proofs.TypedCalls.{calls-good}
use Rattle.jh_semantics.proofs.TypedMethods.{methods-good}
use Rattle.jh_guard.specs.Items.{items, item_text, Sorted, sorted_item}
use Rattle.jh_guard.specs.Writes.{Writes}
use Rattle.jh_guard.specs.Calls.{written_items, written_sorted}
use Rattle.jh_logic.specs.logic.Histories.{Respects}
use Rattle.jh_logic.proofs.logic.Histories.{Outside, outside-refl}
use Rattle.jh_logic.proofs.logic.Statements.{SafeStmts}
use Rattle.jh_logic.proofs.logic.Bodies.{SafeCalls, SafeLoops, all-safe}
use Rattle.jh_logic.proofs.logic.Written.{filter-has, map-has, CoversItems}
use Rattle.jh_logic.proofs.logic.Loops.{loops-safe}
use Rattle.jh_logic.proofs.logic.Confined.{StateKept, outside-state, state-back, WritesBodies, calls-keep, calls-keep-all}

module _ (p : Program) (ws : Writes) (fits : ProgramFits p) (writes : WritesBodies p ws fits.names) where
  -- calls of each depth keep states well formed
  pub program-calls-good : (n depth : ℕ) (result : Ty) → CallsGood p fits.names n (calls depth p) result
  program-calls-good n depth result = calls-good p fits.names n (calls depth p) (λ m x e. (fits.methods m x e).result_type) (methods-good p fits n depth) (λ first. calls-add first p fits depth) result

  -- each loop of a program is safe
  pub program-loops-safe : (n : ℕ) (result : Ty) (this : Option ℕ) (R : Interp → Type 0) (respect : Respects R) (depth : ℕ) → SafeLoops p ws fits.names n result this R respect (calls depth p)
  program-loops-safe n result this R respect depth =
      loops-safe p ws fits.names n result this R respect (calls depth p) (program-calls-good n depth result) (calls-keep-all p ws fits.names fits writes depth result) (λ first. calls-add first p fits depth)

  -- So each body is, where its calls are.
  pub program-bodies-safe : (n : ℕ) (result : Ty) (this : Option ℕ) (R : Interp → Type 0) (respect : Respects R) (depth : ℕ) → SafeCalls p ws fits.names n result this R respect (calls depth p) → (body : Stmts) → SafeStmts p ws fits.names n result this R respect (calls depth p) body
  program-bodies-safe n result this R respect depth safe body =
      all-safe p ws fits.names n result this R respect (calls depth p) (program-calls-good n depth result) safe (program-loops-safe n result this R respect depth) body

  -- what a method may write is among the names that its calls havoc
  written-covers : (wf : FormulaTree) (m : Callee) → CoversItems p ws fits.names (written_sorted p ws wf m) (ws.written m)
  written-covers wf m y i e = map-has sorted_item (written_items p ws wf m) y (filter-has (λ x. ws.written m (item_text x)) (items p) y i e)

  -- Where a call leads, with the caller's locals, the state differs from the caller's in these alone.
  pub call-confined : (depth : ℕ) (wf : FormulaTree) (m : Callee) (x : Method) → p.method m ≡ Some x → (this : ℕ) (args : List Datum) (r : Configuration) → ArePlain args →
      Ends (λ u. Outside (written_sorted p ws wf m) r.now (with_locals_of u.now r.now)) (λ u v. Outside (written_sorted p ws wf m) r.now (with_locals_of u.now r.now)) (calls depth p m this args r)
  call-confined depth wf m x e this args r plain =
      with-locals (calls depth p m this args r)
      (calls-keep p ws fits.names fits writes depth m x e (written_sorted p ws wf m) r.now (written-covers wf m) this args r plain (outside-state (written_sorted p ws wf m) r.now r.now (outside-refl (written_sorted p ws wf m) r.now)))
    where
      xs : List Sorted
      xs = written_sorted p ws wf m

      with-locals : (y : Progress) → Ends (λ u. StateKept xs r.now u.now) (λ u v. StateKept xs r.now u.now) y →
          Ends (λ u. Outside xs r.now (with_locals_of u.now r.now)) (λ u v. Outside xs r.now (with_locals_of u.now r.now)) y
      with-locals (goes_on u) h = state-back xs r.now u.now r.now h (outside-refl xs r.now)
      with-locals (returns u v) h = state-back xs r.now u.now r.now h (outside-refl xs r.now)
      with-locals (stops why) h = tt
