-- How a run ends, by equal states, objects, arguments and lists of objects to take.
use Rattle.std.proofs.Common.{◌≡◌, subst, ℕ, List}
use Rattle.jh_arena.specs.jh_form.Meaning.{Datum}
use Rattle.jh_vars.specs.Written.{Callee}
use Rattle.jh_semantics.specs.Program.{Program}
use Rattle.jh_semantics.specs.State.{State}
use Rattle.jh_semantics.specs.Execution.{run}
use Rattle.jh_machine.specs.declared.continuation.stop.Stop.{Stop}
use Rattle.jh_machine.specs.continuation.Overflows.{RunOverflows}
use Rattle.jh_machine.specs.continuation.Todos.{EndsAs}

module _ (p : Program) (m : Callee) (k : ℕ) (why : Stop) where
  abbrev Ends : State → ℕ → List Datum → List ℕ → Type 0
  Ends s a ds xs = EndsAs (run p m s a ds xs k) (λ q. RunOverflows p q m s a ds xs k) why

  pub ends-along : (s t : State) (a b : ℕ) (ds es : List Datum) (xs ys : List ℕ) → s ≡ t → a ≡ b → ds ≡ es → xs ≡ ys → Ends s a ds xs → Ends t b es ys
  ends-along s t a b ds es xs ys state this args picks ends = subst (λ zs. Ends t b es zs) picks (subst (λ fs. Ends t b fs xs) args (subst (λ c. Ends t c ds xs) this (subst (λ u. Ends u a ds xs) state ends)))
