-- A program is sound where the formulas of all its methods are valid.
use Rattle.std.proofs.Common.{◌≡◌, refl, ℕ, suc, true, List, Option, None, Some}
use Rattle.jh_form.specs.Meaning.{Datum}
use Rattle.jh_vars.specs.Written.{Callee}
use Rattle.jh_semantics.specs.Code.{Text}
use Rattle.jh_semantics.specs.Program.{Program, Method}
use Rattle.jh_semantics.specs.State.{State}
use Rattle.jh_semantics.specs.Progress.{Progress, goes_on, returns, stops, outcome_of}
use Rattle.jh_semantics.specs.Execution.{calls}
use Rattle.jh_semantics.specs.Sound.{ReturnsWell, EndsWell, Sound}
use Rattle.jh_semantics.specs.Typed.{ProgramFits}
use Rattle.jh_guard.specs.Writes.{Writes}
use Rattle.jh_logic.specs.logic.MethodContracts.{ContractsFit, Met, Meets, WritesCover, IsValid}
use Rattle.jh_logic.proofs.logic.Depths.{calls-meet}

module _ (p : Program) (ws : Writes) (fitting : ProgramFits p) (contracts : ContractsFit p) (covers : WritesCover p ws)
    (valid : (m : Callee) (x : Method) → p.method m ≡ Some x → IsValid p ws m x) (Modifies : Callee → Text → Type 0) (names : (m : Callee) (y : Text) → ws.modified m y ≡ true → Modifies m y) where
  met-well : (m : Callee) (x : Method) (this : ℕ) (args : List Datum) (first last : State) (v : Option Datum) → Met p ws m x this args first last v → ReturnsWell p (Modifies m) x first last v
  met-well m x this args first last v met = record {
    typed = met.returns.typed;
    ensures = met.returns.ensures;
    invariants = met.returns.invariants;
    frame = record {
      universe = met.returns.frame.universe;
      alloc = λ a h. met.returns.frame.alloc a h;
      classes = λ c i a h. met.returns.frame.classes c i a h;
      members = λ y i out. met.returns.frame.members y i (λ e. out (names m y.text e));
    };
  }

  meets-well : (m : Callee) (x : Method) (this : ℕ) (args : List Datum) (first : State) (y : Progress) → Meets p ws m x this args first y → EndsWell p (Modifies m) x first (outcome_of y)
  meets-well m x this args first (goes_on r) h = met-well m x this args first r.now None h
  meets-well m x this args first (returns r v) h = met-well m x this args first r.now v h
  meets-well m x this args first (stops why) h = h

  pub sound : Sound p Modifies
  sound m x is first this args enters picks k =
      meets-well m x this args first (calls (suc k) p m this args (record { now = first; entry = first; picks = picks; steps = k }))
      (calls-meet p ws fitting contracts covers valid (suc k) m x is this args (record { now = first; entry = first; picks = picks; steps = k }) enters enters.whole refl)
