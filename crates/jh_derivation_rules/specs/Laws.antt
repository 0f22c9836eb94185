-- What is true of derivations.
use Rattle.std.specs.Prelude.{◌≡◌, ◌↔◌, ℕ, List, [], ◌∷◌}
use Rattle.jh_form.specs.Tree.{FormulaTree}
use Rattle.jh_seq.specs.sequent.Sequents.{SequentTree, IsValid}
use Rattle.jh_derivation_rules.specs.Steps.{StepTree}
use Rattle.jh_derivation_rules.specs.Closes.{Closes, ClosesSequent, Runs, FailsAt}

-- a derivation that closes a sequent shows that it is valid
abbrev pub ClosesGivesValid : Type 0
ClosesGivesValid = (steps : List StepTree) (s : SequentTree) → ClosesSequent steps s → IsValid s

-- The steps close the facts exactly where they leave no branch open; where some step is the first that fails, they
-- don't close, and no other step is the first.
pub record ClosesOrFails : Type 0 where
  pub runs : (fs : List FormulaTree) (ss : List StepTree) → Closes fs ss ↔ Runs (fs ∷ []) ss
  pub apart : (fs : List FormulaTree) (ss : List StepTree) (n : ℕ) → FailsAt (fs ∷ []) ss n → Closes fs ss → ⊥
  pub first : (fs : List FormulaTree) (ss : List StepTree) (n k : ℕ) → FailsAt (fs ∷ []) ss n → FailsAt (fs ∷ []) ss k → n ≡ k
