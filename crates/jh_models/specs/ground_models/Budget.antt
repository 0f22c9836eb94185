-- A spent budget.
use Rattle.std.specs.Prelude.{◌≡◌, ℕ, List, length}
use Rattle.jh_form.specs.Tree.{FormulaTree}
use Rattle.jh_models.specs.ground_models.Explanations.{IsExplanation}
use Rattle.jh_models.specs.ground_models.Branches.{ClosedTree, Each, AreLeaves}

-- So many branches were closed, each is closed by its explanation, and they are leaves of one search that isn't finished.
pub record IsSpent (is : List FormulaTree) (leaves : ℕ) (bs : List ClosedTree) : Type 0 where
  pub many : length bs ≡ leaves
  pub explained : Each (λ b. IsExplanation is b.decisions b.explanation) bs
  pub leaves_of_one : AreLeaves is bs
