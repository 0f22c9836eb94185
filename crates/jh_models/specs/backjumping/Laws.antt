-- How a search goes on.
use Rattle.std.specs.Prelude.{◌≡◌, ℕ, true, false, List, [], ◌∷◌, ◌++◌, length}
use Rattle.jh_form.specs.Tree.{FormulaTree}
use Rattle.jh_closure.specs.structures.Literals.{LiteralTree, IsListed}
use Rattle.jh_models.specs.ground_models.Atoms.{opposite, IsGroundAtom}
use Rattle.jh_models.specs.ground_models.GroundModel.{IsGroundModel}
use Rattle.jh_models.specs.ground_models.Clashes.{DecidesAtom, IsOpen}
use Rattle.jh_models.specs.ground_models.Explanations.{IsExplanation}
use Rattle.jh_models.specs.ground_models.Branches.{ClosedTree}
use Rattle.jh_models.specs.ground_models.Budget.{IsSpent}
use Rattle.jh_models.specs.backjumping.Paths.{Turn, decisions, first_side, second_side, closed_by, AreNeeds, AreJoined, IsSearch, IsClosing}

-- It begins with nothing. Where the path is open, an atom that isn't decided may be decided. Where the path is explained, it is
-- one more closed branch.
pub record SearchGoesOn : Type 0 where
  pub begins : (is : List FormulaTree) → IsSearch is [] []
  pub decides : (is : List FormulaTree) (bs : List ClosedTree) (path : List Turn) (l : LiteralTree) → IsSearch is bs path → IsOpen is (decisions path) → IsGroundAtom is l.atom → (DecidesAtom is (decisions path) l.atom → ⊥) → IsSearch is bs (first_side l ∷ path)
  pub closes : (is : List FormulaTree) (bs : List ClosedTree) (path : List Turn) (explanation needs : List LiteralTree) → IsSearch is bs path → IsExplanation is (decisions path) explanation → AreNeeds path explanation needs → IsClosing is (bs ++ (closed_by path explanation ∷ [])) path needs

-- What is closed goes back: over a decision that isn't needed; over a second side, with what the first side needed; at a first
-- side that is needed it is turned round, or the budget is spent. Where nothing is left, there is no ground model.
pub record SearchGoesBack : Type 0 where
  pub drops : (is : List FormulaTree) (bs : List ClosedTree) (t : Turn) (before : List Turn) (needs : List LiteralTree) → IsClosing is bs (t ∷ before) needs → (IsListed needs t.literal → ⊥) → IsClosing is bs before needs
  pub joins : (is : List FormulaTree) (bs : List ClosedTree) (t : Turn) (before : List Turn) (needs joined : List LiteralTree) → IsClosing is bs (t ∷ before) needs → IsListed needs t.literal → t.is_second ≡ true → AreJoined needs t.literal t.needs joined → IsClosing is bs before joined
  pub turns : (is : List FormulaTree) (bs : List ClosedTree) (t : Turn) (before : List Turn) (needs rest : List LiteralTree) → IsClosing is bs (t ∷ before) needs → IsListed needs t.literal → t.is_second ≡ false → AreJoined needs t.literal [] rest → IsSearch is bs (second_side (opposite t.literal) rest ∷ before)
  pub is_spent : (is : List FormulaTree) (bs : List ClosedTree) (t : Turn) (before : List Turn) (needs : List LiteralTree) → IsClosing is bs (t ∷ before) needs → IsListed needs t.literal → t.is_second ≡ false → (leaves : ℕ) → length bs ≡ leaves → IsSpent is leaves bs
  pub no_model : (is : List FormulaTree) (bs : List ClosedTree) (needs : List LiteralTree) → IsClosing is bs [] needs → (m : List LiteralTree) → IsGroundModel is m → ⊥
