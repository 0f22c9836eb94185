-- What is true of explanations that are gone through and shortened.
use Rattle.std.specs.Prelude.{◌≡◌, ◌⊎◌, List, [], ◌∷◌, ◌++◌}
use Rattle.jh_form.specs.Tree.{FormulaTree}
use Rattle.jh_closure.specs.structures.Literals.{LiteralTree, IsListed}
use Rattle.jh_models.specs.ground_models.Atoms.{IsGroundAtom}
use Rattle.jh_models.specs.ground_models.Clashes.{Clash}
use Rattle.jh_models.specs.ground_models.Explanations.{ClosesBranch, IsLeft, IsExplanation}
use Rattle.jh_models.specs.shortening.Steps.{MayStand, AreSteps, IsMost}
use Rattle.jh_models.specs.shortening.Shortened.{IsNeededIn, IsShortened}

-- How the most is kept: nothing of nothing; one more literal is kept where it may stand behind what is kept, and is out where it
-- is the one that is taken out or may not stand there. Steps that clash close the branch. Where the most doesn't clash, nothing
-- closes it.
pub record MostIsKept : Type 0 where
  pub steps_more : (is : List FormulaTree) (decisions ls : List LiteralTree) (l : LiteralTree) → AreSteps is decisions ls → IsGroundAtom is l.atom → MayStand is decisions ls l → AreSteps is decisions (ls ++ (l ∷ []))
  pub closes : (is : List FormulaTree) (decisions ls : List LiteralTree) → AreSteps is decisions ls → Clash is ls → ClosesBranch is decisions ls
  pub atoms : (is : List FormulaTree) (decisions ls : List LiteralTree) (l : LiteralTree) → ClosesBranch is decisions ls → IsListed ls l → IsGroundAtom is l.atom
  pub begins : (is : List FormulaTree) (decisions : List LiteralTree) (out : LiteralTree) → IsMost is decisions out [] []
  pub keeps : (is : List FormulaTree) (decisions gone kept : List LiteralTree) (out l : LiteralTree) → IsMost is decisions out gone kept → IsGroundAtom is l.atom → (l ≡ out → ⊥) → MayStand is decisions kept l → IsMost is decisions out (gone ++ (l ∷ [])) (kept ++ (l ∷ []))
  pub skips : (is : List FormulaTree) (decisions gone kept : List LiteralTree) (out l : LiteralTree) → IsMost is decisions out gone kept → ((l ≡ out) ⊎ (MayStand is decisions kept l → ⊥)) → IsMost is decisions out (gone ++ (l ∷ [])) kept
  pub is_needed : (is : List FormulaTree) (decisions ls kept : List LiteralTree) (out : LiteralTree) → IsMost is decisions out ls kept → (Clash is kept → ⊥) → IsNeededIn is decisions ls out

-- How an explanation is shortened: one that closes its branch, of which nothing was tried; a decision that isn't there, or is
-- needed, was tried; and where the steps kept of its beginning without a decision clash, they are the explanation. In the end
-- all decisions were tried.
pub record ShorteningIsExact : Type 0 where
  pub begins : (is : List FormulaTree) (decisions ls : List LiteralTree) → ClosesBranch is decisions ls → IsShortened is decisions [] ls
  pub absent : (is : List FormulaTree) (decisions tried ls : List LiteralTree) (l : LiteralTree) → IsShortened is decisions tried ls → (IsListed ls l → ⊥) → IsShortened is decisions (l ∷ tried) ls
  pub needed : (is : List FormulaTree) (decisions tried ls : List LiteralTree) (l : LiteralTree) → IsShortened is decisions tried ls → IsNeededIn is decisions ls l → IsShortened is decisions (l ∷ tried) ls
  pub shorter : (is : List FormulaTree) (decisions tried gone rest kept : List LiteralTree) (l : LiteralTree) → IsShortened is decisions tried (gone ++ rest) → IsMost is decisions l gone kept → Clash is kept → IsShortened is decisions (l ∷ tried) kept
  pub ends : (is : List FormulaTree) (decisions tried ls : List LiteralTree) → IsShortened is decisions tried ls → ((l : LiteralTree) → IsListed decisions l → IsListed tried l) → IsExplanation is decisions ls
