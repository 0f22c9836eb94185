-- An explanation while it is shortened.
use Rattle.std.specs.Prelude.{List}
use Rattle.jh_form.specs.Tree.{FormulaTree}
use Rattle.jh_closure.specs.structures.Literals.{LiteralTree, IsListed}
use Rattle.jh_models.specs.ground_models.Explanations.{ClosesBranch, IsLeft}

-- Where the literal is taken out of the list, with or without further ones, what is left doesn't close the branch.
abbrev pub IsNeededIn : List FormulaTree → List LiteralTree → List LiteralTree → LiteralTree → Type 0
IsNeededIn is decisions ls l = (ks : List LiteralTree) → IsLeft ks ls → (IsListed ks l → ⊥) → ClosesBranch is decisions ks → ⊥

-- It closes the branch, and each of those that were tried is needed where it is still there.
pub record IsShortened (is : List FormulaTree) (decisions tried ls : List LiteralTree) : Type 0 where
  pub closes : ClosesBranch is decisions ls
  pub needs : (l : LiteralTree) → IsListed tried l → IsListed ls l → IsNeededIn is decisions ls l
