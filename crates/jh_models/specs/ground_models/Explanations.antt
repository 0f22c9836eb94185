-- Explanations: why a branch is closed.
use Rattle.std.specs.Prelude.{◌⊎◌, List, [], ◌∷◌, ◌++◌}
use Rattle.jh_form.specs.Tree.{FormulaTree}
use Rattle.jh_closure.specs.structures.Literals.{LiteralTree, IsListed}
use Rattle.jh_models.specs.ground_models.Atoms.{opposite, IsGroundAtom}
use Rattle.jh_models.specs.ground_models.Clashes.{Clash}

-- Behind literals of an explanation, these go on with it: each is over a ground atom, and is a decision of the branch, or its
-- opposite clashes with the literals before it. The literals of the whole clash.
abbrev pub GoesOn : List FormulaTree → List LiteralTree → List LiteralTree → List LiteralTree → Type 0
GoesOn is decisions had [] = Clash is had
GoesOn is decisions had (l ∷ ls) = IsGroundAtom is l.atom × (IsListed decisions l ⊎ Clash is (opposite l ∷ had)) × GoesOn is decisions (had ++ (l ∷ [])) ls

abbrev pub ClosesBranch : List FormulaTree → List LiteralTree → List LiteralTree → Type 0
ClosesBranch is decisions ls = GoesOn is decisions [] ls

-- what is left of a list where some of it is taken out, in its order
pub data IsLeft : List LiteralTree → List LiteralTree → Type 0 where
  none : IsLeft [] []
  kept : (l : LiteralTree) (ks ls : List LiteralTree) → IsLeft ks ls → IsLeft (l ∷ ks) (l ∷ ls)
  out : (l : LiteralTree) (ks ls : List LiteralTree) → IsLeft ks ls → IsLeft ks (l ∷ ls)

-- An explanation closes its branch; and where one of its decisions is taken out, with or without further literals of it, what
-- is left doesn't.
pub record IsExplanation (is : List FormulaTree) (decisions ls : List LiteralTree) : Type 0 where
  pub closes : ClosesBranch is decisions ls
  pub needs : (l : LiteralTree) → IsListed decisions l → IsListed ls l → (ks : List LiteralTree) → IsLeft ks ls → (IsListed ks l → ⊥) → ClosesBranch is decisions ks → ⊥
