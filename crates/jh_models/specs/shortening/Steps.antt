-- Literals that go on with an explanation, and the most that can be kept of a list without one of its literals.
use Rattle.std.specs.Prelude.{◌⊎◌, List, [], ◌∷◌, ◌++◌}
use Rattle.jh_form.specs.Tree.{FormulaTree}
use Rattle.jh_closure.specs.structures.Literals.{LiteralTree, IsListed, AreListed}
use Rattle.jh_models.specs.ground_models.Atoms.{opposite, IsGroundAtom}
use Rattle.jh_models.specs.ground_models.Clashes.{Clash}
use Rattle.jh_models.specs.ground_models.Explanations.{IsLeft}

-- A literal may stand in an explanation behind others: it is a decision of the branch, or its opposite clashes with them.
abbrev pub MayStand : List FormulaTree → List LiteralTree → List LiteralTree → LiteralTree → Type 0
MayStand is decisions had l = IsListed decisions l ⊎ Clash is (opposite l ∷ had)

-- Behind literals of an explanation, these go on with it. Whether they clash isn't said.
abbrev pub GoFrom : List FormulaTree → List LiteralTree → List LiteralTree → List LiteralTree → Type 0
GoFrom is decisions had [] = Unit {0}
GoFrom is decisions had (l ∷ ls) = IsGroundAtom is l.atom × MayStand is decisions had l × GoFrom is decisions (had ++ (l ∷ [])) ls

abbrev pub AreSteps : List FormulaTree → List LiteralTree → List LiteralTree → Type 0
AreSteps is decisions ls = GoFrom is decisions [] ls

-- Of a list without one literal, these are left, go on with an explanation, and have among them all others of which that is so.
pub record IsMost (is : List FormulaTree) (decisions : List LiteralTree) (out : LiteralTree) (gone kept : List LiteralTree) : Type 0 where
  pub left : IsLeft kept gone
  pub lacks : IsListed kept out → ⊥
  pub goes : AreSteps is decisions kept
  pub most : (ks : List LiteralTree) → IsLeft ks gone → (IsListed ks out → ⊥) → AreSteps is decisions ks → AreListed kept ks
