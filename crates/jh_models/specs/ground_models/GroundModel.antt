-- Ground models: each ground atom of the instances is said to hold or not to hold, so that each instance is true, and some
-- structure meets what is said.
use Rattle.std.specs.Prelude.{◌⊎◌, true, false, List}
use Rattle.jh_form.specs.Tree.{FormulaTree}
use Rattle.jh_closure.specs.structures.Literals.{LiteralTree, IsListed, NotMet}
use Rattle.jh_models.specs.ground_models.Atoms.{literal, IsGroundAtom}
use Rattle.jh_models.specs.ground_models.Truths.{AllTrue}

-- Some structure, whose values are numbers, meets the literals: it isn't so that none does.
abbrev pub IsMet : List LiteralTree → Type 0
IsMet ls = NotMet ls → ⊥

abbrev pub IsDecided : List LiteralTree → FormulaTree → Type 0
IsDecided ls a = IsListed ls (literal a true) ⊎ IsListed ls (literal a false)

-- A list of literals that is a ground model of the instances. Each is over a ground atom; since a structure meets them, none
-- stands there with its opposite.
pub record IsGroundModel (is : List FormulaTree) (ls : List LiteralTree) : Type 0 where
  pub over_atoms : (l : LiteralTree) → IsListed ls l → IsGroundAtom is l.atom
  pub decides : (a : FormulaTree) → IsGroundAtom is a → IsDecided ls a
  pub true_in : AllTrue is ls
  pub met : IsMet ls
