-- What is true of propagation, clashes and explanations.
use Rattle.std.specs.Prelude.{◌⊎◌, ℕ, ◌<◌, ◌^◌, true, false, List, [], length}
use Rattle.jh_form.specs.Tree.{FormulaTree}
use Rattle.jh_closure.specs.structures.Structures.{Structure}
use Rattle.jh_closure.specs.structures.Literals.{LiteralTree, IsListed, AreListed, MeetsOne, Meets}
use Rattle.jh_models.specs.ground_models.Atoms.{literal, StandsIn, IsGroundAtom}
use Rattle.jh_models.specs.ground_models.Branches.{ClosedTree}
use Rattle.jh_models.specs.ground_models.Budget.{IsSpent}
use Rattle.jh_models.specs.ground_models.GroundModel.{IsGroundModel}
use Rattle.jh_models.specs.ground_models.Clashes.{Clash, Propagated, AllPropagated, IsOpen}
use Rattle.jh_models.specs.ground_models.Fixpoints.{IsFixed, IsFixpoint}
use Rattle.jh_models.specs.ground_models.Explanations.{ClosesBranch}
use Rattle.jh_models.specs.ground_models.Making.{MakesAll}

-- A structure that meets the literals of a list and makes the instances true meets what propagation adds.
abbrev pub PropagationIsSound : Type 0
PropagationIsSound =
    (is : List FormulaTree) (ls : List LiteralTree) (l : LiteralTree) → Propagated is ls l →
    (s : Structure ℕ ℕ ℕ ℕ ℕ) → MakesAll s is → Meets s ls → MeetsOne s l.holds l.atom

-- Where literals clash, no structure meets them and makes the instances true.
abbrev pub ClashIsSound : Type 0
ClashIsSound =
    (is : List FormulaTree) (ls : List LiteralTree) → Clash is ls →
    (s : Structure ℕ ℕ ℕ ℕ ℕ) → MakesAll s is → Meets s ls → ⊥

-- A ground model that holds the literals of a list holds what propagation adds.
abbrev pub ModelsHoldPropagated : Type 0
ModelsHoldPropagated =
    (is : List FormulaTree) (ls : List LiteralTree) (l : LiteralTree) → Propagated is ls l →
    (m : List LiteralTree) → IsGroundModel is m → AreListed m ls → IsListed m l

-- No ground model holds the decisions of a branch that an explanation closes.
abbrev pub ExplainedIsClosed : Type 0
ExplainedIsClosed =
    (is : List FormulaTree) (decisions explanation : List LiteralTree) → ClosesBranch is decisions explanation →
    (m : List LiteralTree) → IsGroundModel is m → AreListed m decisions → ⊥

-- A budget that is spent is below 2 to the power of the number of ground atoms, whichever list has them all: of a search that
-- decides each atom at most once and each side of a decision once, not all leaves are there.
abbrev pub SpentIsBelow : Type 0
SpentIsBelow =
    (is atoms : List FormulaTree) → ((a : FormulaTree) → IsGroundAtom is a → StandsIn atoms a) →
    (leaves : ℕ) (bs : List ClosedTree) → IsSpent is leaves bs → leaves < 2 ^ length atoms

-- A budget is spent only where propagation alone doesn't close the instances: the empty list is open.
abbrev pub SpentIsOpen : Type 0
SpentIsOpen = (is : List FormulaTree) (leaves : ℕ) (bs : List ClosedTree) → IsSpent is leaves bs → IsOpen is []

-- Propagation of more literals adds more, and what it added adds nothing more.
pub record PropagationGrows : Type 0 where
  pub more : (is : List FormulaTree) (ls ks : List LiteralTree) → AreListed ks ls → (l : LiteralTree) → Propagated is ls l → Propagated is ks l
  pub twice : (is : List FormulaTree) (ls had : List LiteralTree) → AllPropagated is ls had → (l : LiteralTree) → Propagated is had l → Propagated is ls l

-- Propagation of a list adds what its fixpoint has and nothing else, and the list is open.
pub record FixpointIsOpen : Type 0 where
  pub only : (is : List FormulaTree) (ls had : List LiteralTree) → IsFixpoint is ls had → (l : LiteralTree) → Propagated is ls l → IsListed had l
  pub is_open : (is : List FormulaTree) (ls had : List LiteralTree) → IsFixpoint is ls had → IsOpen is ls

-- A fixpoint that decides each ground atom is a ground model.
abbrev pub WholeFixpointIsModel : Type 0
WholeFixpointIsModel =
    (is : List FormulaTree) (had : List LiteralTree) → IsFixed is had →
    ((l : LiteralTree) → IsListed had l → IsGroundAtom is l.atom) →
    ((a : FormulaTree) → IsGroundAtom is a → IsListed had (literal a true) ⊎ IsListed had (literal a false)) →
    IsGroundModel is had
