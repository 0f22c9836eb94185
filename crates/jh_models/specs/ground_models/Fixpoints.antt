-- Lists to which propagation has nothing to add.
use Rattle.std.specs.Prelude.{◌≡◌, true, false, List, ◌∷◌}
use Rattle.jh_form.specs.Tree.{FormulaTree}
use Rattle.jh_closure.specs.structures.Literals.{LiteralTree, IsListed, AreListed}
use Rattle.jh_models.specs.ground_models.Atoms.{literal, opposite, IsGroundAtom, is_equality}
use Rattle.jh_models.specs.ground_models.Truths.{SomeFalse}
use Rattle.jh_models.specs.ground_models.GroundModel.{IsMet}
use Rattle.jh_models.specs.ground_models.Clashes.{Follows, AllPropagated}

-- Each of the three rules adds what is listed already, no instance is false, and some structure meets the list.
pub record IsFixed (is : List FormulaTree) (had : List LiteralTree) : Type 0 where
  pub none_false : SomeFalse is had → ⊥
  pub forced : (l : LiteralTree) → IsGroundAtom is l.atom → SomeFalse is (opposite l ∷ had) → IsListed had l
  pub equal : (a : FormulaTree) → IsGroundAtom is a → is_equality a ≡ true → Follows had (literal a true) → IsListed had (literal a true)
  pub other : (l : LiteralTree) → IsGroundAtom is l.atom → is_equality l.atom ≡ false → Follows had l → IsListed had l
  pub met : IsMet had

-- What propagation makes of a list: literals with those of the list among them, each added by propagation, to which it has
-- nothing more to add.
pub record IsFixpoint (is : List FormulaTree) (ls had : List LiteralTree) : Type 0 where
  pub begins : AreListed had ls
  pub added : AllPropagated is ls had
  pub fixed : IsFixed is had
