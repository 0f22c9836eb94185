-- What is true of literals and instances by the connectives alone.
use Rattle.std.specs.Prelude.{◌⊎◌, List, ◌∷◌}
use Rattle.jh_form.specs.Tree.{FormulaTree}
use Rattle.jh_closure.specs.structures.Literals.{LiteralTree, AreListed}
use Rattle.jh_models.specs.ground_models.Atoms.{opposite, atoms_of, StandsIn}
use Rattle.jh_models.specs.ground_models.GroundModel.{IsDecided}
use Rattle.jh_models.specs.ground_models.Truths.{IsFalse, IsTrue, SomeFalse}

-- What literals make false or true, more literals make so.
pub record MoreSayMore : Type 0 where
  pub makes_false : (ls ks : List LiteralTree) → AreListed ks ls → (i : FormulaTree) → IsFalse ls i → IsFalse ks i
  pub makes_true : (ls ks : List LiteralTree) → AreListed ks ls → (i : FormulaTree) → IsTrue ls i → IsTrue ks i
  pub some_false : (ls ks : List LiteralTree) → AreListed ks ls → (is : List FormulaTree) → SomeFalse is ls → SomeFalse is ks

-- A literal whose atom doesn't stand in an instance doesn't make it false, also not together with others.
pub record OthersSayNothing : Type 0 where
  pub alone : (ls : List LiteralTree) (k : LiteralTree) (i : FormulaTree) → (StandsIn (atoms_of i) k.atom → ⊥) → IsFalse (k ∷ ls) i → IsFalse ls i
  pub beside : (ls : List LiteralTree) (k l : LiteralTree) (i : FormulaTree) → (StandsIn (atoms_of i) k.atom → ⊥) → IsFalse (opposite l ∷ k ∷ ls) i → IsFalse (opposite l ∷ ls) i

-- Where one more literal makes an instance false, its atom stands there or the instance was false.
abbrev pub ForcedStands : Type 0
ForcedStands = (ls : List LiteralTree) (l : LiteralTree) (i : FormulaTree) → IsFalse (opposite l ∷ ls) i → IsFalse ls i ⊎ StandsIn (atoms_of i) l.atom

-- Where each atom of an instance is decided, the instance is false or true.
abbrev pub DecidedIsSettled : Type 0
DecidedIsSettled = (ls : List LiteralTree) (i : FormulaTree) → ((a : FormulaTree) → StandsIn (atoms_of i) a → IsDecided ls a) → IsFalse ls i ⊎ IsTrue ls i
