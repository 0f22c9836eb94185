-- When literals clash, and what propagation adds to them.
use Rattle.std.specs.Prelude.{◌≡◌, ◌⊎◌, ℕ, true, false, List, [], ◌∷◌}
use Rattle.jh_form.specs.Tree.{FormulaTree}
use Rattle.jh_closure.specs.structures.Structures.{Structure}
use Rattle.jh_closure.specs.structures.Literals.{LiteralTree, IsListed, MeetsOne, Meets, NotMet}
use Rattle.jh_models.specs.ground_models.Atoms.{literal, opposite, IsGroundAtom, is_equality}
use Rattle.jh_models.specs.ground_models.Truths.{SomeFalse}

-- Literals clash where no structure meets them, or where they make an instance false by its connectives alone.
abbrev pub Clash : List FormulaTree → List LiteralTree → Type 0
Clash is ls = NotMet ls ⊎ SomeFalse is ls

-- Every structure that meets the literals meets one more.
abbrev pub Follows : List LiteralTree → LiteralTree → Type 0
Follows ls l = (s : Structure ℕ ℕ ℕ ℕ ℕ) → Meets s ls → MeetsOne s l.holds l.atom

-- The literals after propagation: those of the list, and what three rules add, as long as they can. From what there is already,
-- a literal over a ground atom is added where its opposite makes an instance false by its connectives alone; an equality among
-- the ground atoms, where every structure that meets what there is meets it; and a literal over a ground atom that is no
-- equality, where every such structure does. No order is asked for: what a rule adds, another list of literals may add too.
mutual
  pub data Propagated (is : List FormulaTree) (ls : List LiteralTree) : LiteralTree → Type 0 where
    given : (l : LiteralTree) → IsListed ls l → Propagated is ls l
    forced : (had : List LiteralTree) (l : LiteralTree) → AllPropagated is ls had → IsGroundAtom is l.atom → SomeFalse is (opposite l ∷ had) → Propagated is ls l
    equal : (had : List LiteralTree) (a : FormulaTree) → AllPropagated is ls had → IsGroundAtom is a → is_equality a ≡ true → Follows had (literal a true) → Propagated is ls (literal a true)
    other : (had : List LiteralTree) (l : LiteralTree) → AllPropagated is ls had → IsGroundAtom is l.atom → is_equality l.atom ≡ false → Follows had l → Propagated is ls l

  -- each of a list is there after propagation
  pub data AllPropagated (is : List FormulaTree) (ls : List LiteralTree) : List LiteralTree → Type 0 where
    none : AllPropagated is ls []
    more : (l : LiteralTree) (had : List LiteralTree) → Propagated is ls l → AllPropagated is ls had → AllPropagated is ls (l ∷ had)

-- propagation says whether the atom holds
abbrev pub DecidesAtom : List FormulaTree → List LiteralTree → FormulaTree → Type 0
DecidesAtom is ls a = Propagated is ls (literal a true) ⊎ Propagated is ls (literal a false)

-- A list is open where the literals after propagation make no instance false by its connectives alone, and some structure
-- meets them: it isn't so that none does.
pub record IsOpen (is : List FormulaTree) (ls : List LiteralTree) : Type 0 where
  pub none_false : (had : List LiteralTree) → AllPropagated is ls had → SomeFalse is had → ⊥
  pub met : ((s : Structure ℕ ℕ ℕ ℕ ℕ) → ((l : LiteralTree) → Propagated is ls l → MeetsOne s l.holds l.atom) → ⊥) → ⊥
