-- Why an evaluation may have no answer.
use Rattle.std.specs.Prelude.{◌≡◌, ◌⊎◌, ℕ, suc, ◌<◌, List, slice_index, FitsSigned}
use Rattle.std.specs.Int.{w128}
use Rattle.jh_form.specs.Tree.{IntTree, ValueTree, of_number}
use Rattle.jh_form.specs.Meaning.{Interp, int_value}
use Rattle.jh_boxed.specs.Parts.{IsPart}

-- the objects of a list are of the universe of 0 to `last`
abbrev pub AreInside : ℕ → List ℕ → Type 0
AreInside last objects = (k : ℕ) → slice_index objects k < suc last

-- Some number term in a value, or the value itself, has a value outside `i128` for some objects in place of its bound variables.
pub record IsWide (m : Interp) (v : ValueTree) : Type 0 where
  pub term : IntTree
  pub within : (of_number term ≡ v) ⊎ IsPart (of_number term) v
  pub objects : List ℕ
  pub inside : AreInside m.last objects
  pub outside : FitsSigned w128 (int_value term m objects) → ⊥
