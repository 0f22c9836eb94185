-- Formulas that are nodes of a table, in lists.
use Rattle.std.specs.Prelude.{◌≡◌, ℕ, List, [], ◌∷◌, ◌++◌, Some, slice_get}
use Rattle.jh_form.specs.Tree.{FormulaTree, of_truth}
use Rattle.jh_arena.specs.table.Entries.{Listing}
use Rattle.jh_arena.specs.table.Nodes.{nodes}

-- one by one these nodes are those formulas
unfoldable pub AreFacts : Listing → List ℕ → List FormulaTree → Type 0
AreFacts t [] [] = Unit {0}
AreFacts t [] (f ∷ fs) = ⊥
AreFacts t (n ∷ ns) [] = ⊥
AreFacts t (n ∷ ns) (f ∷ fs) = (slice_get (nodes t) n ≡ Some (of_truth f)) × AreFacts t ns fs

-- Behind what a list held, nodes are added that are these formulas.
pub record AddsFacts (t : Listing) (old new : List ℕ) (more : List FormulaTree) : Type 0 where
  pub added : List ℕ
  pub list : new ≡ old ++ added
  pub are : AreFacts t added more
