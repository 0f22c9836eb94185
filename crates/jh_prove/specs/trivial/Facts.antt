-- Formulas by their nodes.
use Rattle.std.specs.Prelude.{◌≡◌, ℕ, true, List, Some, slice_get}
use Rattle.jh_form.specs.Tree.{FormulaTree}
use Rattle.jh_arena.specs.table.Entries.{Listing, is_truth, the_truth}
use Rattle.jh_arena.specs.table.Nodes.{nodes}

-- the formula at a node
abbrev pub truth_at : Listing → ℕ → FormulaTree
truth_at l n = the_truth (slice_get (nodes l) n)

-- each of these nodes is a formula
abbrev pub AreTruths : Listing → List ℕ → Type 0
AreTruths l ns = (i n : ℕ) → slice_get ns i ≡ Some n → is_truth (slice_get (nodes l) n) ≡ true
