-- Formulas and terms that stand in a table.
use Rattle.std.specs.Prelude.{◌≡◌, ℕ, Bool, true, false, Some, slice_get}
use Rattle.jh_form.specs.Tree.{FormulaTree, TermTree, IntTree, SetTree, of_truth, of_object, of_number, of_set}
use Rattle.jh_form.specs.Tree as tree
use Rattle.jh_arena.specs.table.Entries.{Listing}
use Rattle.jh_arena.specs.table.Nodes.{nodes}
use Rattle.jh_inst.specs.instances.Prenex.{Matrix}

-- the node is this formula
abbrev pub IsFormula : Listing → ℕ → FormulaTree → Type 0
IsFormula t n a = slice_get (nodes t) n ≡ Some (of_truth a)

-- the node is this term
abbrev pub IsTerm : Listing → ℕ → TermTree → Type 0
IsTerm t n a = slice_get (nodes t) n ≡ Some (of_object a)

-- the node is this term for a number
abbrev pub IsNumber : Listing → ℕ → IntTree → Type 0
IsNumber t n a = slice_get (nodes t) n ≡ Some (of_number a)

-- the node is this term for a set
abbrev pub IsSet : Listing → ℕ → SetTree → Type 0
IsSet t n a = slice_get (nodes t) n ≡ Some (of_set a)

-- the node is the body, which stands behind so many quantifiers
pub record IsMatrix (t : Listing) (n b : ℕ) (m : Matrix) : Type 0 where
  pub variables : n ≡ m.variables
  pub body : IsFormula t b m.body

-- two formulas joined by And or by Or
abbrev pub joined : Bool → FormulaTree → FormulaTree → FormulaTree
joined true a b = tree.and a b
joined false a b = tree.or a b
