-- What defined variables stand for, by the nodes of a table.
use Rattle.std.specs.Prelude.{◌≡◌, ◌<◌, ℕ, List, Option, Some, None, length, slice_get}
use Rattle.jh_form.specs.Tree.{ValueTree, of_object, null}
use Rattle.jh_arena.specs.table.Entries.{the_value}
use Rattle.jh_symbols.specs.declared.member_numbers.numbers.Numbers.{Numbers}
use Rattle.jh_symbols.specs.member_numbers.Numbering.{number_in}

-- the tree at a node that is known, and else null
unfoldable pub tree_at : List ValueTree → Option ℕ → ValueTree
tree_at ts None = of_object null
tree_at ts (Some n) = the_value (slice_get ts n)

-- what each defined variable stands for
abbrev pub meaning_in : List ValueTree → Numbers → ℕ → List ℕ → ValueTree
meaning_in ts m = λ c x. tree_at ts (number_in m c x)

-- each of these nodes stands in the table
pub record AreHeld (ts : List ValueTree) (m : Numbers) : Type 0 where
  pub inside : (c : ℕ) (x : List ℕ) (n : ℕ) → number_in m c x ≡ Some n → n < length ts
