-- What a list of nodes comes to when parts are added to it.
use Rattle.std.specs.Prelude.{◌≡◌, ℕ, Bool, true, ◌&&◌, List, [], ◌∷◌, ◌++◌, map, Some, nat_eq, slice_get}
use Rattle.std.specs.List.{list_any, filter}
use Rattle.indexmap.specs.IndexSet.{insert_all}
use Rattle.jh_form.specs.Tree.{ValueTree}
use Rattle.jh_arena.specs.table.Entries.{the_value}
use Rattle.jh_normal_forms.specs.declared.parts.order.Order.{Order}
use Rattle.jh_normal_forms.specs.parts.Standing.{value_parts}

-- The new list is the old one with each node of these trees added in turn, where it wasn't in the list. No two nodes
-- of a table are one tree, so each tree stands in the list once, where it first comes.
pub record IsCollected (ts : List ValueTree) (old : List ℕ) (trees : List ValueTree) (new : List ℕ) : Type 0 where
  pub numbers : List ℕ
  pub are : map (slice_get ts) numbers ≡ map Some trees
  pub added : new ≡ insert_all nat_eq old numbers

-- the parts of the trees at these nodes
abbrev pub all_parts : Order → List ValueTree → List ℕ → List ValueTree
all_parts o ts [] = []
all_parts o ts (n ∷ ns) = value_parts (the_value (slice_get ts n)) o ++ all_parts o ts ns

-- whether each number is in the list
abbrev pub has_all : List ℕ → List ℕ → Bool
has_all list [] = true
has_all list (n ∷ ns) = list_any (nat_eq n) list && has_all list ns

-- The list has a node of each of these trees.
pub record HasTrees (ts : List ValueTree) (list : List ℕ) (trees : List ValueTree) : Type 0 where
  pub numbers : List ℕ
  pub are : map (slice_get ts) numbers ≡ map Some trees
  pub within : has_all list numbers ≡ true

-- The list has the parts of each node that was seen, for which the test asks.
pub record IsCovered (test : ValueTree → Bool) (o : Order) (ts : List ValueTree) (seen list : List ℕ) : Type 0 where
  pub parts : (n : ℕ) → list_any (nat_eq n) seen ≡ true → HasTrees ts list (filter test (value_parts (the_value (slice_get ts n)) o))
