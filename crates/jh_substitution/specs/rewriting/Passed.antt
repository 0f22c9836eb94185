-- Nodes whose free names pass a test.
use Rattle.std.specs.Prelude.{◌≡◌, ℕ, Bool, true, not, List, Some, slice_get}
use Rattle.jh_name.specs.declared.naming.Name.{Name}
use Rattle.jh_name.specs.declared.place.Sort.{Sort}
use Rattle.jh_form.specs.Tree.{ValueTree}
use Rattle.jh_form.specs.Passing.{value_passes, name_equal}
use Rattle.jh_arena.specs.table.Entries.{the_value}

-- the free names of each node of the set pass the test
pub record Passed (test : Name → Sort → Bool) (ts : List ValueTree) (has : ℕ → Bool) : Type 0 where
  pub passes : (n : ℕ) → has n ≡ true → value_passes (the_value (slice_get ts n)) test ≡ true

-- The test passes each name but the one of this number.
pub record PassesBut (test : Name → Sort → Bool) (names : List Name) (number : ℕ) : Type 0 where
  pub name : Name
  pub at : slice_get names number ≡ Some name
  pub others : (y : Name) (s : Sort) → not (name_equal y name) ≡ true → test y s ≡ true
