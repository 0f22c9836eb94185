-- How a table grows.
use Rattle.std.specs.Prelude.{◌≡◌, ◌⊎◌, ℕ, List, Some, slice_get}
use Rattle.jh_form.specs.Tree.{ValueTree}
use Rattle.jh_arena.specs.table.Entries.{Listing}
use Rattle.jh_arena.specs.table.Nodes.{nodes}

-- The old list is a prefix of the new one: what stands at a place of it stays there.
pub record Grows {X : Type 0} (old new : List X) : Type 0 where
  pub keeps : (n : ℕ) (v : X) → slice_get old n ≡ Some v → slice_get new n ≡ Some v

-- Each list of the old table is a prefix of the new table's.
pub record Extends (old new : Listing) : Type 0 where
  pub nodes : Grows (nodes old) (nodes new)
  pub names : Grows old.pools.names new.pools.names
  pub marks : Grows old.pools.marks new.pools.marks
  pub lists : Grows old.pools.lists new.pools.lists

-- No two places of the list hold the same.
abbrev pub AreDifferent : {X : Type 0} → List X → Type 0
AreDifferent {X} xs = (i j : ℕ) (x : X) → slice_get xs i ≡ Some x → slice_get xs j ≡ Some x → i ≡ j

-- Each node of the new table was a node of the old one, at the same place, or is of this kind.
abbrev pub AddsOnly : (ValueTree → Type 0) → Listing → Listing → Type 0
AddsOnly kind old new = (n : ℕ) (v : ValueTree) → slice_get (nodes new) n ≡ Some v → (slice_get (nodes old) n ≡ Some v) ⊎ kind v
