-- The nodes that a substitution names.
use Rattle.std.specs.Prelude.{◌≡◌, ℕ, true, Some, is_some, slice_get}
use Rattle.jh_arena.specs.table.Entries.{Listing, the_name, the_value}
use Rattle.jh_arena.specs.table.Nodes.{nodes}
use Rattle.jh_substitution.specs.rewriting.Leaf.{free_value}

-- The name and the value stand in the table, and so does the free name at the sort of the value.
pub record IsReady (name leaf value : ℕ) (t : Listing) : Type 0 where
  pub named : is_some (slice_get t.pools.names name) ≡ true
  pub valued : is_some (slice_get (nodes t) value) ≡ true
  pub free : slice_get (nodes t) leaf ≡ Some (free_value (the_name (slice_get t.pools.names name)) (the_value (slice_get (nodes t) value)))
