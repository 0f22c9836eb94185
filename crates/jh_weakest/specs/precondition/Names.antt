-- Free names by their numbers in a table.
use Rattle.std.specs.Prelude.{◌≡◌, ℕ, ◌==◌, Bool, true, false, is_some, slice_get}
use Rattle.std.proofs.Common.{ap, ◌∙◌}
use Rattle.jh_arena.specs.table.Entries.{Listing, the_name}
use Rattle.jh_arena.specs.declared.table.shapes.Shape.{Shape}
use Rattle.jh_arena.specs.declared.table.shapes.Shape.TheVariants as s
use Rattle.jh_substitution.specs.rewriting.Rewritten.{leaves_alone}
use Rattle.jh_substitution.specs.rewriting.Staying.{grown}
use Rattle.jh_substitution.specs.rewriting.Walks.{Stays}
use Rattle.jh_wp.specs.Renamed.{renaming}

-- both names stand in the table
pub record AreNamed (name with : ℕ) (t : Listing) : Type 0 where
  pub named : is_some (slice_get t.pools.names name) ≡ true
  pub known : is_some (slice_get t.pools.names with) ≡ true

-- the shape is the free name of this number
unfoldable pub is_named : Shape → ℕ → Bool
is_named (s.FreeObject n) k = n == k
is_named (s.FreeNumber n) k = n == k
is_named (s.FreeTruth n) k = n == k
is_named (s.FreeSet n) k = n == k
is_named (s.FreeField n) k = n == k
is_named _ k = false

-- another free name at the sort of a free name
unfoldable pub with_name : Shape → ℕ → Shape
with_name (s.FreeObject n) k = s.FreeObject k
with_name (s.FreeNumber n) k = s.FreeNumber k
with_name (s.FreeTruth n) k = s.FreeTruth k
with_name (s.FreeSet n) k = s.FreeSet k
with_name (s.FreeField n) k = s.FreeField k
with_name x k = x

-- the names stay while the table grows
pub renaming-stays : (name with : ℕ) →
    Stays (AreNamed name with) (λ t. leaves_alone (renaming (the_name (slice_get t.pools.names name)) (the_name (slice_get t.pools.names with))))
renaming-stays name with = record {
  ready = λ old new g h. record {
    named = ap is_some (grown old.pools.names new.pools.names name g.names h.named) ∙ h.named;
    known = ap is_some (grown old.pools.names new.pools.names with g.names h.known) ∙ h.known;
  };
  same = λ old new g h. λ i. leaves_alone (renaming (the_name (grown old.pools.names new.pools.names name g.names h.named i)) (the_name (grown old.pools.names new.pools.names with g.names h.known i)));
}
