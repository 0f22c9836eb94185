use Rattle.std.proofs.Common.{◌≡◌, ◌+◌, ◌-◌, ◌*◌, length}
use Rattle.jh_query.specs.queries.Bare.{query_tree}
use Rattle.jh_bapa.specs.decision.Standing.{NewTried, OldTried}
use Rattle.jh_bapa.proofs.decision.placing.+place.Given as goal

-- one element after the other is placed
abbrev pub decreases-place : goal.decreases-place
decreases-place l = 4 * (l.query.now.elements - length l.spots.now.items) + 3

abbrev pub decreases-place_next : goal.decreases-place_next
decreases-place_next l = 4 * (l.query.now.elements - length l.spots.now.items) + 2

abbrev pub decreases-place_old : goal.decreases-place_old
decreases-place_old l = 4 * (l.query.now.elements - length l.spots.now.items) + 1

abbrev pub decreases-place_new : goal.decreases-place_new
decreases-place_new l = 4 * (l.query.now.elements - length l.spots.now.items) + 1

abbrev pub decreases-place_at : goal.decreases-place_at
decreases-place_at l = 4 * (l.query.now.elements - length l.spots.now.items)

abbrev pub invariant-place_old-loop-element : goal.invariant-place_old-loop-element
invariant-place_old-loop-element l = record {
  atoms : l.atoms.items ≡ l.fn.atoms.items;
  spots : l.spots.items ≡ l.fn.spots.items;
  tried : OldTried (query_tree l.query) l.fn.spots.items l.fn.atoms.items l.element;
}

abbrev pub invariant-place_new-loop-region : goal.invariant-place_new-loop-region
invariant-place_new-loop-region l = record {
  atoms : l.atoms.items ≡ l.fn.atoms.items;
  spots : l.spots.items ≡ l.fn.spots.items;
  tried : NewTried (query_tree l.query) l.fn.spots.items l.fn.atoms.items l.region;
}
