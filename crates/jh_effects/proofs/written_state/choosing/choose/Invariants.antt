use Rattle.std.proofs.Common.{◌≡◌, ◌<◌, ℕ, length}
use Rattle.jh_containers.specs.transitive_closure.Spreads.{passed_to}
use Rattle.jh_effects.specs.written_state.Chosen.{places_below}
use Rattle.jh_effects.proofs.written_state.Chosen.{test_at}
use Rattle.jh_effects.proofs.written_state.choosing.choose.Given as goal

abbrev pub invariant-loop-place : goal.invariant-loop-place
invariant-loop-place l = record {
  chosen : (thing : ℕ) → thing < l.things → passed_to l.rows thing ≡ places_below (test_at l.by_fact.items l.list thing) l.place;
  count : length l.rows ≡ l.things;
}
