use Rattle.std.proofs.Common.{◌≡◌, ◌<◌, ℕ, nat_eq, if◌then◌else◌, length, take}
use Rattle.std.specs.List.{list_any}
use Rattle.jh_containers.specs.transitive_closure.Spreads.{passed_to}
use Rattle.jh_effects.specs.written_state.Chosen.{put_last}
use Rattle.jh_effects.proofs.written_state.choosing.put_all.Given as goal

abbrev pub invariant-loop-thing : goal.invariant-loop-thing
invariant-loop-thing l = record {
  put : (other : ℕ) → other < length l.initial.rows → passed_to l.rows other ≡ (if list_any (nat_eq other) (take l.thing-index l.things) then put_last l.place (passed_to l.initial.rows other) else passed_to l.initial.rows other);
  count : length l.rows ≡ length l.initial.rows;
}
