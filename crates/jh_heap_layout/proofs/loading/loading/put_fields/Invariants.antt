use Rattle.std.proofs.Common.{◌≡◌, ◌-◌, List, drop, map}
use Rattle.jh_semantics.specs.Program.{Member}
use Rattle.jh_store.specs.heaps.Cells.{cell_in}
use Rattle.jh_store.specs.memory.Held.{state_of}
use Rattle.jh_heap_layout.specs.loading.Places.{ArePlaces}
use Rattle.jh_heap_layout.specs.loading.Steps.{field_put}
use Rattle.jh_heap_layout.proofs.loading.Folds.{with_all}
use Rattle.jh_heap_layout.proofs.loading.loading.put_fields.Given as goal

-- the fields from some place on have their values
abbrev pub invariant-loop-turn : goal.invariant-loop-turn
invariant-loop-turn l = record {
  names : l.memory.names ≡ l.fn.memory.names;
  last : l.memory.last ≡ l.fn.memory.last;
  state : (xs : List Member) → ArePlaces l.fn.memory.names l.fn.places xs → state_of l.memory ≡ with_all field_put (drop (l.count - l.turn) xs) (drop (l.count - l.turn) (map (map cell_in) l.fn.rows)) (state_of l.fn.memory);
}
