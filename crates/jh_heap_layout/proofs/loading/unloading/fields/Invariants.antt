use Rattle.std.proofs.Common.{◌≡◌, ◌++◌, List, drop, map}
use Rattle.jh_semantics.specs.Program.{Member}
use Rattle.jh_semantics.specs.Heaps as runs
use Rattle.jh_store.specs.heaps.Cells.{cell_in}
use Rattle.jh_store.specs.memory.Held.{state_of}
use Rattle.jh_heap_layout.specs.loading.Places.{ArePlaces}
use Rattle.jh_heap_layout.proofs.loading.unloading.fields.Given as goal

abbrev pub invariant-loop-place : goal.invariant-loop-place
invariant-loop-place l = (xs : List Member) → ArePlaces l.fn.memory.names l.fn.places xs →
    map (map cell_in) l.made.items ++ map (λ x. map (runs.field_cell (state_of l.fn.memory) x) l.fn.objects) (drop l.place xs) ≡ map (λ x. map (runs.field_cell (state_of l.fn.memory) x) l.fn.objects) xs
