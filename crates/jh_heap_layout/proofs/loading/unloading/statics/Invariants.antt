use Rattle.std.proofs.Common.{◌≡◌, ◌++◌, List, drop, map}
use Rattle.jh_semantics.specs.Program.{Member}
use Rattle.jh_semantics.specs.Heaps as runs
use Rattle.jh_store.specs.heaps.Cells.{cell_in}
use Rattle.jh_store.specs.memory.Held.{state_of}
use Rattle.jh_heap_layout.specs.loading.Places.{ArePlaces}
use Rattle.jh_heap_layout.proofs.loading.unloading.statics.Given as goal

abbrev pub invariant-loop-place : goal.invariant-loop-place
invariant-loop-place l = (xs : List Member) → ArePlaces l.fn.memory.names l.fn.places xs → map cell_in l.made.items ++ map (runs.static_cell (state_of l.fn.memory)) (drop l.place xs) ≡ map (runs.static_cell (state_of l.fn.memory)) xs
