use Rattle.std.proofs.Common.{◌≡◌, ◌++◌, drop, map}
use Rattle.jh_semantics.specs.Program.{Member}
use Rattle.jh_semantics.specs.Heaps as runs
use Rattle.jh_store.specs.heaps.Cells.{cell_in}
use Rattle.jh_store.specs.memory.Held.{state_of}
use Rattle.jh_heap_layout.specs.loading.Places.{IsPlace}
use Rattle.jh_heap_layout.proofs.loading.unloading.field_cells.Given as goal

abbrev pub invariant-loop-at : goal.invariant-loop-at
invariant-loop-at l = (x : Member) → IsPlace l.fn.memory.names l.fn.place x → map cell_in l.made.items ++ map (runs.field_cell (state_of l.fn.memory) x) (drop l.at-index l.fn.objects) ≡ map (runs.field_cell (state_of l.fn.memory) x) l.fn.objects
