use Rattle.std.proofs.Common.{map, take}
use Rattle.jh_store.specs.heaps.Cells.{cell_in}
use Rattle.jh_store.specs.memory.Cells.{items_of}
use Rattle.jh_heap_layout.proofs.loading.Lists.{AreSets}
use Rattle.jh_heap_layout.proofs.loading.fields.sets_of.Given as goal

abbrev pub invariant-loop-cell : goal.invariant-loop-cell
invariant-loop-cell l = AreSets (map items_of l.made.items) (map cell_in (take l.cell-index l.fn.cells))
