use Rattle.std.proofs.Common.{◌≡◌, ◌++◌, Some, drop, map}
use Rattle.jh_store.specs.declared.heaps.cells.Cell.{Cell}
use Rattle.jh_store.specs.heaps.Cells.{cell_in}
use Rattle.jh_semantics.specs.Heaps.{number_in}
use Rattle.jh_heap_layout.proofs.loading.fields.numbers_of.Given as goal

abbrev pub invariant-loop-cell : goal.invariant-loop-cell
invariant-loop-cell l = l.made.items ++ map (λ (c : Cell). number_in (Some (cell_in c))) (drop l.cell-index l.fn.cells) ≡ map (λ (c : Cell). number_in (Some (cell_in c))) l.fn.cells
