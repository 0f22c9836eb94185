use Rattle.std.proofs.Common.{◌≡◌, map}
use Rattle.jh_store.specs.heaps.Cells.{cell_in}
use Rattle.jh_heap.specs.text.Reading as spec
use Rattle.jh_heap.specs.text.Held.{given_in}
use Rattle.jh_heap.proofs.text.finishing.row_or.Given as goal

abbrev pub invariant-loop-cell : goal.invariant-loop-cell
invariant-loop-cell l = map cell_in l.made.items ≡ map (spec.cell_or_default l.kind) (given_in l.yielded)
