use Rattle.std.proofs.Common.{◌≡◌, map, length}
use Rattle.jh_store.specs.heaps.Cells.{cell_in}
use Rattle.jh_heap.specs.text.Reading as spec
use Rattle.jh_heap.specs.text.Held.{holders_in, given_in}
use Rattle.jh_heap.proofs.text.finishing.cells_or.Given as goal

abbrev pub invariant-loop-cell : goal.invariant-loop-cell
invariant-loop-cell l = record {
  place : l.place ≡ length l.yielded;
  made : map cell_in l.made.items ≡ spec.cells_or (holders_in l.holders) (given_in l.yielded);
}
