use Rattle.std.proofs.Common.{◌≡◌, map, length}
use Rattle.jh_store.specs.heaps.Cells.{cell_in}
use Rattle.jh_heap.specs.text.Reading as spec
use Rattle.jh_heap.specs.text.Held.{holders_in, given_in}
use Rattle.jh_heap.proofs.text.finishing.rows_or.Given as goal

abbrev pub invariant-loop-row : goal.invariant-loop-row
invariant-loop-row l = record {
  place : l.place ≡ length l.yielded;
  made : map (map cell_in) l.made.items ≡ spec.rows_or (holders_in l.holders) (map (λ row. given_in row.items) l.yielded);
}
