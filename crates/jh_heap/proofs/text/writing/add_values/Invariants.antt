use Rattle.std.proofs.Common.{◌≡◌, ◌++◌, drop, map}
use Rattle.std.specs.Prelude.{string_bytes}
use Rattle.jh_store.specs.heaps.Cells.{cell_in}
use Rattle.jh_heap.specs.text.Writing.{values_text}
use Rattle.jh_heap.specs.text.Held.{holder_in}
use Rattle.jh_heap.proofs.text.writing.add_values.Given as goal

abbrev pub invariant-loop-object : goal.invariant-loop-object
invariant-loop-object l = string_bytes l.text ++ values_text (holder_in l.holder) l.object (map cell_in (drop l.object l.cells)) ≡ string_bytes l.initial.text ++ values_text (holder_in l.holder) 0 (map cell_in l.cells)
