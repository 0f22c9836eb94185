use Rattle.std.proofs.Common.{◌≡◌, ◌++◌, drop, map}
use Rattle.std.specs.Prelude.{string_bytes}
use Rattle.jh_store.specs.heaps.Cells.{cell_in}
use Rattle.jh_heap.specs.text.Writing.{statics_text}
use Rattle.jh_heap.specs.text.Held.{holders_in}
use Rattle.jh_heap.proofs.text.writing.add_statics.Given as goal

abbrev pub invariant-loop-place : goal.invariant-loop-place
invariant-loop-place l = string_bytes l.text ++ statics_text (holders_in (drop l.place l.holders)) (map cell_in (drop l.place l.cells)) ≡ string_bytes l.initial.text ++ statics_text (holders_in l.holders) (map cell_in l.cells)
