use Rattle.std.proofs.Common.{◌≡◌, ◌++◌, drop, map}
use Rattle.std.specs.Prelude.{string_bytes}
use Rattle.jh_store.specs.heaps.Cells.{cell_in}
use Rattle.jh_heap.specs.text.Writing.{fields_text}
use Rattle.jh_heap.specs.text.Held.{holders_in}
use Rattle.jh_heap.proofs.text.writing.add_fields.Given as goal

abbrev pub invariant-loop-place : goal.invariant-loop-place
invariant-loop-place l = string_bytes l.text ++ fields_text (holders_in (drop l.place l.holders)) (map (map cell_in) (drop l.place l.fields)) ≡ string_bytes l.initial.text ++ fields_text (holders_in l.holders) (map (map cell_in) l.fields)
