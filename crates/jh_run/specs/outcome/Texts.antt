-- What is printed of a run that returns: the line of its result, where it has one, and the text of the heap at its end.
use Rattle.std.specs.Prelude.{ℕ, List, [], ◌∷◌, ◌++◌, codes, Option, Some, None}
use Rattle.jh_semantics.specs.Heaps.{Cell, Heap}
use Rattle.jh_heap_layout.specs.jh_heap.text.Outlines.{Outline}
use Rattle.jh_heap_layout.specs.jh_heap.text.Writing.{cell_text, heap_text}

abbrev pub result_line : Cell → List ℕ
result_line cell = codes "result " ++ (cell_text cell ++ (10 ∷ []))

abbrev pub result_text : Option Cell → List ℕ
result_text None = []
result_text (Some cell) = result_line cell

abbrev pub answered_text : Outline → Heap → Option Cell → List ℕ
answered_text o h value = result_text value ++ heap_text o h
