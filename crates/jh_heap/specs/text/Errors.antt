-- What an error says of a text.
use Rattle.std.specs.Prelude.{◌≡◌}
use Rattle.jh_heap.specs.text.Reading.{Reading, bad_line, not_well_formed, Step, ends}
use Rattle.jh_heap.specs.declared.text.reading.HeapError.{HeapError}
use Rattle.jh_heap.specs.declared.text.reading.HeapError.TheVariants as e

-- want of memory says nothing
abbrev pub IsError : HeapError → Reading → Type 0
IsError (e.BadLine n) r = r ≡ bad_line n
IsError (e.NotWellFormed n rule) r = r ≡ not_well_formed n rule
IsError e.Memory r = Unit {0}

abbrev pub IsEnd : HeapError → Step → Type 0
IsEnd (e.BadLine n) s = s ≡ ends (bad_line n)
IsEnd (e.NotWellFormed n rule) s = s ≡ ends (not_well_formed n rule)
IsEnd e.Memory s = Unit {0}
