-- What a heap text spells is of the objects from 0 to the greatest.
use Rattle.std.specs.Prelude.{◌≡◌, ℕ, List}
use Rattle.jh_semantics.specs.Heaps.{Heap, Args}
use Rattle.jh_store.specs.heaps.Inside.{HeapIsInside, ArgsAreInside}
use Rattle.jh_heap.specs.text.Outlines.{Outline}
use Rattle.jh_heap.specs.text.Reading.{reading, read}

abbrev pub ReadIsInside : Type 0
ReadIsInside = (o : Outline) (bytes : List ℕ) (h : Heap) (args : Args) → reading o bytes ≡ read h args → HeapIsInside h × ArgsAreInside h.greatest args
