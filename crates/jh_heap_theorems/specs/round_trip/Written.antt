-- What is written of a heap is read as that heap, and what is read is a heap.
use Rattle.std.specs.Prelude.{◌≡◌, ◌<◌, ℕ, List, [], None}
use Rattle.jh_semantics.specs.Program.{Program, Method}
use Rattle.jh_semantics.specs.Typed.{NamesFit}
use Rattle.jh_semantics.specs.Heaps.{Heap, IsHeap, Args, AreArgs}
use Rattle.jh_heap.specs.text.Outlines.{outline_of}
use Rattle.jh_heap.specs.text.Reading.{reading, read}
use Rattle.jh_heap.specs.text.Writing.{heap_text}
use Rattle.jh_heap_theorems.specs.round_trip.Names.{TextsFit, NumbersFit, SignatureFits, no_args}

-- For a program whose names are told apart and are words, a method without `this` and parameters, and a heap of the program with a greatest
-- object of at most 255 and numbers of 64 bits.
abbrev pub WrittenIsRead : Type 0
WrittenIsRead =
    (p : Program) (m : Method) (h : Heap) → NamesFit p → TextsFit p → m.this ≡ None → m.params ≡ [] → IsHeap p h → h.greatest < 256 → NumbersFit h →
    reading (outline_of p m) (heap_text (outline_of p m) h) ≡ read h no_args

-- What a text spells is a heap of the program, and arguments of the method.
abbrev pub ReadIsHeap : Type 0
ReadIsHeap =
    (p : Program) (m : Method) (bytes : List ℕ) (h : Heap) (args : Args) → NamesFit p → TextsFit p → SignatureFits p m → reading (outline_of p m) bytes ≡ read h args → IsHeap p h × AreArgs p m h args
