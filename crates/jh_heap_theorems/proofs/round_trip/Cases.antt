-- Heaps that are written and read back, and one that isn't.
use Rattle.std.proofs.Common.{◌≡◌, refl, pos, negsuc, true, false, [], ◌∷◌, Some, None, codes}
use lib.Utf8.{encode}
use Rattle.std.specs.Fmt.{digits}
use Rattle.std.specs.Str.{is_utf8, chars}
use Rattle.jh_name.specs.declared.place.Kind.{Kind}
use Rattle.jh_name.specs.declared.place.Kind.TheVariants as k
use Rattle.jh_rules.specs.declared.types.Ty.TheVariants as ty
use Rattle.jh_semantics.specs.Code.{Text}
use Rattle.jh_semantics.specs.Heaps.{Heap, object, number, truth_value, set}
use Rattle.jh_heap.specs.lines.Bytes.{natural_of, negative_of, integer_of, objects_of}
use Rattle.jh_heap.specs.lines.Lines.{is_dotted, set_of, scalar_of, value_of, universe_of, class_from, static_from, value_at, field_from, line_from, line_of}
use Rattle.jh_heap.specs.text.Outlines.{Holder, Outline}
use Rattle.jh_heap.specs.text.Reading.{reading, read, bad_line}
use Rattle.jh_heap.specs.text.Writing.{heap_text}
use Rattle.jh_heap_theorems.specs.round_trip.Names.{no_args}
use Rattle.jh_heap_theorems.proofs.round_trip.Turns.{outline}

abbrev holder : Text → Kind → Holder
holder text kind = record { text = text; kind = kind; type = None; class = codes "A" }

-- `class A { static A f; int n; A next; boolean b; ghost specvar s :: objset; }`
abbrev the_outline : Outline
the_outline = outline (codes "A" ∷ codes "Object" ∷ []) (record { text = codes "A.f"; kind = k.Obj; type = Some (ty.Class 0); class = codes "A" } ∷ [])
    (holder (codes "A.n") k.Int ∷ holder (codes "A.next") k.Obj ∷ holder (codes "A.b") k.Bool ∷ holder (codes "A.s") k.Set ∷ [])

abbrev the_heap : Heap
the_heap = record {
  greatest = 2;
  classes = (2 ∷ []) ∷ (1 ∷ []) ∷ [];
  statics = object 2 ∷ [];
  fields = (number (pos 0) ∷ number (pos 0) ∷ number (negsuc 6) ∷ []) ∷ (object 0 ∷ object 0 ∷ object 2 ∷ []) ∷ (truth_value false ∷ truth_value false ∷ truth_value true ∷ []) ∷ (set [] ∷ set [] ∷ set (1 ∷ 2 ∷ []) ∷ []) ∷ [];
}

read-back : reading the_outline (heap_text the_outline the_heap) ≡ read the_heap no_args
unfolding digits is_utf8 chars natural_of negative_of integer_of objects_of is_dotted set_of scalar_of value_of universe_of class_from static_from value_at field_from line_from line_of encode
read-back = refl

-- a class whose text has a blank in it
abbrev blank_outline : Outline
blank_outline = outline (codes "A B" ∷ codes "Object" ∷ []) [] []

blank-is-bad : reading blank_outline (heap_text blank_outline (record { greatest = 1; classes = (1 ∷ []) ∷ [] ∷ []; statics = []; fields = [] })) ≡ bad_line 2
unfolding digits is_utf8 chars natural_of negative_of integer_of objects_of is_dotted set_of scalar_of value_of universe_of class_from static_from value_at field_from line_from line_of encode
blank-is-bad = refl
