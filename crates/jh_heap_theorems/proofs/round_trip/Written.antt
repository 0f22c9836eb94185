-- What is written of a heap is read as that heap, and what is read is a heap.
use Rattle.std.proofs.Common.{◌≡◌, sym, subst, [], map, None}
use Rattle.jh_semantics.specs.Program.{Program, Method}
use Rattle.jh_semantics.specs.WellFormed.{all_classes}
use Rattle.jh_semantics.specs.Heaps.{Heap, Args, IsHeap, AreArgs, statics_of, fields_of}
use Rattle.jh_heap.specs.text.Outlines.{Outline, member_holder, parameter_holder, outline_of}
use Rattle.jh_heap.specs.text.Reading.{reading, read, heap_of}
use Rattle.jh_heap.specs.text.Writing.{heap_text}
use Rattle.jh_heap_theorems.specs.round_trip.Names.{no_args}
use Rattle.jh_heap_theorems.specs.round_trip.Written.{WrittenIsRead, ReadIsHeap}
use Rattle.jh_heap_theorems.proofs.round_trip.Turns.{outline}
use Rattle.jh_heap_theorems.proofs.round_trip.Whole.{whole-read}
use Rattle.jh_heap_theorems.proofs.round_trip.Formings.{heap-fits}
use Rattle.jh_heap_theorems.proofs.round_trip.Arrivals.{read-made}
use Rattle.jh_heap_theorems.proofs.round_trip.Founded.{is-heap, are-args}

outline-is : (p : Program) (m : Method) → m.this ≡ None → m.params ≡ [] → outline (all_classes p.classes) (map member_holder (statics_of p)) (map member_holder (fields_of p)) ≡ outline_of p m
outline-is p m this params = λ i. record {
  classes = all_classes p.classes;
  statics = map member_holder (statics_of p);
  fields = map member_holder (fields_of p);
  this = sym this i;
  params = map parameter_holder (sym params i);
}

pub written_read : WrittenIsRead
written_read p m h names words this params heap small numbers =
    subst (λ (o : Outline). reading o (heap_text o h) ≡ read h no_args) (outline-is p m this params)
    (whole-read (all_classes p.classes) (map member_holder (statics_of p)) (map member_holder (fields_of p)) h (heap-fits p h names words heap small numbers))

pub read_is_heap : ReadIsHeap
read_is_heap p m bytes h args names words signature e =
    let found = read-made (outline_of p m) bytes h args e in
    let made = found.1 in (
      subst (IsHeap p) made.heap (is-heap p m names words signature found.0 made.fits made.whole),
      subst (λ (z : Heap). AreArgs p m z args) made.heap
          (subst (λ (z : Args). AreArgs p m (heap_of (outline_of p m) found.0) z) made.given (are-args p m names words signature found.0 made.fits made.whole)),
    )
