use Rattle.std.proofs.Common.{◌≡◌, ◌++◌, drop}
use Rattle.std.specs.Prelude.{string_bytes}
use Rattle.jh_heap.specs.text.Writing.{classes_text}
use Rattle.jh_heap.specs.text.Held.{texts_in}
use Rattle.jh_heap.proofs.text.writing.add_classes.Given as goal

abbrev pub invariant-loop-place : goal.invariant-loop-place
invariant-loop-place l = string_bytes l.text ++ classes_text (texts_in (drop l.place l.classes)) (drop l.place l.objects) ≡ string_bytes l.initial.text ++ classes_text (texts_in l.classes) (l.objects)
