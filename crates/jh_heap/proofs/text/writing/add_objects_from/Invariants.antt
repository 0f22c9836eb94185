use Rattle.std.proofs.Common.{◌≡◌, ◌++◌, drop}
use Rattle.std.specs.Prelude.{string_bytes}
use Rattle.jh_heap.specs.text.Writing.{objects_from}
use Rattle.jh_heap.proofs.text.writing.add_objects_from.Given as goal

abbrev pub invariant-loop-object : goal.invariant-loop-object
invariant-loop-object l = string_bytes l.text ++ objects_from (drop l.object-index l.objects) ≡ string_bytes l.initial.text ++ objects_from l.objects
