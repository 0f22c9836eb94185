use Rattle.std.proofs.Common.{◌≡◌, map}
use Rattle.jh_heap.specs.text.Reading.{objects_or}
use Rattle.jh_heap.proofs.text.finishing.classes_or.Given as goal

abbrev pub invariant-loop-objects : goal.invariant-loop-objects
invariant-loop-objects l = l.made.items ≡ map objects_or l.yielded
