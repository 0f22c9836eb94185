use Rattle.std.proofs.Common.{◌≡◌, take}
use Rattle.jh_heap.proofs.text.taking.objects_in.Given as goal

abbrev pub invariant-loop-object : goal.invariant-loop-object
invariant-loop-object l = l.made.items ≡ take l.object-index l.objects
