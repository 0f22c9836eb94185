use Rattle.std.proofs.Common.{◌≡◌}
use Rattle.jh_semantics.specs.Objects.{below}
use Rattle.jh_heap_layout.proofs.loading.unloading.objects_to.Given as goal

abbrev pub invariant-loop-object : goal.invariant-loop-object
invariant-loop-object l = l.made.items ≡ below l.object
