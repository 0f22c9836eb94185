use Rattle.std.proofs.Common.{◌≡◌, ◌++◌, drop, filter}
use Rattle.jh_name.specs.declared.naming.Name.{Name}
use Rattle.jh_store.specs.memory.Held.{state_of, IsNamed}
use Rattle.jh_heap_layout.proofs.loading.unloading.members_at.Given as goal

abbrev pub invariant-loop-object : goal.invariant-loop-object
invariant-loop-object l = (x : Name) → IsNamed l.fn.memory l.fn.number x → l.made.items ++ filter (((state_of l.fn.memory).field x).sets l.fn.at) (drop l.object-index l.fn.objects) ≡ filter (((state_of l.fn.memory).field x).sets l.fn.at) l.fn.objects
