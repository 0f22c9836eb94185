use Rattle.std.proofs.Common.{◌≡◌, ◌++◌, List, drop, filter, map}
use Rattle.jh_semantics.specs.Code.{Text}
use Rattle.jh_semantics.specs.State.{named}
use Rattle.jh_store.specs.memory.Held.{state_of}
use Rattle.jh_heap_layout.specs.loading.Places.{AreNumbers}
use Rattle.jh_heap_layout.proofs.loading.unloading.classes.Given as goal

abbrev pub invariant-loop-place : goal.invariant-loop-place
invariant-loop-place l = (cs : List Text) → AreNumbers l.fn.memory.names l.fn.numbers cs → l.made.items ++ map (λ c. filter ((state_of l.fn.memory).set (named c)) l.fn.objects) (drop l.place cs) ≡ map (λ c. filter ((state_of l.fn.memory).set (named c)) l.fn.objects) cs
