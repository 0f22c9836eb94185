use Rattle.std.proofs.Common.{◌≡◌, take}
use Rattle.jh_store.proofs.memory.memory.Memory.copy.Given as goal

abbrev pub invariant-loop-slot : goal.invariant-loop-slot
invariant-loop-slot l = l.slots.items ≡ take l.slot-index l.self.cells
