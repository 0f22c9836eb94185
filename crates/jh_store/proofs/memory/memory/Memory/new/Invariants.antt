use Rattle.std.proofs.Common.{◌≡◌, replicate}
use Rattle.jh_store.specs.memory.Cells.{no_cells}
use Rattle.jh_store.proofs.memory.memory.Memory.new.Given as goal

abbrev pub invariant-loop-name : goal.invariant-loop-name
invariant-loop-name l = l.slots.items ≡ replicate l._name no_cells
