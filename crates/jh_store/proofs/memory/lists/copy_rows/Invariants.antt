use Rattle.std.proofs.Common.{◌≡◌, map, take}
use Rattle.jh_store.specs.memory.Cells.{items_of}
use Rattle.jh_store.proofs.memory.lists.copy_rows.Given as goal

abbrev pub invariant-loop-row : goal.invariant-loop-row
invariant-loop-row l = map items_of l.made.items ≡ map items_of (take l.row-index l.rows)
