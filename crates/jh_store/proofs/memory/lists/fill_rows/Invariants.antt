use Rattle.std.proofs.Common.{◌≡◌, ◌++◌, ◌-◌, [], map, length, replicate}
use Rattle.jh_store.specs.memory.Cells.{items_of}
use Rattle.jh_store.proofs.memory.lists.fill_rows.Given as goal

abbrev pub invariant-loop-place : goal.invariant-loop-place
invariant-loop-place l =
    (length l.rows.items ≡ l._place) ×
    (map items_of l.rows.items ≡ map items_of l.initial.rows.items ++ replicate (l._place - length l.initial.rows.items) [])
