use Rattle.std.proofs.Common.{◌≡◌, None, replicate}
use Rattle.jh_heap.specs.text.Held.{given_in}
use Rattle.jh_heap.proofs.text.draft.no_cells.Given as goal

abbrev pub invariant-loop-place : goal.invariant-loop-place
invariant-loop-place l = given_in l.made.items ≡ replicate l._place None
