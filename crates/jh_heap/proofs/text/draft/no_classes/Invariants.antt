use Rattle.std.proofs.Common.{◌≡◌, None, replicate}
use Rattle.jh_heap.proofs.text.draft.no_classes.Given as goal

abbrev pub invariant-loop-place : goal.invariant-loop-place
invariant-loop-place l = l.made.items ≡ replicate l._place None
