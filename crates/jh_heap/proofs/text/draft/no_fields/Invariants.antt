use Rattle.std.proofs.Common.{◌≡◌, replicate, map}
use Rattle.jh_heap.specs.text.Drafts.{nothing}
use Rattle.jh_heap.specs.text.Held.{given_in}
use Rattle.jh_heap.proofs.text.draft.no_fields.Given as goal

abbrev pub invariant-loop-place : goal.invariant-loop-place
invariant-loop-place l = map (λ row. given_in row.items) l.made.items ≡ replicate l._place (nothing l.objects)
