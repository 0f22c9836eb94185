use Rattle.std.proofs.Common.{◌≡◌, ◌++◌, drop}
use Rattle.jh_outline.proofs.outline.listing.copied.Given as goal

abbrev pub invariant-loop-place : goal.invariant-loop-place
invariant-loop-place l = l.row.items ++ drop l.place-index l.places ≡ l.places
