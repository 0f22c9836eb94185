use Rattle.std.proofs.Common.{◌≡◌, ◌++◌, map, drop}
use Rattle.jh_outline.specs.outline.Listing.{framed_for}
use Rattle.jh_outline.proofs.outline.listing.framed_of.Given as goal

abbrev pub invariant-loop-listed : goal.invariant-loop-listed
invariant-loop-listed l = l.rows.items ++ map (framed_for l.written l.modified l.sets l.members) (drop l.listed-index l.list) ≡ map (framed_for l.written l.modified l.sets l.members) l.list
