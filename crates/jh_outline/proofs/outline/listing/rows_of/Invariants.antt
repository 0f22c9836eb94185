use Rattle.std.proofs.Common.{◌≡◌, ◌++◌, map, drop}
use Rattle.jh_outline.specs.outline.Listing.{places_of}
use Rattle.jh_outline.proofs.outline.listing.rows_of.Given as goal

abbrev pub invariant-loop-listed : goal.invariant-loop-listed
invariant-loop-listed l = l.rows.items ++ map (places_of l.places) (drop l.listed-index l.list) ≡ map (places_of l.places) l.list
