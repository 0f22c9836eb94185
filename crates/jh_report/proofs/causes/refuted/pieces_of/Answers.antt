use Rattle.std.proofs.Common.{subst, List, [], ◌++◌, Bool}
use Rattle.jh_query.specs.declared.queries.sizes.Spot.{Spot}
use Rattle.jh_query.specs.declared.queries.sizes.Whole.{Whole}
use Rattle.jh_report.specs.causes.Causes.{numbered, region_pieces, element_pieces, number_pieces, flag_pieces}
use Rattle.jh_report.specs.causes.Pieces.{Holds}
use Rattle.jh_report.proofs.causes.refuted.pieces_of.Goals as goal

pub returns : goal.returns
returns c =
    let z = c.args.sizes.now in
    let regions = subst (λ (xs : List (List Bool)). Holds c.add_regions.new.pieces (numbered region_pieces 0 xs)) c.items.ensures (c.in_ok-add_regions.ensures [] c.new-pieces.ensures) in
    let elements = subst (λ (xs : List Spot). Holds c.add_elements.new.pieces (numbered region_pieces 0 z.rest ++ numbered element_pieces 0 xs)) c.items-2.ensures (c.in_ok-add_elements.ensures _ regions) in
    let numbers = subst (λ (xs : List Whole). Holds c.add_numbers.new.pieces (numbered region_pieces 0 z.rest ++ numbered element_pieces 0 z.spots ++ numbered number_pieces 0 xs)) c.items-3.ensures (c.in_ok-add_numbers.ensures _ elements) in
    subst (λ (xs : List Bool). Holds c.add_flags.new.pieces (numbered region_pieces 0 z.rest ++ numbered element_pieces 0 z.spots ++ numbered number_pieces 0 z.numbers ++ numbered flag_pieces 0 xs)) c.items-4.ensures (c.in_ok-add_flags.ensures _ numbers)
