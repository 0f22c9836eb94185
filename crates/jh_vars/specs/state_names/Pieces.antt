-- The pieces of the code without memory.
use Rattle.std.specs.Prelude.{List, map}
use Rattle.jh_vars.specs.Written as written
use Rattle.jh_vars.specs.declared.state_names.pieces.Piece.{Piece}

abbrev pub piece_of : Piece → written.Piece
piece_of x = record { word = x.word.now; kind = x.kind; fixed = x.fixed; is_ghost = x.is_ghost }

abbrev pub pieces_in : List Piece → List written.Piece
pieces_in xs = map piece_of xs
