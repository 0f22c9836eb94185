use Rattle.std.proofs.Common.{◌≡◌, ◌++◌, map, drop}
use Rattle.jh_ast.specs.Bare.{field_part}
use Rattle.jh_vars.specs.Written.{field_piece}
use Rattle.jh_vars.specs.state_names.Pieces.{pieces_in}
use Rattle.jh_vars.proofs.state_names.pieces.field_pieces.Given as goal

abbrev pub invariant-loop-field : goal.invariant-loop-field
invariant-loop-field l = pieces_in l.made.items ++ map (λ x. field_piece (field_part x)) (drop l.field-index l.fields) ≡ map (λ x. field_piece (field_part x)) l.fields
