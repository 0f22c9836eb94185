use Rattle.std.proofs.Common.{◌≡◌, ◌++◌, drop}
use Rattle.std.specs.List.{flat_map}
use Rattle.jh_ast.specs.Bare.{var_part}
use Rattle.jh_vars.specs.Written.{ghost_pieces}
use Rattle.jh_vars.specs.state_names.Pieces.{pieces_in}
use Rattle.jh_vars.proofs.state_names.pieces.ghost_pieces.Given as goal

abbrev pub invariant-loop-var : goal.invariant-loop-var
invariant-loop-var l = pieces_in l.made.items ++ flat_map (λ v. ghost_pieces (var_part v)) (drop l.var-index l.vars) ≡ flat_map (λ v. ghost_pieces (var_part v)) l.vars
