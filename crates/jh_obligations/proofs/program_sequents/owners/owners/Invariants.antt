use Rattle.std.proofs.Common.{◌≡◌, ◌++◌, ◌+◌, map, drop}
use Rattle.jh_ast.specs.Bare.{class_part}
use Rattle.jh_outline.specs.jh_effects.written_state.Methods.{gathered_from}
use Rattle.jh_obligations.specs.program_sequents.Owing.{class_owing, owing_in}
use Rattle.jh_obligations.proofs.program_sequents.owners.owners.Given as goal

abbrev pub invariant-loop-class : goal.invariant-loop-class
invariant-loop-class l = map owing_in l.made.items ++ gathered_from class_owing (0 + l.class) (drop l.class (map class_part l.classes)) ≡ gathered_from class_owing 0 (map class_part l.classes)
