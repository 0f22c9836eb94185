use Rattle.std.proofs.Common.{◌≡◌, ◌++◌, map, drop}
use Rattle.std.specs.List.{flat_map}
use Rattle.jh_ast.specs.Bare.{class_part}
use Rattle.jh_ast.specs.Programs.{ProgramTree}
use Rattle.jh_semantics.specs.LoweredProgram.{class_claims}
use Rattle.jh_semantics.specs.typed_code.Statements.{claim_in}
use Rattle.jh_outline.proofs.declarations.claims.invariants_of.Given as goal

abbrev pub invariant-loop-class : goal.invariant-loop-class
invariant-loop-class l = (p : ProgramTree) → map (claim_in p) l.made.items ++ flat_map (class_claims p) (map class_part (drop l.class-index l.classes)) ≡ flat_map (class_claims p) (map class_part l.classes)
