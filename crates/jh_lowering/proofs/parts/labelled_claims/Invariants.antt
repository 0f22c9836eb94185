use Rattle.std.proofs.Common.{◌≡◌, ◌++◌, map, drop}
use Rattle.jh_ast.specs.Bare.{labelled_part}
use Rattle.jh_ast.specs.Programs.{ProgramTree}
use Rattle.jh_semantics.specs.LoweredStmts.{labelled_claim}
use Rattle.jh_semantics.specs.typed_code.Statements.{claim_in}
use Rattle.jh_lowering.proofs.parts.labelled_claims.Given as goal

abbrev pub invariant-loop-one : goal.invariant-loop-one
invariant-loop-one l = (p : ProgramTree) → map (claim_in p) l.claims.items ++ map (labelled_claim p) (map labelled_part (drop l.one-index l.labelled)) ≡ map (labelled_claim p) (map labelled_part l.labelled)
