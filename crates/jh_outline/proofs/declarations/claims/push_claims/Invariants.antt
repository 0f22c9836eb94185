use Rattle.std.proofs.Common.{◌≡◌, ◌++◌, map, drop}
use Rattle.jh_ast.specs.Bare.{labelled_part}
use Rattle.jh_ast.specs.Programs.{ProgramTree}
use Rattle.jh_semantics.specs.LoweredStmts.{labelled_claim}
use Rattle.jh_semantics.specs.typed_code.Statements.{claim_in}
use Rattle.jh_outline.proofs.declarations.claims.push_claims.Given as goal

abbrev pub invariant-loop-one : goal.invariant-loop-one
invariant-loop-one l = (p : ProgramTree) → map (claim_in p) l.made.items ++ map (labelled_claim p) (map labelled_part (drop l.one-index l.labelled)) ≡ map (claim_in p) l.initial.made.items ++ map (labelled_claim p) (map labelled_part l.labelled)
