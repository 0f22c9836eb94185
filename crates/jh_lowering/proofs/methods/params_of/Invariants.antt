use Rattle.std.proofs.Common.{◌≡◌, ◌++◌, map, drop}
use Rattle.jh_semantics.specs.LoweredStmts.{local_code}
use Rattle.jh_lowering.specs.Lowering.{source_of}
use Rattle.jh_semantics.specs.typed_code.Statements.{local_in}
use Rattle.jh_lowering.proofs.methods.params_of.Given as goal

abbrev pub invariant-loop-param : goal.invariant-loop-param
invariant-loop-param l = map local_in l.locals.items ++ map (local_code (source_of l.context)) (drop l.param-index l.params) ≡ map (local_code (source_of l.context)) l.params
