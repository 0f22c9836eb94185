use Rattle.std.proofs.Common.{◌≡◌, ◌++◌, map, drop}
use Rattle.jh_ast.specs.Bare.{expr_tree}
use Rattle.jh_symbols.specs.scopes.Lookings.{scope_by}
use Rattle.jh_semantics.specs.Lowered.{expr_code}
use Rattle.jh_semantics.specs.typed_code.Codes.{any_code}
use Rattle.jh_lowering.specs.Lowering.{source_of}
use Rattle.jh_lowering.proofs.calls.arguments.Given as goal

abbrev pub invariant-loop-arg : goal.invariant-loop-arg
invariant-loop-arg l = map any_code l.codes.items ++ map (λ a. expr_code (source_of l.context) a (scope_by l.at)) (map expr_tree (drop l.arg-index l.args)) ≡ map (λ a. expr_code (source_of l.context) a (scope_by l.at)) (map expr_tree l.args)
