use Rattle.std.proofs.Common.{◌∷◌, []}
use Rattle.jh_symbols.specs.scopes.Firsts.{is_behind}
use Rattle.jh_type.proofs.checker.Following.{Follows}
use Rattle.jh_ast.specs.declared.program.Method.{Method}
use Rattle.jh_type.proofs.checker.words.add_methods.Given as goal

-- the names so far and the rest are all names
abbrev pub invariant-loop-method : goal.invariant-loop-method
invariant-loop-method l = Follows (λ (a : Method). a.name ∷ []) (is_behind l.initial.found) (is_behind l.found) l.methods l.method-index
