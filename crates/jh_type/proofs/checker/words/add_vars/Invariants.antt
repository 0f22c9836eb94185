use Rattle.std.proofs.Common.{◌∷◌, []}
use Rattle.jh_symbols.specs.scopes.Firsts.{is_behind}
use Rattle.jh_type.proofs.checker.Following.{Follows}
use Rattle.jh_ast.specs.declared.program.SpecVar.{SpecVar}
use Rattle.jh_type.proofs.checker.words.add_vars.Given as goal

-- the names so far and the rest are all names
abbrev pub invariant-loop-var : goal.invariant-loop-var
invariant-loop-var l = Follows (λ (a : SpecVar). a.name ∷ []) (is_behind l.initial.found) (is_behind l.found) l.vars l.var-index
