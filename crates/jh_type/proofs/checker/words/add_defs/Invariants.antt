use Rattle.std.proofs.Common.{◌∷◌, []}
use Rattle.jh_symbols.specs.scopes.Firsts.{is_behind}
use Rattle.jh_type.proofs.checker.Following.{Follows}
use Rattle.jh_ast.specs.declared.program.VarDef.{VarDef}
use Rattle.jh_type.proofs.checker.words.add_defs.Given as goal

-- the names so far and the rest are all names
abbrev pub invariant-loop-definition : goal.invariant-loop-definition
invariant-loop-definition l = Follows (λ (a : VarDef). a.name ∷ []) (is_behind l.initial.found) (is_behind l.found) l.defs l.definition-index
