use Rattle.std.proofs.Common.{◌∷◌, []}
use Rattle.jh_symbols.specs.scopes.Firsts.{is_behind}
use Rattle.jh_type.proofs.checker.Following.{Follows}
use Rattle.jh_ast.specs.declared.program.Class.{Class}
use Rattle.jh_type.proofs.checker.words.add_classes.Given as goal

-- the names so far and the rest are all names
abbrev pub invariant-loop-class : goal.invariant-loop-class
invariant-loop-class l = Follows (λ (a : Class). a.name ∷ []) (is_behind l.initial.found) (is_behind l.found) l.classes l.class-index
