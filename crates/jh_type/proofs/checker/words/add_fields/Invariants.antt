use Rattle.std.proofs.Common.{◌∷◌, []}
use Rattle.jh_symbols.specs.scopes.Firsts.{is_behind}
use Rattle.jh_type.proofs.checker.Following.{Follows}
use Rattle.jh_ast.specs.declared.program.Field.{Field}
use Rattle.jh_type.proofs.checker.words.add_fields.Given as goal

-- the names so far and the rest are all names
abbrev pub invariant-loop-field : goal.invariant-loop-field
invariant-loop-field l = Follows (λ (a : Field). a.name ∷ []) (is_behind l.initial.found) (is_behind l.found) l.fields l.field-index
