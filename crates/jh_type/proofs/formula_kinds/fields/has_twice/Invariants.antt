use Rattle.std.proofs.Common.{◌||◌, ◌≡◌, drop}
use Rattle.std.specs.List.{flat_map}
use Rattle.jh_rules.specs.Rules.{has_twice}
use Rattle.jh_symbols.specs.scopes.Lookings.{declared_by}
use Rattle.jh_type.specs.formula_kinds.Parts as parts
use Rattle.jh_type.proofs.formula_kinds.fields.has_twice.Given as goal

-- what is found or the rest give is what all give
abbrev pub invariant-loop-index : goal.invariant-loop-index
invariant-loop-index l = l.found || has_twice (flat_map (parts.states_of (declared_by l.lookups) l.class) (drop l.index l.words)) ≡ has_twice (flat_map (parts.states_of (declared_by l.lookups) l.class) l.words)
