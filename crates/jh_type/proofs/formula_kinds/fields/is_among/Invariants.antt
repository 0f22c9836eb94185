use Rattle.std.proofs.Common.{◌||◌, ◌≡◌, drop}
use Rattle.std.specs.List.{list_any, flat_map}
use Rattle.jh_rules.specs.Rules.{same_state}
use Rattle.jh_symbols.specs.scopes.Lookings.{declared_by}
use Rattle.jh_type.specs.formula_kinds.Parts as parts
use Rattle.jh_type.proofs.formula_kinds.fields.is_among.Given as goal

-- what is found or the rest give is what all give
abbrev pub invariant-loop-word : goal.invariant-loop-word
invariant-loop-word l = l.found || list_any (same_state (l.entry, l.own)) (flat_map (parts.states_of (declared_by l.lookups) l.class) (drop l.word-index l.words)) ≡ list_any (same_state (l.entry, l.own)) (flat_map (parts.states_of (declared_by l.lookups) l.class) l.words)
