use Rattle.std.proofs.Common.{true}
use Rattle.jh_rules.specs.Faults.{each}
use Rattle.jh_symbols.specs.scopes.Lookings.{declared_by}
use Rattle.jh_type.specs.formula_kinds.Parts as parts
use Rattle.jh_type.proofs.formula_kinds.Gathering.{Gathers, each-none, each-more}
use Rattle.jh_type.proofs.formula_kinds.fields.fields_known.Given as goal

-- what is found and the rest give what all give
abbrev pub invariant-loop-word : goal.invariant-loop-word
invariant-loop-word l = Gathers (λ x. true) (parts.field_state (declared_by l.lookups) l.class) (each (parts.field_state (declared_by l.lookups) l.class)) (each-none (parts.field_state (declared_by l.lookups) l.class)) (each-more (parts.field_state (declared_by l.lookups) l.class)) l.words l.word-index l.found
