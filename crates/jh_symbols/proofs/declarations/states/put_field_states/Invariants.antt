use Rattle.std.proofs.Common.{map, take}
use Rattle.indexmap.specs.IndexMap.{get_by_text}
use Rattle.jh_symbols.specs.declarations.States.{Over, upper, lower, state_at, field_text}
use Rattle.jh_symbols.proofs.declarations.states.put_field_states.Given as goal

-- the states of the names so far stand over what was there
abbrev pub invariant-loop-field : goal.invariant-loop-field
invariant-loop-field l = record {
  firsts : Over upper (state_at l.table) (λ x. get_by_text l.initial.firsts x) (λ x. get_by_text l.firsts x) (map field_text (take l.field-index l.fields));
  lasts : Over lower (state_at l.table) (λ x. get_by_text l.initial.lasts x) (λ x. get_by_text l.lasts x) (map field_text (take l.field-index l.fields));
}
