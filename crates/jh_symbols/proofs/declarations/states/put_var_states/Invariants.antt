use Rattle.std.proofs.Common.{map, take}
use Rattle.indexmap.specs.IndexMap.{get_by_text}
use Rattle.jh_symbols.specs.declarations.States.{Over, upper, lower, state_at, var_text}
use Rattle.jh_symbols.proofs.declarations.states.put_var_states.Given as goal

-- the states of the names so far stand over what was there
abbrev pub invariant-loop-var : goal.invariant-loop-var
invariant-loop-var l = record {
  firsts : Over upper (state_at l.table) (λ x. get_by_text l.initial.firsts x) (λ x. get_by_text l.firsts x) (map var_text (take l.var-index l.vars));
  lasts : Over lower (state_at l.table) (λ x. get_by_text l.initial.lasts x) (λ x. get_by_text l.lasts x) (map var_text (take l.var-index l.vars));
}
