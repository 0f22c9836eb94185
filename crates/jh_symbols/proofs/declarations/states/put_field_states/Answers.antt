use Rattle.std.proofs.Common.{◌∷◌, subst, []}
use Rattle.indexmap.specs.IndexMap.{get_by_text}
use Rattle.jh_symbols.specs.declarations.States.{Over, upper, lower, state_at, field_text}
use Rattle.jh_symbols.proofs.declarations.Stating.{upper-next, lower-next, over-end}
use Rattle.jh_symbols.proofs.declarations.states.put_field_states.Goals as goal

pub loop-field-preserved : goal.loop-field-preserved
loop-field-preserved c = record {
  firsts = upper-next field_text (state_at c.args.table.now) (λ x. get_by_text c.args.firsts.now x) (λ x. get_by_text c.loop-field.firsts x) (λ x. get_by_text c.put_state.new.firsts x) c.args.fields.now c.loop-field.field-index c.field-item.result c.loop-field-test.true c.field-item.is (subst (λ w. Over upper (state_at c.args.table.now) (λ x. get_by_text c.loop-field.firsts x) (λ x. get_by_text c.put_state.new.firsts x) (w ∷ [])) c.text.ensures c.in_ok-put_state.ensures.firsts) c.loop-field.invariant.firsts;
  lasts = lower-next field_text (state_at c.args.table.now) (λ x. get_by_text c.args.lasts.now x) (λ x. get_by_text c.loop-field.lasts x) (λ x. get_by_text c.put_state.new.lasts x) c.args.fields.now c.loop-field.field-index c.field-item.result c.loop-field-test.true c.field-item.is (subst (λ w. Over lower (state_at c.args.table.now) (λ x. get_by_text c.loop-field.lasts x) (λ x. get_by_text c.put_state.new.lasts x) (w ∷ [])) c.text.ensures c.in_ok-put_state.ensures.lasts) c.loop-field.invariant.lasts;
}

pub returns-clause-firsts : goal.returns-clause-firsts
returns-clause-firsts c = over-end upper field_text (state_at c.args.table.now) (λ x. get_by_text c.args.firsts.now x) (λ x. get_by_text c.loop-field.firsts x) c.args.fields.now c.loop-field.field-index c.loop-field-test.false c.loop-field.invariant.firsts

pub returns-clause-lasts : goal.returns-clause-lasts
returns-clause-lasts c = over-end lower field_text (state_at c.args.table.now) (λ x. get_by_text c.args.lasts.now x) (λ x. get_by_text c.loop-field.lasts x) c.args.fields.now c.loop-field.field-index c.loop-field-test.false c.loop-field.invariant.lasts
