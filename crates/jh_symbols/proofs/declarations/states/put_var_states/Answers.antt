use Rattle.std.proofs.Common.{◌∷◌, subst, []}
use Rattle.indexmap.specs.IndexMap.{get_by_text}
use Rattle.jh_symbols.specs.declarations.States.{Over, upper, lower, state_at, var_text}
use Rattle.jh_symbols.proofs.declarations.Stating.{upper-next, lower-next, over-end}
use Rattle.jh_symbols.proofs.declarations.states.put_var_states.Goals as goal

pub loop-var-preserved : goal.loop-var-preserved
loop-var-preserved c = record {
  firsts = upper-next var_text (state_at c.args.table.now) (λ x. get_by_text c.args.firsts.now x) (λ x. get_by_text c.loop-var.firsts x) (λ x. get_by_text c.put_state.new.firsts x) c.args.vars.now c.loop-var.var-index c.var-item.result c.loop-var-test.true c.var-item.is (subst (λ w. Over upper (state_at c.args.table.now) (λ x. get_by_text c.loop-var.firsts x) (λ x. get_by_text c.put_state.new.firsts x) (w ∷ [])) c.text.ensures c.in_ok-put_state.ensures.firsts) c.loop-var.invariant.firsts;
  lasts = lower-next var_text (state_at c.args.table.now) (λ x. get_by_text c.args.lasts.now x) (λ x. get_by_text c.loop-var.lasts x) (λ x. get_by_text c.put_state.new.lasts x) c.args.vars.now c.loop-var.var-index c.var-item.result c.loop-var-test.true c.var-item.is (subst (λ w. Over lower (state_at c.args.table.now) (λ x. get_by_text c.loop-var.lasts x) (λ x. get_by_text c.put_state.new.lasts x) (w ∷ [])) c.text.ensures c.in_ok-put_state.ensures.lasts) c.loop-var.invariant.lasts;
}

pub returns-clause-firsts : goal.returns-clause-firsts
returns-clause-firsts c = over-end upper var_text (state_at c.args.table.now) (λ x. get_by_text c.args.firsts.now x) (λ x. get_by_text c.loop-var.firsts x) c.args.vars.now c.loop-var.var-index c.loop-var-test.false c.loop-var.invariant.firsts

pub returns-clause-lasts : goal.returns-clause-lasts
returns-clause-lasts c = over-end lower var_text (state_at c.args.table.now) (λ x. get_by_text c.args.lasts.now x) (λ x. get_by_text c.loop-var.lasts x) c.args.vars.now c.loop-var.var-index c.loop-var-test.false c.loop-var.invariant.lasts
