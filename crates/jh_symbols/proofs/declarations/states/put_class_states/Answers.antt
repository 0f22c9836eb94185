use Rattle.std.proofs.Common.{subst, ◌++◌, map}
use Rattle.indexmap.specs.IndexMap.{get_by_text}
use Rattle.jh_symbols.specs.declarations.States.{Over, upper, lower, state_at, field_text, var_text}
use Rattle.jh_symbols.proofs.declarations.Stating.{upper-append, lower-append}
use Rattle.jh_symbols.proofs.declarations.states.put_class_states.Goals as goal

pub returns-clause-firsts : goal.returns-clause-firsts
returns-clause-firsts c = subst (λ ws. Over upper (state_at c.args.table.now) (λ x. get_by_text c.args.firsts.now x) (λ x. get_by_text c.put_var_states.new.firsts x) ws) (λ i. map field_text (c.items.ensures i) ++ map var_text (c.items-2.ensures i))
    (upper-append (state_at c.args.table.now) (λ x. get_by_text c.args.firsts.now x) (λ x. get_by_text c.put_field_states.new.firsts x) (λ x. get_by_text c.put_var_states.new.firsts x) (map field_text c.items.result.now) (map var_text c.items-2.result.now) c.in_ok-put_field_states.ensures.firsts c.in_ok-put_var_states.ensures.firsts)

pub returns-clause-lasts : goal.returns-clause-lasts
returns-clause-lasts c = subst (λ ws. Over lower (state_at c.args.table.now) (λ x. get_by_text c.args.lasts.now x) (λ x. get_by_text c.put_var_states.new.lasts x) ws) (λ i. map field_text (c.items.ensures i) ++ map var_text (c.items-2.ensures i))
    (lower-append (state_at c.args.table.now) (λ x. get_by_text c.args.lasts.now x) (λ x. get_by_text c.put_field_states.new.lasts x) (λ x. get_by_text c.put_var_states.new.lasts x) (map field_text c.items.result.now) (map var_text c.items-2.result.now) c.in_ok-put_field_states.ensures.lasts c.in_ok-put_var_states.ensures.lasts)
