use Rattle.std.proofs.Common.{sym, ◌∙◌}
use Rattle.indexmap.specs.IndexMap.{get_by_text}
use Rattle.jh_symbols.specs.declarations.States.{state_at}
use Rattle.jh_symbols.proofs.declarations.Stating.{upper-none, lower-none, upper-some, lower-some}
use Rattle.jh_symbols.proofs.declarations.states.put_state.Goals as goal

pub returns-in-None-clause-firsts : goal.returns-in-None-clause-firsts
returns-in-None-clause-firsts c = upper-none (state_at c.args.table.now) (λ x. get_by_text c.args.firsts.now x) c.args.text.now (sym c.state_at.ensures ∙ c.in-None.is)

pub returns-in-None-clause-lasts : goal.returns-in-None-clause-lasts
returns-in-None-clause-lasts c = lower-none (state_at c.args.table.now) (λ x. get_by_text c.args.lasts.now x) c.args.text.now (sym c.state_at.ensures ∙ c.in-None.is)

pub returns-in_ok-put_last-in-Some-clause-firsts : goal.returns-in_ok-put_last-in-Some-clause-firsts
returns-in_ok-put_last-in-Some-clause-firsts c = upper-some (state_at c.args.table.now) (λ x. get_by_text c.args.firsts.now x) (λ x. get_by_text c.put_first.new.firsts x) c.in-Some.state c.args.text.now (sym c.state_at.ensures ∙ c.in-Some.is) c.in_ok-put_first-in-Some.ensures

pub returns-in_ok-put_last-in-Some-clause-lasts : goal.returns-in_ok-put_last-in-Some-clause-lasts
returns-in_ok-put_last-in-Some-clause-lasts c = lower-some (state_at c.args.table.now) (λ x. get_by_text c.args.lasts.now x) (λ x. get_by_text c.put_last.new.lasts x) c.in-Some.state c.args.text.now (sym c.state_at.ensures ∙ c.in-Some.is) c.in_ok-put_last-in-Some.ensures
