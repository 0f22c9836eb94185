use Rattle.std.proofs.Common.{sym, ap, ◌∙◌}
use Rattle.indexmap.specs.IndexMap.{get_by_text}
use Rattle.jh_symbols.specs.declarations.States.{is_absent}
use Rattle.jh_symbols.proofs.declarations.Stating.{last-put, last-kept}
use Rattle.jh_symbols.proofs.declarations.states.put_last.Goals as goal

pub returns-in_ok-put : goal.returns-in_ok-put
returns-in_ok-put c = last-put (λ x. get_by_text c.args.lasts.now x) (λ x. get_by_text c.put.new.table x) c.args.state c.args.text.now (ap is_absent (sym c.last_state.ensures) ∙ sym c.is_absent.ensures ∙ c.if-is_absent.true) c.in_ok-put.ensures

pub returns-else-is_absent : goal.returns-else-is_absent
returns-else-is_absent c = last-kept (λ x. get_by_text c.args.lasts.now x) c.args.state c.args.text.now (ap is_absent (sym c.last_state.ensures) ∙ sym c.is_absent.ensures ∙ c.if-is_absent.false)
