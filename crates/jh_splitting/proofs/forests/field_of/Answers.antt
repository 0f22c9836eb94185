use Rattle.std.proofs.Common.{sym, ◌∙◌}
use Rattle.jh_splitting.proofs.Edging.{if-some, field-at, field-none}
use Rattle.jh_splitting.proofs.forests.field_of.Goals as goal

pub returns-clause-some : goal.returns-clause-some
returns-clause-some c = if-some c.item_at.result _ (λ n e fs h. field-at c.args.table.now c.args.list c.args.index n c.list_at.result.now fs c.list_at.ensures (sym c.item_at.ensures ∙ e) h)

pub returns-clause-none : goal.returns-clause-none
returns-clause-none c = λ e fs h. field-none c.args.table.now c.args.list c.args.index c.list_at.result.now fs c.list_at.ensures (sym c.item_at.ensures ∙ e) h
