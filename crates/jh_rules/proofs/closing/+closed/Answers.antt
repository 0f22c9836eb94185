use Rattle.std.proofs.Common.{◌∙◌}
use Rattle.jh_rules.proofs.Ends.{ends-last}
use Rattle.jh_rules.proofs.closing.+closed.Goals as goal

-- src/closing.rt
pub ends_closed-returns-in-len1-up : goal.ends_closed-returns-in-len1-up
ends_closed-returns-in-len1-up t c = c.is_closed.ensures ∙ ends-last c.args.stmts.now c.last-item.result c.in-len1-up.len_at_least c.last-item.is
