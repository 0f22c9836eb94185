use Rattle.jh_type.proofs.checker.Values.{has-some}
use Rattle.jh_type.proofs.checker.defaults.has_none.Goals as goal

-- src/defaults.rt
pub returns-in-len1-up : goal.returns-in-len1-up
returns-in-len1-up c = has-some c.args.items.now c.in-len1-up.len_at_least
