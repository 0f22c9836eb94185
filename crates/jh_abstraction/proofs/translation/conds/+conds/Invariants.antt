use Rattle.std.proofs.Common.{◌+◌, ◌*◌}
use Rattle.jh_abstraction.proofs.translation.conds.+conds.Given as goal

-- a formula is looked at before what is made of its parts, which have smaller numbers
abbrev pub decreases-told_cond : goal.decreases-told_cond
decreases-told_cond l = 2 * l.node + 1

abbrev pub decreases-both : goal.decreases-both
decreases-both l = 2 * l.node

abbrev pub decreases-negated : goal.decreases-negated
decreases-negated l = 2 * l.node
