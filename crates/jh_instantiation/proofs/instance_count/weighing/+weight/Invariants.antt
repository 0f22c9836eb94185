use Rattle.std.proofs.Common.{◌+◌, ◌*◌}
use Rattle.jh_instantiation.proofs.instance_count.weighing.+weight.Given as goal

-- a formula is looked at before its parts, which have smaller numbers
abbrev pub decreases-weight : goal.decreases-weight
decreases-weight l = 2 * l.node + 1

abbrev pub decreases-both : goal.decreases-both
decreases-both l = 2 * l.node

abbrev pub decreases-inside : goal.decreases-inside
decreases-inside l = 2 * l.node
