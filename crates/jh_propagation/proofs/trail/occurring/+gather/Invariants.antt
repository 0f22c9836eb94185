use Rattle.std.proofs.Common.{◌+◌, ◌*◌}
use Rattle.jh_propagation.proofs.trail.occurring.+gather.Given as goal

-- what joins two parts is looked at after its node, and the parts have smaller numbers
abbrev pub decreases-gather : goal.decreases-gather
decreases-gather l = 2 * l.node + 1

abbrev pub decreases-gather_both : goal.decreases-gather_both
decreases-gather_both l = 2 * l.node
