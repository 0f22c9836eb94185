use Rattle.std.proofs.Common.{◌+◌, ◌*◌}
use Rattle.jh_propagation.proofs.trail.reasons.+sought.Given as goal

-- what joins two parts is looked at after its node, and the parts have smaller numbers
abbrev pub decreases-sought_in : goal.decreases-sought_in
decreases-sought_in l = 2 * l.node + 1

abbrev pub decreases-sought_and : goal.decreases-sought_and
decreases-sought_and l = 2 * l.node

abbrev pub decreases-sought_or : goal.decreases-sought_or
decreases-sought_or l = 2 * l.node
