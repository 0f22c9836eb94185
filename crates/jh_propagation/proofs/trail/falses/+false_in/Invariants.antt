use Rattle.std.proofs.Common.{◌+◌, ◌*◌}
use Rattle.jh_propagation.proofs.trail.falses.+false_in.Given as goal

-- what joins two parts is looked at after its node, and the parts have smaller numbers
abbrev pub decreases-false_in : goal.decreases-false_in
decreases-false_in l = 2 * l.node + 1

abbrev pub decreases-false_and : goal.decreases-false_and
decreases-false_and l = 2 * l.node

abbrev pub decreases-false_or : goal.decreases-false_or
decreases-false_or l = 2 * l.node
