use Rattle.std.proofs.Common.{◌+◌, ◌*◌}
use Rattle.jh_propagation.proofs.trail.truths.+true_in.Given as goal

-- what joins two parts is looked at after its node, and the parts have smaller numbers
abbrev pub decreases-true_in : goal.decreases-true_in
decreases-true_in l = 2 * l.node + 1

abbrev pub decreases-true_and : goal.decreases-true_and
decreases-true_and l = 2 * l.node

abbrev pub decreases-true_or : goal.decreases-true_or
decreases-true_or l = 2 * l.node
