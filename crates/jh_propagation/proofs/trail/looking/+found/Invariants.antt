use Rattle.std.proofs.Common.{◌+◌, ◌*◌}
use Rattle.jh_propagation.proofs.trail.looking.+found.Given as goal

-- what joins two parts is looked at after its node, and the parts have smaller numbers
abbrev pub decreases-found_in : goal.decreases-found_in
decreases-found_in l = 2 * l.node + 1

abbrev pub decreases-found_and : goal.decreases-found_and
decreases-found_and l = 2 * l.node

abbrev pub decreases-found_or : goal.decreases-found_or
decreases-found_or l = 2 * l.node
