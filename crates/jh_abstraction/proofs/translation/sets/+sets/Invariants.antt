use Rattle.std.proofs.Common.{◌+◌, ◌*◌}
use Rattle.jh_abstraction.proofs.translation.sets.+sets.Given as goal

-- a set is looked at before what is made of its parts, which have smaller numbers
abbrev pub decreases-told_set : goal.decreases-told_set
decreases-told_set l = 2 * l.node + 1

abbrev pub decreases-two_sets : goal.decreases-two_sets
decreases-two_sets l = 2 * l.node

abbrev pub decreases-complement : goal.decreases-complement
decreases-complement l = 2 * l.node
