use Rattle.std.proofs.Common.{◌+◌, ◌*◌}
use Rattle.jh_abstraction.proofs.translation.numbers.+numbers.Given as goal

-- a number is looked at before what is made of its parts, which have smaller numbers
abbrev pub decreases-told_number : goal.decreases-told_number
decreases-told_number l = 2 * l.node + 1

abbrev pub decreases-two_numbers : goal.decreases-two_numbers
decreases-two_numbers l = 2 * l.node

abbrev pub decreases-negative : goal.decreases-negative
decreases-negative l = 2 * l.node

abbrev pub decreases-scaled : goal.decreases-scaled
decreases-scaled l = 2 * l.node
