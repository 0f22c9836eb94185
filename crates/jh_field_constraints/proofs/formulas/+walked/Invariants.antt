use Rattle.std.proofs.Common.{◌+◌, ◌*◌}
use Rattle.jh_field_constraints.proofs.formulas.+walked.Given as goal

-- a formula is looked at before its shape, that before what is made of its parts, and the parts have smaller numbers
abbrev pub decreases-walked : goal.decreases-walked
decreases-walked l = 5 * l.formula.node + 4

abbrev pub decreases-walked_shape : goal.decreases-walked_shape
decreases-walked_shape l = 5 * l.formula.node + 3

abbrev pub decreases-equivalent : goal.decreases-equivalent
decreases-equivalent l = 5 * l.node + 2

abbrev pub decreases-opened : goal.decreases-opened
decreases-opened l = 5 * l.node + 1

abbrev pub decreases-both : goal.decreases-both
decreases-both l = 5 * l.node

abbrev pub decreases-negated : goal.decreases-negated
decreases-negated l = 5 * l.node

abbrev pub decreases-bound : goal.decreases-bound
decreases-bound l = 5 * l.node

abbrev pub decreases-labelled : goal.decreases-labelled
decreases-labelled l = 5 * l.node
