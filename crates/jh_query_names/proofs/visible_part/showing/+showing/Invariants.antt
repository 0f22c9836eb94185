use Rattle.std.proofs.Common.{◌+◌, ◌*◌}
use Rattle.jh_query_names.proofs.visible_part.showing.+showing.Given as goal

-- a formula is looked at before its shape, that before what is made of its parts, and the parts have smaller numbers
abbrev pub decreases-shown_of : goal.decreases-shown_of
decreases-shown_of l = 5 * l.formula.node + 4

abbrev pub decreases-shown_shape : goal.decreases-shown_shape
decreases-shown_shape l = 5 * l.formula.node + 3

abbrev pub decreases-equivalence : goal.decreases-equivalence
decreases-equivalence l = 5 * l.node + 2

abbrev pub decreases-turned : goal.decreases-turned
decreases-turned l = 5 * l.node + 1

abbrev pub decreases-both : goal.decreases-both
decreases-both l = 5 * l.node

abbrev pub decreases-negated_part : goal.decreases-negated_part
decreases-negated_part l = 5 * l.node
