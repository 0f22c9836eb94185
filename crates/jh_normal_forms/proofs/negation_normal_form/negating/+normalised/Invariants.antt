use Rattle.std.proofs.Common.{◌+◌, ◌*◌}
use Rattle.jh_normal_forms.proofs.negation_normal_form.negating.+normalised.Given as goal

-- a formula is looked at before its shape, that before what is made of its parts, and the parts have smaller numbers
abbrev pub decreases-normalised : goal.decreases-normalised
decreases-normalised l = 5 * l.formula.node + 4

abbrev pub decreases-normalised_shape : goal.decreases-normalised_shape
decreases-normalised_shape l = 5 * l.formula.node + 3

abbrev pub decreases-opened : goal.decreases-opened
decreases-opened l = 5 * l.node + 2

abbrev pub decreases-opened_right : goal.decreases-opened_right
decreases-opened_right l = 5 * l.node + 1

abbrev pub decreases-both : goal.decreases-both
decreases-both l = 5 * l.node

abbrev pub decreases-bound : goal.decreases-bound
decreases-bound l = 5 * l.node

abbrev pub decreases-labelled : goal.decreases-labelled
decreases-labelled l = 5 * l.node
