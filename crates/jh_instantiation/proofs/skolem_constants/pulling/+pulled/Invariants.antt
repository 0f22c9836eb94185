use Rattle.std.proofs.Common.{◌+◌, ◌*◌}
use Rattle.jh_instantiation.proofs.skolem_constants.pulling.+pulled.Given as goal

-- a formula is looked at before its parts, which have smaller numbers
abbrev pub decreases-pulled : goal.decreases-pulled
decreases-pulled l = 2 * l.node + 1

abbrev pub decreases-pulled_both : goal.decreases-pulled_both
decreases-pulled_both l = 2 * l.node

abbrev pub decreases-pulled_one : goal.decreases-pulled_one
decreases-pulled_one l = 2 * l.node
