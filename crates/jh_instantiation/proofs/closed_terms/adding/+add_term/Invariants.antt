use Rattle.std.proofs.Common.{◌+◌, ◌*◌}
use Rattle.jh_instantiation.proofs.closed_terms.adding.+add_term.Given as goal

-- a term is looked at before the one inside it, which has a smaller number
abbrev pub decreases-add_term : goal.decreases-add_term
decreases-add_term l = 2 * l.node + 1

abbrev pub decreases-add_outer : goal.decreases-add_outer
decreases-add_outer l = 2 * l.node
