use Rattle.std.proofs.Common.{◌+◌, ◌*◌}
use Rattle.jh_instantiation.proofs.closed_terms.adding.+add_formula.Given as goal

-- a formula is looked at before its parts, which have smaller numbers
abbrev pub decreases-add_formula : goal.decreases-add_formula
decreases-add_formula l = 2 * l.node + 1

abbrev pub decreases-add_both : goal.decreases-add_both
decreases-add_both l = 2 * l.node
