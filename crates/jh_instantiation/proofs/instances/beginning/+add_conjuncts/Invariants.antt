use Rattle.std.proofs.Common.{◌+◌, ◌*◌}
use Rattle.jh_instantiation.proofs.instances.beginning.+add_conjuncts.Given as goal

-- a formula is looked at before its parts, which have smaller numbers
abbrev pub decreases-add_conjuncts : goal.decreases-add_conjuncts
decreases-add_conjuncts l = 2 * l.node + 1

abbrev pub decreases-add_both : goal.decreases-add_both
decreases-add_both l = 2 * l.node
