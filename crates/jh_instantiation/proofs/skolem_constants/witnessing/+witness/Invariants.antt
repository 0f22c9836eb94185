use Rattle.std.proofs.Common.{◌+◌, ◌*◌}
use Rattle.jh_instantiation.proofs.skolem_constants.witnessing.+witness.Given as goal

-- a formula is looked at before its parts, which have smaller numbers
abbrev pub decreases-witness : goal.decreases-witness
decreases-witness l = 2 * l.node + 1

abbrev pub decreases-witness_both : goal.decreases-witness_both
decreases-witness_both l = 2 * l.node

abbrev pub decreases-witness_one : goal.decreases-witness_one
decreases-witness_one l = 2 * l.node
