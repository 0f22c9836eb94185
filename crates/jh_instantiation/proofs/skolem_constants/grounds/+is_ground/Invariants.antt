use Rattle.std.proofs.Common.{◌+◌, ◌*◌}
use Rattle.jh_instantiation.proofs.skolem_constants.grounds.+is_ground.Given as goal

-- a formula is looked at before its parts, which have smaller numbers
abbrev pub decreases-is_ground : goal.decreases-is_ground
decreases-is_ground l = 2 * l.node + 1

abbrev pub decreases-are_ground : goal.decreases-are_ground
decreases-are_ground l = 2 * l.node
