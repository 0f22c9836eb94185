use Rattle.std.proofs.Common.{◌+◌, ◌*◌}
use Rattle.jh_query_names.proofs.query_names.gathering.+gathering.Given as goal

-- a node is looked at before its shape, that before its parts, and the parts have smaller numbers
abbrev pub decreases-gather_node : goal.decreases-gather_node
decreases-gather_node l = 4 * l.node + 3

abbrev pub decreases-gather_shape : goal.decreases-gather_shape
decreases-gather_shape l = 4 * l.node + 2

abbrev pub decreases-gather_parts : goal.decreases-gather_parts
decreases-gather_parts l = 4 * l.node + 1

abbrev pub decreases-gather_two : goal.decreases-gather_two
decreases-gather_two l = 4 * l.node
