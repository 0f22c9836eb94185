use Rattle.std.proofs.Common.{◌+◌, ◌*◌}
use Rattle.jh_refutation_proofs.proofs.search_steps.exposing.+is_left.Given as goal

abbrev pub decreases-is_left : goal.decreases-is_left
decreases-is_left l = 2 * l.levels

abbrev pub decreases-is_left_of_one : goal.decreases-is_left_of_one
decreases-is_left_of_one l = 2 * l.levels + 1

abbrev pub decreases-is_left_of_other : goal.decreases-is_left_of_other
decreases-is_left_of_other l = 2 * l.levels + 1
