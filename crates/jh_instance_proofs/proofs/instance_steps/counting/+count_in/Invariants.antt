use Rattle.std.proofs.Common.{◌+◌, ◌*◌}
use Rattle.jh_instance_proofs.proofs.instance_steps.counting.+count_in.Given as goal

abbrev pub decreases-count_in : goal.decreases-count_in
decreases-count_in l = 3 * l.levels

abbrev pub decreases-counts_of_two : goal.decreases-counts_of_two
decreases-counts_of_two l = 3 * l.levels + 1

abbrev pub decreases-counts_of_halves : goal.decreases-counts_of_halves
decreases-counts_of_halves l = 3 * l.levels + 2
