use Rattle.std.proofs.Common.{◌+◌, ◌*◌}
use Rattle.jh_refutation_proofs.proofs.search_steps.falsity.+close_false.Given as goal

abbrev pub decreases-close_level : goal.decreases-close_level
decreases-close_level l = 2 * l.levels

abbrev pub decreases-close_and : goal.decreases-close_and
decreases-close_and l = 2 * l.levels + 1

abbrev pub decreases-close_or : goal.decreases-close_or
decreases-close_or l = 2 * l.levels + 1
