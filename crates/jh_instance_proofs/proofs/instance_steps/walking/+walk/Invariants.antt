use Rattle.std.proofs.Common.{◌+◌, ◌*◌}
use Rattle.jh_instance_proofs.proofs.instance_steps.walking.+walk.Given as goal

abbrev pub decreases-walk : goal.decreases-walk
decreases-walk l = 4 * l.levels

abbrev pub decreases-walk_form : goal.decreases-walk_form
decreases-walk_form l = 4 * l.levels + 3

abbrev pub decreases-walk_two : goal.decreases-walk_two
decreases-walk_two l = 4 * l.levels + 1

abbrev pub decreases-walk_half : goal.decreases-walk_half
decreases-walk_half l = 4 * l.levels + 1

abbrev pub decreases-walk_halves : goal.decreases-walk_halves
decreases-walk_halves l = 4 * l.levels + 2

abbrev pub decreases-walk_each : goal.decreases-walk_each
decreases-walk_each l = 4 * l.levels + 1

abbrev pub decreases-walk_some : goal.decreases-walk_some
decreases-walk_some l = 4 * l.levels + 1

abbrev pub decreases-walk_inner : goal.decreases-walk_inner
decreases-walk_inner l = 4 * l.levels + 1
