use Rattle.std.proofs.Common.{◌+◌, ◌*◌}
use Rattle.jh_instance_proofs.proofs.instance_steps.facts.+add_parts.Given as goal

abbrev pub decreases-add_parts : goal.decreases-add_parts
decreases-add_parts l = 2 * l.levels

abbrev pub decreases-add_some : goal.decreases-add_some
decreases-add_some l = 2 * l.levels + 1
