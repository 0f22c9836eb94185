use Rattle.std.proofs.Common.{◌+◌, ◌*◌}
use Rattle.jh_instance_proofs.proofs.instance_steps.witnesses.+witness.Given as goal

abbrev pub decreases-witness : goal.decreases-witness
decreases-witness l = 4 * l.levels

abbrev pub decreases-witness_two : goal.decreases-witness_two
decreases-witness_two l = 4 * l.levels + 1

abbrev pub decreases-witness_half : goal.decreases-witness_half
decreases-witness_half l = 4 * l.levels + 2

abbrev pub decreases-witness_halves : goal.decreases-witness_halves
decreases-witness_halves l = 4 * l.levels + 3

abbrev pub decreases-witness_some : goal.decreases-witness_some
decreases-witness_some l = 4 * l.levels + 1
