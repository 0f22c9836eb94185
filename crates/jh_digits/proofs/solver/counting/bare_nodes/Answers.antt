use Rattle.jh_digits.specs.systems.Nodes.{count_max}
use Rattle.jh_digits.proofs.solver.Saturation.{saturated_double}
use Rattle.jh_digits.proofs.solver.counting.bare_nodes.Goals as goal

pub loop-preserved : goal.loop-preserved
loop-preserved c = saturated_double _ _ _ _ count_max c.loop.invariant c.saturating_mul-count.ensures
