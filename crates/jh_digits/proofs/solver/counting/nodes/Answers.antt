use Rattle.std.proofs.Common.{arith, add-one}
use Rattle.jh_digits.specs.systems.Nodes.{count_max}
use Rattle.jh_digits.proofs.solver.Widths.{width_of_parts}
use Rattle.jh_digits.proofs.solver.Saturation.{saturated_product}
use Rattle.jh_digits.proofs.solver.counting.nodes.Goals as goal

pub loop-row-preserved : goal.loop-row-preserved
loop-row-preserved c = rw (add-one c.loop-row.row) (saturated_product _ _ _ _ _ count_max (omega (arith, c.row_width.ensures, width_of_parts c.args.system.now c.loop-row.row)) c.loop-row.invariant (rw (← c.row_width.ensures) c.saturating_mul-count.ensures))
