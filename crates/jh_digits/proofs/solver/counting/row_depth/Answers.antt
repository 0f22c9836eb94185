use Rattle.std.proofs.Common.{arith}
use Rattle.jh_digits.specs.solver.Cells.{row_depth}
use Rattle.jh_digits.proofs.solver.counting.row_depth.Goals as goal

pub returns : goal.returns
unfolding row_depth
returns c = omega (arith, c.max.ensures, c.positive_sum-positive.ensures.value, c.minus_right.ensures.value)
