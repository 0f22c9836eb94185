use Rattle.std.proofs.Common.{arith}
use Rattle.jh_digits.proofs.solver.Widths.{width_of_parts}
use Rattle.jh_digits.proofs.solver.counting.row_width.Goals as goal

pub returns : goal.returns
returns c = omega (arith, width_of_parts c.args.system.now c.args.row, c.max-above.ensures, c.max-below.ensures, c.positive_sum-positive.ensures.value, c.negative_sum-negative.ensures.value, c.plus_right.ensures.value, c.minus_right.ensures.value)
