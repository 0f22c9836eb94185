use Rattle.std.proofs.Common.{arith}
use Rattle.jh_digits.proofs.solver.Coordinates.{depth_within, minus_within}
use Rattle.jh_digits.proofs.solver.space.row_after.Goals as goal

pub overflow_add-result : goal.overflow_add-result
overflow_add-result c = omega (arith, depth_within c.args.system.now c.args.row, c.requires.depth, c.requires.width, c.requires.small)

pub overflow_sub-result : goal.overflow_sub-result
overflow_sub-result c = omega (arith, minus_within c.args.system.now c.args.row, c.requires.depth, c.minus_right.ensures.value)

pub overflow_add-sum-in-Halve : goal.overflow_add-sum-in-Halve
overflow_add-sum-in-Halve c = omega (arith, depth_within c.args.system.now c.args.row, c.requires.depth, c.requires.width, c.requires.small)
