use Rattle.std.proofs.Common.{arith}
use Rattle.std.proofs.lemmas.Int.{ints}
use Rattle.jh_query_branching.proofs.sides.right_of.Goals as goal

pub returns : goal.returns
returns c = omega (arith, ints, c.minus.ensures, c.minus-first.ensures, c.moved.ensures.value, c.constant.ensures)
