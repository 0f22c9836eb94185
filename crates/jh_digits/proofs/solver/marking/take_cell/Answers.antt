use Rattle.jh_digits.specs.solver.Table.{taken_of, CanTake}
use Rattle.jh_digits.proofs.solver.marking.take_cell.Goals as goal

pub returns-clause-some : goal.returns-clause-some
unfolding taken_of
returns-clause-some c = c.cell_after.ensures.some

pub returns-clause-can : goal.returns-clause-can
unfolding CanTake
returns-clause-can c = c.cell_after.ensures.range

pub returns-clause-none : goal.returns-clause-none
unfolding CanTake
returns-clause-none c = c.cell_after.ensures.none
