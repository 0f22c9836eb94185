use Rattle.jh_digits.specs.solver.Table.{halved_of, CanHalve}
use Rattle.jh_digits.proofs.solver.marking.halve_cell.Goals as goal

pub returns-clause-some : goal.returns-clause-some
unfolding halved_of
returns-clause-some c = c.cell_after.ensures.some

pub returns-clause-can : goal.returns-clause-can
unfolding CanHalve
returns-clause-can c = c.cell_after.ensures.range

pub returns-clause-none : goal.returns-clause-none
unfolding CanHalve
returns-clause-none c = c.cell_after.ensures.none
