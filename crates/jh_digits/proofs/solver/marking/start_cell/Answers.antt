use Rattle.std.proofs.Common.{◌≡◌}
use Rattle.jh_digits.specs.solver.Closed.{start_of}
use Rattle.jh_digits.proofs.solver.Coordinates.{start_range}
use Rattle.jh_digits.proofs.solver.Found.{found, found_value}
use Rattle.jh_digits.proofs.solver.marking.start_cell.Goals as goal

pub unwrap-requires : goal.unwrap-requires
unwrap-requires c = found c.cell_after.result c.cell_after.ensures.none (start_range c.args.system.now)

pub returns-clause-value : goal.returns-clause-value
unfolding start_of
returns-clause-value c = found_value (λ x. x ≡ start_of c.args.system.now) c.cell_after.result c.unwrap.result c.unwrap.ensures c.cell_after.ensures.some
