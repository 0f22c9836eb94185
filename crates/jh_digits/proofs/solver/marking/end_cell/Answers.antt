use Rattle.std.proofs.Common.{◌≡◌}
use Rattle.jh_digits.specs.solver.Closed.{end_of}
use Rattle.jh_digits.proofs.solver.Coordinates.{end_range}
use Rattle.jh_digits.proofs.solver.Found.{found, found_value}
use Rattle.jh_digits.proofs.solver.marking.end_cell.Goals as goal

pub unwrap-requires : goal.unwrap-requires
unwrap-requires c = found c.cell_after.result c.cell_after.ensures.none (end_range c.args.system.now)

pub returns-clause-value : goal.returns-clause-value
unfolding end_of
returns-clause-value c = found_value (λ x. x ≡ end_of c.args.system.now) c.cell_after.result c.unwrap.result c.unwrap.ensures c.cell_after.ensures.some
