use Rattle.std.proofs.Common.{◌+◌, ◌*◌, ap}
use Rattle.jh_digits.proofs.solver.Closing.{is_table}
use Rattle.jh_digits.proofs.solver.solving.first_table.Goals as goal

pub returns : goal.returns
returns c =
    rw (c.in_ok-table.ensures.items_if_clones_equal (λ y e. e))
    (is_table c.args.system.now ((c.args.system.now.columns + 1) * c.args.space.now.cells) c.start_cell.result (ap (λ n. (c.args.system.now.columns + 1) * n) c.requires.space.cells) c.start_cell.ensures.value)
