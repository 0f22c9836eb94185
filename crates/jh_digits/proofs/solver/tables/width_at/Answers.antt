use Rattle.std.proofs.Common.{◌≡◌, arith, ap, length, sym, ◌∙◌}
use Rattle.jh_digits.specs.solver.Cells.{radix}
use Rattle.jh_digits.proofs.solver.Coordinates.{radix_need, radix_row, row_number, radix_small, radix_row}
use Rattle.jh_digits.proofs.solver.tables.width_at.Goals as goal

pub row_width-requires-clause-row : goal.row_width-requires-clause-row
row_width-requires-clause-row c = row_number c.args.system.now c.args.place _ c.requires.place (ap length c.items-needs.ensures) c.if-place-needs.false

is : (c : goal.After-row_width) → c.row_width.result ≡ radix c.args.system.now c.args.place
is c = rw c.items-needs.ensures at c.row_width.ensures ∙ sym (radix_row c.args.system.now c.args.place (omega (arith, ap length c.items-needs.ensures, c.if-place-needs.false)))

pub overflow_cast-result : goal.overflow_cast-result
overflow_cast-result c = omega (arith, is c, radix_small c.args.system.now c.args.place c.requires.place, c.requires.small)

pub returns-then-place-needs : goal.returns-then-place-needs
returns-then-place-needs c = sym (radix_need c.args.system.now c.args.place (omega (arith, ap length c.items-needs.ensures, c.if-place-needs.true)))

pub returns-else-place-needs : goal.returns-else-place-needs
returns-else-place-needs c = is c
