use Rattle.std.proofs.Common.{arith, ap, length, sym, ◌∙◌}
use Rattle.jh_digits.proofs.solver.Coordinates.{after_row, radix_row, depth_row, row_number, radix_small, cells_small}
use Rattle.jh_digits.proofs.solver.space.coordinate_after.Goals as goal

pub row_after-requires-clause-row : goal.row_after-requires-clause-row
row_after-requires-clause-row c = row_number c.args.system.now c.args.place _ c.requires.place (ap length c.items-needs.ensures) (omega (arith, ap length c.items-needs.ensures, c.requires.row))

pub row_after-requires-clause-depth : goal.row_after-requires-clause-depth
row_after-requires-clause-depth c =
    rw (c.as_slice-depths.ensures.value, c.items-needs.ensures)
    (c.requires.space.depths c.args.place c.requires.place ∙ depth_row c.args.system.now c.args.place (omega (arith, ap length c.items-needs.ensures, c.requires.row)))

pub row_after-requires-clause-width : goal.row_after-requires-clause-width
row_after-requires-clause-width c =
    rw (c.as_slice-widths.ensures.value, c.items-needs.ensures)
    (c.requires.space.widths c.args.place c.requires.place ∙ radix_row c.args.system.now c.args.place (omega (arith, ap length c.items-needs.ensures, c.requires.row)))

pub row_after-requires-clause-small : goal.row_after-requires-clause-small
row_after-requires-clause-small c =
    rw c.as_slice-widths.ensures.value
    (omega (arith, c.requires.space.widths c.args.place c.requires.place, radix_small c.args.system.now c.args.place c.requires.place, cells_small c.args.system.now c.requires.space.small))

pub returns : goal.returns
returns c = rw c.items-needs.ensures at c.row_after.ensures ∙ sym (after_row c.args.system.now c.args.step c.args.place c.args.value (omega (arith, ap length c.items-needs.ensures, c.requires.row)))
