use Rattle.std.proofs.Common.{◌≡◌, ◌-◌, arith, ap, length, sym, ◌∙◌}
use Rattle.jh_digits.specs.solver.Cells.{depth, radix}
use Rattle.jh_digits.specs.systems.Nodes.{width_of}
use Rattle.jh_digits.proofs.solver.Coordinates.{depth_need, depth_row, row_number, radix_small, radix_row, depth_within}
use Rattle.jh_digits.proofs.solver.tables.depth_at.Goals as goal

pub row_depth-requires-clause-row : goal.row_depth-requires-clause-row
row_depth-requires-clause-row c = row_number c.args.system.now c.args.place _ c.requires.place (ap length c.items-needs.ensures) c.if-place-needs.false

is : (c : goal.After-row_depth) → c.row_depth.result ≡ depth c.args.system.now c.args.place
is c = rw c.items-needs.ensures at c.row_depth.ensures ∙ sym (depth_row c.args.system.now c.args.place (omega (arith, ap length c.items-needs.ensures, c.if-place-needs.false)))

row_in : (c : goal.After-row_depth) → radix c.args.system.now c.args.place ≡ width_of c.args.system.now (c.args.place - length c.items-needs.result.now)
row_in c = rw c.items-needs.ensures (radix_row c.args.system.now c.args.place (omega (arith, ap length c.items-needs.ensures, c.if-place-needs.false)))

pub overflow_cast-result : goal.overflow_cast-result
overflow_cast-result c = omega (arith, c.row_depth.ensures, is c, row_in c, depth_within c.args.system.now (c.args.place - length c.items-needs.result.now), radix_small c.args.system.now c.args.place c.requires.place, c.requires.small)

pub returns-then-place-needs : goal.returns-then-place-needs
returns-then-place-needs c = sym (depth_need c.args.system.now c.args.place (omega (arith, ap length c.items-needs.ensures, c.if-place-needs.true)))

pub returns-else-place-needs : goal.returns-else-place-needs
returns-else-place-needs c = is c
