use Rattle.std.proofs.Common.{◌≡◌, ◌<◌, ◌≤◌, ◌*◌, arith, ap, length, ◌∙◌}
use Rattle.jh_digits.specs.solver.Cells.{coordinates, cell_count, stride, radix}
use Rattle.jh_digits.proofs.solver.Coordinates.{scale_more, cells_small}
use Rattle.jh_digits.proofs.solver.Counts.{nodes_small}
use Rattle.jh_digits.proofs.solver.Flags.{needs_few}
use Rattle.jh_digits.proofs.solver.tables.space_of.Goals as goal

pub width_at-width-requires-clause-place : goal.width_at-width-requires-clause-place
unfolding coordinates
width_at-width-requires-clause-place c = omega (arith, ap length c.items.ensures)

pub width_at-width-requires-clause-small : goal.width_at-width-requires-clause-small
width_at-width-requires-clause-small c = cells_small c.args.system.now (nodes_small c.args.system.now c.requires.small)

pub depth_at-requires-clause-place : goal.depth_at-requires-clause-place
unfolding coordinates
depth_at-requires-clause-place c = omega (arith, ap length c.items.ensures)

pub depth_at-requires-clause-small : goal.depth_at-requires-clause-small
depth_at-requires-clause-small c = cells_small c.args.system.now (nodes_small c.args.system.now c.requires.small)

in_range : (c : goal.In_ok-push-2) → c.loop-place.place < coordinates c.args.system.now
unfolding coordinates
in_range c = omega (arith, ap length c.items.ensures)

all_places : (c : goal.After-flag_count) → c.loop-place.place ≡ coordinates c.args.system.now
unfolding coordinates
all_places c = omega (arith, ap length c.items.ensures)

pub overflow_mul-cells : goal.overflow_mul-cells
overflow_mul-cells c =
    let within : c.loop-place.place < coordinates c.args.system.now = in_range c in
    let fits : c.loop-place.cells * c.width_at-width.result ≤ cell_count c.args.system.now = rw (c.width_at-width.ensures, c.loop-place.invariant.cells) (scale_more c.args.system.now c.loop-place.place within) in
    omega (arith, fits, cells_small c.args.system.now (nodes_small c.args.system.now c.requires.small))

pub masks_of-requires : goal.masks_of-requires
masks_of-requires c = needs_few c.args.system.now (cells_small c.args.system.now (nodes_small c.args.system.now c.requires.small))

pub flag_count-requires : goal.flag_count-requires
flag_count-requires c = needs_few c.args.system.now (cells_small c.args.system.now (nodes_small c.args.system.now c.requires.small))

pub returns : goal.returns
unfolding cell_count
returns c = record {
  widths_count = c.loop-place.invariant.widths_count ∙ all_places c;
  depths_count = c.loop-place.invariant.depths_count ∙ all_places c;
  widths = λ i h. c.loop-place.invariant.widths i (omega (arith, all_places c));
  depths = λ i h. c.loop-place.invariant.depths i (omega (arith, all_places c));
  masks_count = c.in_ok-masks.ensures.count;
  masks = c.in_ok-masks.ensures.masks;
  flags = c.flag_count.ensures;
  cells = c.loop-place.invariant.cells ∙ ap (stride (radix c.args.system.now)) (all_places c);
  small = nodes_small c.args.system.now c.requires.small;
}
