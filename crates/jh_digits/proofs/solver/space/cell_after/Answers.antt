use Rattle.std.proofs.Common.{◌≡◌, ◌<◌, ◌≤◌, ◌*◌, ◌+◌, ◌/◌, ℕ, List, length, arith, ap, sym, get_or, add-one, below_more}
use Rattle.std.proofs.lemmas.Nat.{mod_below}
use Rattle.jh_digits.specs.solver.Cells.{radix, stride, cell_count, cell_of, coordinates, next_of}
use Rattle.jh_digits.specs.systems.Nodes.{node_limit}
use Rattle.jh_digits.proofs.solver.Radix.{code_step}
use Rattle.jh_digits.proofs.solver.Coordinates.{radix_pos, scale_more, cells_small}
use Rattle.jh_digits.proofs.solver.Counts.{needs_stride}
use Rattle.jh_digits.proofs.solver.Flags.{needs_few, needs_within, rest_needs, flags_below, next_flag_range}
use Rattle.jh_digits.proofs.solver.space.cell_after.Goals as goal

place_in : (ws items : List ℕ) (place n : ℕ) → ws ≡ items → length items ≡ n → place < length ws → place < n
place_in ws items place n e f h = omega (arith, ap length e)

in_range : (c : goal.After-shared_slice_known-1) → c.loop-place.place < coordinates c.args.system.now
in_range c = place_in _ _ _ _ c.as_slice-widths.ensures.value c.requires.space.widths_count c.loop-place-test.true

width_is : (c : goal.After-shared_slice_known-1) → get_or c.as_slice-widths.result.now c.loop-place.place 0 ≡ radix c.args.system.now c.loop-place.place
width_is c = rw c.as_slice-widths.ensures.value (c.requires.space.widths c.loop-place.place (in_range c))

pub nonzero_rem-rest : goal.nonzero_rem-rest
nonzero_rem-rest c = omega (arith, width_is c, radix_pos c.args.system.now c.loop-place.place)

pub coordinate_after-next-requires-clause-value : goal.coordinate_after-next-requires-clause-value
coordinate_after-next-requires-clause-value c = rw (width_is c) (mod_below c.loop-place.rest (radix c.args.system.now c.loop-place.place) (radix_pos c.args.system.now c.loop-place.place))

in_range' : (c : goal.Else-next-width) → c.loop-place.place < coordinates c.args.system.now
in_range' c = place_in _ _ _ _ c.as_slice-widths.ensures.value c.requires.space.widths_count c.loop-place-test.true

width_is' : (c : goal.Else-next-width) → get_or c.as_slice-widths.result.now c.loop-place.place 0 ≡ radix c.args.system.now c.loop-place.place
width_is' c = rw c.as_slice-widths.ensures.value (c.requires.space.widths c.loop-place.place (in_range' c))

scaled : (c : goal.Else-next-width) → c.loop-place.scale * get_or c.as_slice-widths.result.now c.loop-place.place 0 ≤ node_limit
scaled c =
    rw (width_is' c, c.loop-place.invariant.scale)
    (omega (arith, scale_more c.args.system.now c.loop-place.place (in_range' c), cells_small c.args.system.now c.requires.space.small))

bounded : (c : goal.Else-next-width) → c.loop-place.made + c.coordinate_after-next.result * c.loop-place.scale < c.loop-place.scale * get_or c.as_slice-widths.result.now c.loop-place.place 0
bounded c = code_step c.loop-place.made c.loop-place.scale c.coordinate_after-next.result (get_or c.as_slice-widths.result.now c.loop-place.place 0) c.loop-place.invariant.below c.if-next-width.false

pub overflow_mul-made : goal.overflow_mul-made
overflow_mul-made c = omega (arith, bounded c, scaled c)

pub overflow_add-made : goal.overflow_add-made
overflow_add-made c = omega (arith, bounded c, scaled c)

pub overflow_mul-scale : goal.overflow_mul-scale
overflow_mul-scale c = omega (arith, scaled c)

next_is : (c : goal.Else-next-width) → c.coordinate_after-next.result ≡ next_of c.args.system.now c.args.step c.args.cell c.loop-place.place
next_is c = rw (width_is' c, c.loop-place.invariant.rest) at c.coordinate_after-next.ensures

pub overflow_shr-rest : goal.overflow_shr-rest
overflow_shr-rest c = omega (arith, ap length c.items-needs.ensures, needs_few c.args.system.now (cells_small c.args.system.now c.requires.space.small))

pub loop-place-init : goal.loop-place-init
loop-place-init c = record {
  rows = omega (arith, ap length c.items-needs.ensures);
  within = omega (arith, ap length c.items-needs.ensures, needs_within c.args.system.now);
  rest = rw c.items-needs.ensures (sym (rest_needs c.args.system.now c.args.cell));
  made = rw c.items-needs.ensures c.flags_after-made.ensures;
  scale = rw (c.items-needs.ensures, c.requires.space.flags) (sym (needs_stride c.args.system.now (length c.args.system.now.needs) (omega arith)));
  below = rw (c.flags_after-made.ensures, c.requires.space.flags) (flags_below c.args.system.now c.args.step c.args.cell);
  range = λ i h. next_flag_range c.args.system.now c.args.step c.args.cell i (omega (arith, ap length c.items-needs.ensures, h));
}

pub loop-place-preserved : goal.loop-place-preserved
loop-place-preserved c = record {
  rows = omega (arith, c.loop-place.invariant.rows);
  within = omega (arith, in_range' c);
  rest = rw (add-one c.loop-place.place, width_is' c) (ap (λ x. x / radix c.args.system.now c.loop-place.place) c.loop-place.invariant.rest);
  made = rw (add-one c.loop-place.place, next_is c, c.loop-place.invariant.scale, c.loop-place.invariant.made) (omega arith);
  scale = rw (add-one c.loop-place.place, width_is' c) (ap (λ x. x * radix c.args.system.now c.loop-place.place) c.loop-place.invariant.scale);
  below = bounded c;
  range = below_more _ _ c.loop-place.invariant.range (omega (arith, next_is c, width_is' c, c.if-next-width.false));
}

whole : (ws items : List ℕ) (place n : ℕ) → ws ≡ items → length items ≡ n → length ws ≤ place → place ≤ n → place ≡ n
whole ws items place n e f h k = omega (arith, ap length e)

all_places : (c : goal.After-loop-place) → c.loop-place.place ≡ coordinates c.args.system.now
all_places c = whole _ _ _ _ c.as_slice-widths.ensures.value c.requires.space.widths_count (omega arith) c.loop-place.invariant.within

pub returns-clause-within : goal.returns-clause-within
unfolding cell_count
returns-clause-within c = omega (arith, ap (stride (radix c.args.system.now)) (all_places c), c.loop-place.invariant.scale, c.loop-place.invariant.below)

pub returns-clause-some : goal.returns-clause-some
unfolding cell_of
returns-clause-some c = rw (← all_places c) c.loop-place.invariant.made
