use Rattle.std.proofs.Common.{◌<◌, ap, length, arith, add-one}
use Rattle.jh_digits.proofs.solver.Flags.{mask_more, mask_few, power_more}
use Rattle.jh_digits.proofs.solver.tables.mask_at.Goals as goal

pub loop-place-preserved : goal.loop-place-preserved
loop-place-preserved c =
    let inside : c.loop-place.place < length c.args.system.now.needs = omega (arith, ap length c.items-place-end.ensures, c.loop-place-test.true) in
    record {
      mask = rw (add-one c.loop-place.place, c.bit_if-mask.ensures.value) (mask_more c.args.system.now c.args.column c.loop-place.place c.loop-place.mask c.loop-place.bit c.names_at.result inside c.names_at.ensures c.loop-place.invariant.mask c.loop-place.invariant.bit);
      bit = rw (add-one c.loop-place.place) (power_more c.loop-place.place c.loop-place.bit c.loop-place.invariant.bit);
      below = rw c.bit_if-mask.ensures.value (mask_few c.loop-place.mask c.loop-place.bit c.names_at.result c.loop-place.invariant.below);
    }
