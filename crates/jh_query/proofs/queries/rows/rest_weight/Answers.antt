use Rattle.std.proofs.Common.{◌^◌, arith}
use Rattle.std.proofs.lemmas.Nat.{one_shl}
use Rattle.jh_query.specs.queries.Linear.{rest_factor}
use Rattle.jh_query.specs.queries.Sides.{side_tree}
use Rattle.jh_query.specs.queries.Size.{fits_at, weight_at}
use Rattle.jh_query.proofs.queries.Below.{one-fails, one-more, sum-more}
use Rattle.jh_query.proofs.queries.rows.rest_weight.Goals as goal

pub returns-in_default : goal.returns-in_default
returns-in_default c = one-fails (2 ^ c.args.sets) c.loop-region.region (fits_at rest_factor (side_tree c.args.side.now)) (omega (arith, one_shl c.args.sets 64 (omega arith), c.loop-region-test.true)) c.in_default.ensures

pub loop-region-preserved : goal.loop-region-preserved
loop-region-preserved c = record {
  fits = one-more c.loop-region.region (fits_at rest_factor (side_tree c.args.side.now)) c.loop-region.invariant.fits c.in-Some.ensures.0;
  sum = sum-more c.loop-region.region (weight_at rest_factor (side_tree c.args.side.now)) _ _ _ c.loop-region.invariant.sum c.in-Some.ensures.1 c.plus-sum.ensures;
}
