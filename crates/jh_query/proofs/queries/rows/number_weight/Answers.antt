use Rattle.std.proofs.Common.{arith}
use Rattle.jh_query.specs.queries.Linear.{number_factor}
use Rattle.jh_query.specs.queries.Sides.{side_tree}
use Rattle.jh_query.specs.queries.Size.{fits_at, weight_at}
use Rattle.jh_query.proofs.queries.Below.{one-fails, one-more, sum-more}
use Rattle.jh_query.proofs.queries.rows.number_weight.Goals as goal

pub returns-in_default : goal.returns-in_default
returns-in_default c = one-fails c.args.numbers c.loop-number.number (fits_at number_factor (side_tree c.args.side.now)) (omega arith) c.in_default.ensures

pub loop-number-preserved : goal.loop-number-preserved
loop-number-preserved c = record {
  fits = one-more c.loop-number.number (fits_at number_factor (side_tree c.args.side.now)) c.loop-number.invariant.fits c.in-Some.ensures.0;
  sum = sum-more c.loop-number.number (weight_at number_factor (side_tree c.args.side.now)) _ _ _ c.loop-number.invariant.sum c.in-Some.ensures.1 c.plus-sum.ensures;
}
