use Rattle.std.proofs.Common.{◌≡◌, true}
use Rattle.jh_form.specs.Meaning.{all_below}
use Rattle.jh_query.specs.queries.Linear.{rest_factor}
use Rattle.jh_query.specs.queries.Sides.{side_tree}
use Rattle.jh_query.specs.queries.Size.{capped, fits_at, weight_at}
use Rattle.jh_query.specs.queries.Truth.{sum_below}
use Rattle.jh_query.proofs.queries.rows.rest_weight.Given as goal

abbrev pub invariant-loop-region : goal.invariant-loop-region
invariant-loop-region l = record {
  fits : all_below l.region (fits_at rest_factor (side_tree l.side)) ≡ true;
  sum : l.sum ≡ capped (sum_below l.region (weight_at rest_factor (side_tree l.side)));
}
