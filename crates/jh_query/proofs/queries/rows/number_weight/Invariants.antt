use Rattle.std.proofs.Common.{◌≡◌, true}
use Rattle.jh_form.specs.Meaning.{all_below}
use Rattle.jh_query.specs.queries.Linear.{number_factor}
use Rattle.jh_query.specs.queries.Sides.{side_tree}
use Rattle.jh_query.specs.queries.Size.{capped, fits_at, weight_at}
use Rattle.jh_query.specs.queries.Truth.{sum_below}
use Rattle.jh_query.proofs.queries.rows.number_weight.Given as goal

abbrev pub invariant-loop-number : goal.invariant-loop-number
invariant-loop-number l = record {
  fits : all_below l.number (fits_at number_factor (side_tree l.side)) ≡ true;
  sum : l.sum ≡ capped (sum_below l.number (weight_at number_factor (side_tree l.side)));
}
