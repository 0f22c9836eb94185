-- What each comparison of two sets allows.
use Rattle.std.specs.Prelude.{Bool}
use Rattle.jh_form.specs.Meaning.{agree}
use Rattle.jh_query.specs.declared.queries.counting.Comparison.{Comparison}
use Rattle.jh_query.specs.declared.queries.counting.Comparison.TheVariants.{Equal, Within}
use Rattle.jh_query.specs.queries.Truth.{implied}

abbrev pub test_of : Comparison → Bool → Bool → Bool
test_of Equal p q = agree p q
test_of Within p q = implied p q
