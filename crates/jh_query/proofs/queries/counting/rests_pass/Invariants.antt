use Rattle.std.proofs.Common.{◌≡◌, ◌==◌, ◌||◌, map, get_or}
use Rattle.jh_form.specs.Meaning.{all_below}
use Rattle.jh_query.specs.queries.Bare.{set_tree}
use Rattle.jh_query.specs.queries.Comparing.{test_of}
use Rattle.jh_query.specs.queries.Sizing.{spelled}
use Rattle.jh_query.specs.queries.Truth.{rest_lies}
use Rattle.jh_query.proofs.queries.counting.rests_pass.Given as goal

abbrev pub invariant-loop-region : goal.invariant-loop-region
invariant-loop-region l = l.all ≡ all_below l.region (λ r. get_or (map spelled l.rest) r 0 == 0 || test_of l.comparison (rest_lies r (set_tree l.left)) (rest_lies r (set_tree l.right)))
