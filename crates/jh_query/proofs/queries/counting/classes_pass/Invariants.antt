use Rattle.std.proofs.Common.{◌≡◌}
use Rattle.jh_form.specs.Meaning.{all_below}
use Rattle.jh_query.specs.queries.Bare.{set_tree}
use Rattle.jh_query.specs.queries.Comparing.{test_of}
use Rattle.jh_query.specs.queries.Truth.{class_lies}
use Rattle.jh_query.proofs.queries.counting.classes_pass.Given as goal

abbrev pub invariant-loop-element : goal.invariant-loop-element
invariant-loop-element l = l.all ≡ all_below l.element (λ i. test_of l.comparison (class_lies l.spots i (set_tree l.left)) (class_lies l.spots i (set_tree l.right)))
