use Rattle.std.proofs.Common.{◌≡◌, ◌≤◌, ◌&&◌}
use Rattle.jh_form.specs.Meaning.{count_below}
use Rattle.jh_query.specs.queries.Bare.{set_tree}
use Rattle.jh_query.specs.queries.Truth.{class_lies, is_first}
use Rattle.jh_query.proofs.queries.counting.classes_inside.Given as goal

abbrev pub invariant-loop-element : goal.invariant-loop-element
invariant-loop-element l = record {
  value : l.count ≡ count_below l.element (λ i. is_first l.spots i && class_lies l.spots i (set_tree l.set));
  bound : l.count ≤ l.element;
}
