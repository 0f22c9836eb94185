-- Nodes of a sort.
use Rattle.std.specs.Prelude.{ℕ, Bool, List, filter}
use Rattle.jh_name.specs.declared.place.Sort.{Sort}
use Rattle.jh_form.specs.Sorts.{tree_sort, same_sort}
use Rattle.jh_form.specs.Tree.{ValueTree}
use Rattle.jh_query_names.specs.query_names.Kinds.{value_at}

-- whether the value at a node has this sort
abbrev pub has_sort : List ValueTree → Sort → ℕ → Bool
has_sort ts sort n = same_sort (tree_sort (value_at ts n)) sort

-- the nodes that have this sort
abbrev pub of_sort : List ValueTree → Sort → List ℕ → List ℕ
of_sort ts sort ns = filter (has_sort ts sort) ns
