-- One value for another, wherever it stands.
use Rattle.std.specs.Prelude.{◌≡◌, ℕ, true, if◌then◌else◌, Option, Some, None, is_some, slice_get}
use Rattle.jh_form.specs.Tree.{ValueTree}
use Rattle.jh_form.specs.Tree as t
use Rattle.jh_form.specs.Closed.{is_closed_value}
use Rattle.jh_form.specs.Sorts.{tree_sort}
use Rattle.jh_boxed_operations.specs.comparison.Exchanged.{equal_trees}
use Rattle.jh_arena.specs.table.Entries.{Listing, the_value}
use Rattle.jh_arena.specs.table.Nodes.{nodes}
use Rattle.jh_substitution.specs.rewriting.Rewritten.{Rewriting, object_or, number_or, truth_or, set_or, field_or}

-- the new value where the part is the old one, labels included
abbrev pub new_for : ValueTree → ValueTree → ValueTree → Option ValueTree
new_for old new v = if equal_trees v old then Some new else None

-- The new value stands for each part that is the old one. Bound variables stay.
abbrev pub exchanging : ValueTree → ValueTree → Rewriting
exchanging old new = record {
  leaves = record {
    object_at = λ x d. object_or (new_for old new (t.of_object (t.free_object x))) (t.free_object x);
    number_at = λ x d. number_or (new_for old new (t.of_number (t.free_number x))) (t.free_number x);
    truth_at = λ x d. truth_or (new_for old new (t.of_truth (t.free_truth x))) (t.free_truth x);
    set_at = λ x d. set_or (new_for old new (t.of_set (t.free_set x))) (t.free_set x);
    field_at = λ x d. field_or (new_for old new (t.of_field (t.free_field x))) (t.free_field x);
    bound_at = λ k d. t.bound k;
  };
  whole_at = λ v d. new_for old new v;
}

-- Both nodes stand in the table and are of one sort, and the old one has no loose bound variables.
pub record CanExchange (from to : ℕ) (t : Listing) : Type 0 where
  pub old : is_some (slice_get (nodes t) from) ≡ true
  pub new : is_some (slice_get (nodes t) to) ≡ true
  pub sort : tree_sort (the_value (slice_get (nodes t) to)) ≡ tree_sort (the_value (slice_get (nodes t) from))
  pub closed : is_closed_value (the_value (slice_get (nodes t) from)) 0 ≡ true
