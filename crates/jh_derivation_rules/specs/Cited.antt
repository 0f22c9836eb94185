-- The lists of fields of which steps may cite the axioms of reachability, and what such a list came from.
use Rattle.std.specs.Prelude.{Bool, true, not, ◌&&◌, nat_le, List, [], ◌∷◌, length, Option, Some, None}
use Rattle.std.specs.List.{list_any}
use Rattle.jh_form.specs.Tree.{FieldTree, FieldTrees}
use Rattle.jh_form.specs.Tree as t
use Rattle.jh_form.specs.Closed.{is_closed_term, is_closed_field}
use Rattle.jh_seq.specs.jh_boxed_operations.comparison.Exchanged.{equal_trees}
use Rattle.jh_reach.specs.Axioms.{BaseTree}

-- a list of fields as a list
unfoldable pub members : FieldTrees → List FieldTree
members t.none = []
members (t.more f fs) = f ∷ members fs

-- whether both fields are the same tree
abbrev pub are_one : FieldTree → FieldTree → Bool
are_one f g = equal_trees (t.of_field f) (t.of_field g)

-- whether no two of the fields are
unfoldable pub all_differ : List FieldTree → Bool
all_differ [] = true
all_differ (f ∷ fs) = not (list_any (are_one f) fs) && all_differ fs

-- Steps cite axioms of lists of one to four fields, no two of which are the same.
unfoldable pub has_axioms : List FieldTree → Bool
has_axioms fs = nat_le 1 (length fs) && nat_le (length fs) 4 && all_differ fs

-- the update of which a base tells: its field, changed at its object to its value
abbrev pub update_of : BaseTree → FieldTree
update_of u = t.update u.field u.at (t.of_object u.value)

-- the parts of a base have no loose bound variable
unfoldable pub is_closed_base : Option BaseTree → Bool
is_closed_base None = true
is_closed_base (Some u) = is_closed_field u.field 0 && is_closed_term u.at 0 && is_closed_term u.value 0
