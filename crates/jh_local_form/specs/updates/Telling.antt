-- What stands at nodes from which it is said what an update gives.
use Rattle.std.specs.Prelude.{◌≡◌, ℕ, List, Some, slice_get}
use Rattle.jh_name.specs.declared.place.Sort as place
use Rattle.jh_form.specs.Tree.{ValueTree}
use Rattle.jh_form.specs.Sorts.{tree_sort}

-- a value of this sort stands at the node
pub record HoldsSort (ts : List ValueTree) (s : place.Sort) (n : ℕ) : Type 0 where
  pub value : ValueTree
  pub there : slice_get ts n ≡ Some value
  pub sort : tree_sort value ≡ s
