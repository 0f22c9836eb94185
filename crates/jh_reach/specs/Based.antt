-- What stands in a table at the nodes of what a list of fields came from.
use Rattle.std.specs.Prelude.{◌≡◌, Option, Some, None, slice_get}
use Rattle.jh_form.specs.Tree.{of_object, of_field}
use Rattle.jh_arena.specs.table.Entries.{Listing}
use Rattle.jh_arena.specs.table.Nodes.{nodes}
use Rattle.jh_reach.specs.declared.backbones.Base.{Base}
use Rattle.jh_reach.specs.Axioms.{BaseTree}
use Rattle.jh_reach.specs.Standing.{HoldsField, HoldsObject}

-- A field stands at the node of the field, and objects at the two others.
pub record IsSorted (t : Listing) (w : Base) : Type 0 where
  pub field : HoldsField t w.field
  pub at : HoldsObject t w.at
  pub value : HoldsObject t w.value

-- This field and these objects stand there.
pub record IsThere (t : Listing) (w : Base) (u : BaseTree) : Type 0 where
  pub place : w.place ≡ u.place
  pub field : slice_get (nodes t) w.field ≡ Some (of_field u.field)
  pub at : slice_get (nodes t) w.at ≡ Some (of_object u.at)
  pub value : slice_get (nodes t) w.value ≡ Some (of_object u.value)

-- the same where there is one
unfoldable pub IsSortedBase : Listing → Option Base → Type 0
IsSortedBase t None = Unit {0}
IsSortedBase t (Some w) = IsSorted t w

unfoldable pub IsBaseAt : Listing → Option Base → Option BaseTree → Type 0
IsBaseAt t None None = Unit {0}
IsBaseAt t None (Some u) = ⊥
IsBaseAt t (Some w) None = ⊥
IsBaseAt t (Some w) (Some u) = IsThere t w u
