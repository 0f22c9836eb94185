-- A node of a table and its shape.
use Rattle.std.specs.Prelude.{◌≡◌, ℕ, ◌<◌, true, List, Some, slice_get}
use Rattle.jh_arena.specs.declared.table.shapes.Shape.{Shape}
use Rattle.jh_arena.specs.table.Entries.{Listing}
use Rattle.jh_arena.specs.table.Nodes.{nodes, fits_in, tree_in}
use Rattle.jh_arena.specs.table.Parts.{ArePartsBelow}

-- The node is of this shape: its tree is the shape's, whose parts are nodes before it.
pub record Stands (t : Listing) (node : ℕ) (x : Shape) : Type 0 where
  pub tree : slice_get (nodes t) node ≡ Some (tree_in t x)
  pub fits : fits_in t x ≡ true
  pub below : ArePartsBelow node t.pools.lists x

-- each number of the list is below a place
pub record AreBelow (place : ℕ) (ns : List ℕ) : Type 0 where
  pub below : (i k : ℕ) → slice_get ns i ≡ Some k → k < place
