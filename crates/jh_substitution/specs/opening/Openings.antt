-- A term in place of the variable of a binder.
use Rattle.std.specs.Prelude.{◌≡◌, ℕ, false, true, List, Some, slice_get}
use Rattle.jh_boxed_operations.specs.substitution.Opened.{opening}
use Rattle.jh_arena.specs.table.Entries.{Listing, the_object}
use Rattle.jh_arena.specs.table.Nodes.{nodes, tree_in, fits_in}
use Rattle.jh_arena.specs.table.Parts.{ArePartsBelow}
use Rattle.jh_arena.specs.declared.table.shapes.Shape.{Shape}
use Rattle.jh_substitution.specs.rewriting.Leaf.{is_leaf}
use Rattle.jh_substitution.specs.rewriting.Rewritten.{Rewriting, leaves_alone}
use Rattle.jh_substitution.specs.rewriting.Walks.{IsRewritten, AllRewritten}

-- the term at a node stands for the binder's own variable
abbrev pub opening_with : Listing → ℕ → Rewriting
opening_with t w = leaves_alone (opening (the_object (slice_get (nodes t) w)))

-- the tree at node r is that at node k with the term in it, where d binders count as passed
abbrev pub IsOpened : Listing → ℕ → ℕ → ℕ → ℕ → Type 0
IsOpened t w k d r = IsRewritten (opening_with t w) (nodes t) k d r

-- each node of the second list is that of the first with the term in it
abbrev pub AreOpened : Listing → ℕ → ℕ → List ℕ → List ℕ → Type 0
AreOpened t w d ps rs = AllRewritten (opening_with t w) (nodes t) d ps rs

-- The node has this shape, which is no leaf.
pub record IsInner (t : Listing) (n : ℕ) (x : Shape) : Type 0 where
  pub there : slice_get (nodes t) n ≡ Some (tree_in t x)
  pub fits : fits_in t x ≡ true
  pub below : ArePartsBelow n t.pools.lists x
  pub inner : is_leaf x ≡ false
