-- A list of fields in a table, and what keeps a table's nodes.
use Rattle.std.specs.Prelude.{◌≡◌, ℕ, List, Some, slice_get, true}
use Rattle.jh_form.specs.Tree.{FieldTree, FieldTrees, ValueTree, of_field}
use Rattle.jh_arena.specs.jh_boxed.Parts.{Among, IsChild}
use Rattle.jh_arena.specs.table.Entries.{Listing, are_fields, fields_at}
use Rattle.jh_arena.specs.table.Growth.{AddsOnly}
use Rattle.jh_arena.specs.table.Nodes.{nodes}

-- The list of this number is a list of fields, and these are their trees.
pub record IsList (t : Listing) (number : ℕ) (fs : FieldTrees) : Type 0 where
  pub items : List ℕ
  pub listed : slice_get t.pools.lists number ≡ Some items
  pub fields : are_fields (nodes t) items ≡ true
  pub trees : fields_at (nodes t) items ≡ fs

-- Where the tree is a node of the old table, the new one has no further node.
abbrev pub IsKept : Listing → Listing → ValueTree → Type 0
IsKept old new v = (node : ℕ) → slice_get (nodes old) node ≡ Some v → nodes new ≡ nodes old

-- The first is a part of the second, at any depth, or it itself.
pub data IsPart : ValueTree → ValueTree → Type 0 where
  itself : (v : ValueTree) → IsPart v v
  inside : (u w v : ValueTree) → IsPart u w → IsChild w v → IsPart u v

-- a part of one of the fields of a list
pub record IsPartOfSome (v : ValueTree) (fs : FieldTrees) : Type 0 where
  pub field : FieldTree
  pub among : Among field fs
  pub part : IsPart v (of_field field)

-- Each node of the new table was a node of the old one, at the same place, or is a part of the tree.
abbrev pub AddsParts : Listing → Listing → ValueTree → Type 0
AddsParts old new v = AddsOnly (λ x. IsPart x v) old new

-- or is a part of a field of the list
abbrev pub AddsFields : Listing → Listing → FieldTrees → Type 0
AddsFields old new fs = AddsOnly (λ x. IsPartOfSome x fs) old new
