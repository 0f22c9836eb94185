-- How lists of fields and of formulas stand in a table.
use Rattle.std.specs.Prelude.{◌≡◌, ℕ, true, List, [], ◌∷◌, map, Some, slice_get}
use Rattle.jh_form.specs.Tree.{FieldTree, FieldTrees, FormulaTree, ValueTree, of_object, of_field, of_truth}
use Rattle.jh_arena.specs.table.Entries.{Listing, the_field, the_object, the_truth, the_list, are_fields, fields_at}
use Rattle.jh_arena.specs.table.Nodes.{nodes}
pub use Rattle.jh_path_formulas.specs.Ways.{HoldsField, HoldsObject, HoldsFormula, list_at}

-- at these nodes stand these fields, one by one
unfoldable pub AreFields : Listing → List ℕ → List FieldTree → Type 0
AreFields t [] [] = Unit {0}
AreFields t [] (f ∷ fs) = ⊥
AreFields t (n ∷ ns) [] = ⊥
AreFields t (n ∷ ns) (f ∷ fs) = (slice_get (nodes t) n ≡ Some (of_field f)) × AreFields t ns fs

-- at these nodes stand these formulas, one by one
unfoldable pub AreFormulas : Listing → List ℕ → List FormulaTree → Type 0
AreFormulas t [] [] = Unit {0}
AreFormulas t [] (a ∷ rest) = ⊥
AreFormulas t (n ∷ ns) [] = ⊥
AreFormulas t (n ∷ ns) (a ∷ rest) = (slice_get (nodes t) n ≡ Some (of_truth a)) × AreFormulas t ns rest

-- the fields at these nodes
abbrev pub fields_in : List ValueTree → List ℕ → List FieldTree
fields_in ts ns = map (λ n. the_field (slice_get ts n)) ns

-- The list of this number has these nodes, which are fields.
pub record IsAlong (t : Listing) (number : ℕ) (ns : List ℕ) : Type 0 where
  pub named : slice_get t.pools.lists number ≡ Some ns
  pub are : are_fields (nodes t) ns ≡ true
