-- Fields, objects, formulas and lists of fields that stand in a table.
use Rattle.std.specs.Prelude.{◌≡◌, ℕ, zero, suc, Some, slice_get}
use Rattle.jh_form.specs.Tree.{FieldTrees, of_object, of_field, of_truth}
use Rattle.jh_form.specs.Tree as t
use Rattle.jh_arena.specs.table.Entries.{Listing, the_field, the_object, the_truth, the_list, fields_at}
use Rattle.jh_arena.specs.table.Nodes.{nodes}

abbrev pub HoldsField : Listing → ℕ → Type 0
HoldsField t n = slice_get (nodes t) n ≡ Some (of_field (the_field (slice_get (nodes t) n)))

abbrev pub HoldsObject : Listing → ℕ → Type 0
HoldsObject t n = slice_get (nodes t) n ≡ Some (of_object (the_object (slice_get (nodes t) n)))

abbrev pub HoldsFormula : Listing → ℕ → Type 0
HoldsFormula t n = slice_get (nodes t) n ≡ Some (of_truth (the_truth (slice_get (nodes t) n)))

-- the fields of the list of this number
abbrev pub list_at : Listing → ℕ → FieldTrees
list_at t number = fields_at (nodes t) (the_list (slice_get t.pools.lists number))

-- the fields from a place on
abbrev pub fields_from : ℕ → FieldTrees → FieldTrees
fields_from zero fs = fs
fields_from (suc i) t.none = t.none
fields_from (suc i) (t.more f fs) = fields_from i fs
