-- What is said of ways along a list of fields, and how its parts stand in a table.
use Rattle.std.specs.Prelude.{◌≡◌, ℕ, List, [], ◌∷◌, Some, slice_get}
use Rattle.jh_form.specs.Tree.{TermTree, FieldTree, FormulaTree, FieldTrees, of_object, of_field, of_truth}
use Rattle.jh_form.specs.Tree as t
use Rattle.jh_arena.specs.table.Entries.{Listing, the_field, the_object, the_truth, the_list, fields_at}
use Rattle.jh_arena.specs.table.Nodes.{nodes}

-- a list of fields as formulas hold it
abbrev pub listed : List FieldTree → FieldTrees
listed [] = t.none
listed (f ∷ fs) = t.more f (listed fs)

-- the object to which a field leads from another
abbrev pub child : FieldTree → TermTree → TermTree
child f a = t.read_object f a

abbrev pub differ : TermTree → TermTree → FormulaTree
differ a b = t.negation (t.eq_object a b)

-- R a b: b is reached from a along the list
abbrev pub way : List FieldTree → TermTree → TermTree → FormulaTree
way fs a b = t.reach (listed fs) a b

-- the fields are the edges of a forest
abbrev pub forest : List FieldTree → FormulaTree
forest fs = t.tree (listed fs)

-- R x y & (R x a --> R y a): along one field, a way that doesn't go on from the object that changed
abbrev pub stops_at : List FieldTree → TermTree → TermTree → TermTree → FormulaTree
stops_at old a x y = t.and (way old x y) (t.implies (way old x a) (way old y a))

-- R x y & ~ (f a ~= null & R x a & R (f a) y): along several fields, a way without the edge that changed
abbrev pub leaves_out : List FieldTree → FieldTree → TermTree → TermTree → TermTree → FormulaTree
leaves_out old f a x y = t.and (way old x y) (t.negation (t.and (differ (child f a) t.null) (t.and (way old x a) (way old (child f a) y))))

-- a field, an object, a formula stands at a node
abbrev pub HoldsField : Listing → ℕ → Type 0
HoldsField t n = slice_get (nodes t) n ≡ Some (of_field (the_field (slice_get (nodes t) n)))

abbrev pub HoldsObject : Listing → ℕ → Type 0
HoldsObject t n = slice_get (nodes t) n ≡ Some (of_object (the_object (slice_get (nodes t) n)))

abbrev pub HoldsFormula : Listing → ℕ → Type 0
HoldsFormula t n = slice_get (nodes t) n ≡ Some (of_truth (the_truth (slice_get (nodes t) n)))

-- the fields of the list of this number
abbrev pub list_at : Listing → ℕ → FieldTrees
list_at t number = fields_at (nodes t) (the_list (slice_get t.pools.lists number))
