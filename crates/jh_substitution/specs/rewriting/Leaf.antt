-- The leaves of a tree.
use Rattle.std.specs.Prelude.{ℕ, Bool, true, false}
use Rattle.jh_name.specs.declared.naming.Name.{Name}
use Rattle.jh_name.specs.declared.place.Sort as place
use Rattle.jh_name.specs.declared.place.Sort.TheVariants as Sort
use Rattle.jh_form.specs.Tree.{ValueTree}
use Rattle.jh_form.specs.Tree as t
use Rattle.jh_arena.specs.declared.table.shapes.Shape.{Shape}
use Rattle.jh_arena.specs.declared.table.shapes.Shape.TheVariants as s

-- a free name or a bound variable
unfoldable pub is_leaf : Shape → Bool
is_leaf (s.Bound k) = true
is_leaf (s.FreeObject x) = true
is_leaf (s.FreeNumber x) = true
is_leaf (s.FreeTruth x) = true
is_leaf (s.FreeSet x) = true
is_leaf (s.FreeField x) = true
is_leaf _ = false

-- the shape of the free name of this number and sort
unfoldable pub free_shape : ℕ → place.Sort → Shape
free_shape n Sort.Obj = s.FreeObject n
free_shape n Sort.Int = s.FreeNumber n
free_shape n Sort.Bool = s.FreeTruth n
free_shape n Sort.Set = s.FreeSet n
free_shape n Sort.Field = s.FreeField n

-- the tree of a free name at the sort of a value
abbrev pub free_value : Name → ValueTree → ValueTree
free_value x (t.of_object a) = t.of_object (t.free_object x)
free_value x (t.of_number a) = t.of_number (t.free_number x)
free_value x (t.of_truth a) = t.of_truth (t.free_truth x)
free_value x (t.of_set a) = t.of_set (t.free_set x)
free_value x (t.of_field a) = t.of_field (t.free_field x)
