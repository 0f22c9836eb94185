-- Parts that are asked for.
use Rattle.std.specs.Prelude.{Bool, true, false}
use Rattle.jh_form.specs.Tree.{ValueTree}
use Rattle.jh_form.specs.Tree as t
use Rattle.jh_form.specs.Closed.{is_closed_term}
use Rattle.jh_arena.specs.declared.table.shapes.Shape.{Shape}
use Rattle.jh_arena.specs.declared.table.shapes.Shape.TheVariants as s

-- a term for an object without loose bound variables
unfoldable pub is_closed_object : ValueTree → Bool
is_closed_object (t.of_object a) = is_closed_term a 0
is_closed_object _ = false

-- an update of a field
unfoldable pub is_update : ValueTree → Bool
is_update (t.of_field (t.update a b c)) = true
is_update _ = false

-- a formula that speaks of a list of fields
unfoldable pub is_field_list : ValueTree → Bool
is_field_list (t.of_truth (t.reach fs a b)) = true
is_field_list (t.of_truth (t.tree fs)) = true
is_field_list _ = false

-- a free name, at any sort
unfoldable pub is_free_name : ValueTree → Bool
is_free_name (t.of_object (t.free_object x)) = true
is_free_name (t.of_number (t.free_number x)) = true
is_free_name (t.of_truth (t.free_truth x)) = true
is_free_name (t.of_set (t.free_set x)) = true
is_free_name (t.of_field (t.free_field x)) = true
is_free_name _ = false

unfoldable pub is_update_shape : Shape → Bool
is_update_shape (s.Update a b c) = true
is_update_shape _ = false

unfoldable pub is_field_list_shape : Shape → Bool
is_field_list_shape (s.Reach l a b) = true
is_field_list_shape (s.Tree l) = true
is_field_list_shape _ = false

unfoldable pub is_free_name_shape : Shape → Bool
is_free_name_shape (s.FreeObject n) = true
is_free_name_shape (s.FreeNumber n) = true
is_free_name_shape (s.FreeTruth n) = true
is_free_name_shape (s.FreeSet n) = true
is_free_name_shape (s.FreeField n) = true
is_free_name_shape _ = false
