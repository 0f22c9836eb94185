-- Which names link hypotheses.
use Rattle.std.specs.Prelude.{Bool, true, false, not, if◌then◌else◌}
use Rattle.jh_name.specs.declared.place.Sort as place
use Rattle.jh_name.specs.declared.place.Sort.TheVariants as Sort
use Rattle.jh_form.specs.Tree.{ValueTree}
use Rattle.jh_form.specs.Tree as t
use Rattle.jh_arena.specs.declared.table.shapes.Shape.{Shape}
use Rattle.jh_arena.specs.declared.table.shapes.Shape.TheVariants as s
use Rattle.jh_approx.specs.definition.Links.{links, links_more}

-- a name that links, where the goal has a set or a number that does, and else
unfoldable pub linking : Bool → ValueTree → Bool
linking few v = if few then links v else links_more v

-- whether names of this sort link, but class sets and null
unfoldable pub sort_links : Bool → place.Sort → Bool
sort_links few Sort.Obj = not few
sort_links few Sort.Int = true
sort_links few Sort.Bool = not few
sort_links few Sort.Set = true
sort_links few Sort.Field = false

-- a set that is free, and null: their sort doesn't say whether they link
unfoldable pub is_apart : ValueTree → Bool
is_apart (t.of_set (t.free_set x)) = true
is_apart (t.of_object t.null) = true
is_apart v = false

unfoldable pub is_apart_shape : Shape → Bool
is_apart_shape (s.FreeSet n) = true
is_apart_shape s.Null = true
is_apart_shape x = false
