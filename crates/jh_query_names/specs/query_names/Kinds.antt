-- Where the names of a shape are.
use Rattle.std.specs.Prelude.{ℕ, List}
use Rattle.std.specs.List.{flat_map}
use Rattle.std.specs.Prelude.{slice_get}
use Rattle.jh_form.specs.Tree.{ValueTree}
use Rattle.jh_arena.specs.table.Entries.{the_value}
use Rattle.jh_arena.specs.declared.table.shapes.Shape.{Shape}
use Rattle.jh_arena.specs.declared.table.shapes.Shape.TheVariants as s
use Rattle.jh_query_names.specs.declared.query_names.kinds.Kind.{Kind}
use Rattle.jh_query_names.specs.declared.query_names.kinds.Kind.TheVariants as k
use Rattle.jh_query_names.specs.query_names.Gathered.{value_names}

unfoldable pub kind_of : Shape → Kind
kind_of (s.Bound n) = k.Name
kind_of (s.FreeObject n) = k.Name
kind_of s.Null = k.Name
kind_of (s.ReadObject a b) = k.Name
kind_of (s.FreeNumber n) = k.Name
kind_of (s.ReadNumber a b) = k.Name
kind_of (s.FreeSet n) = k.Name
kind_of (s.ReadSet a b) = k.Name
kind_of (s.Compr a) = k.Name
kind_of (s.FreeTruth n) = k.Name
kind_of (s.ReadTruth a b) = k.Name
kind_of (s.FreeField n) = k.Nothing
kind_of (s.Update a b c) = k.Nothing
kind_of (s.All a) = k.Nothing
kind_of (s.Ex a) = k.Nothing
kind_of (s.Reach l a b) = k.Nothing
kind_of (s.Tree l) = k.Nothing
kind_of (s.Mark m a) = k.Nothing
kind_of x = k.Parts

-- the value at a node
abbrev pub value_at : List ValueTree → ℕ → ValueTree
value_at ts n = the_value (slice_get ts n)

-- the names of the values at nodes
abbrev pub names_at : List ValueTree → List ℕ → List ValueTree
names_at ts ns = flat_map (λ n. value_names (value_at ts n)) ns
