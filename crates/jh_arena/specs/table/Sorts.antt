-- The sort of a shape.
use Rattle.jh_boxed.specs.jh_name.declared.place.Sort as place
use Rattle.jh_boxed.specs.jh_name.declared.place.Sort.TheVariants as Sort
use Rattle.jh_arena.specs.declared.table.shapes.Shape.{Shape}
use Rattle.jh_arena.specs.declared.table.shapes.Shape.TheVariants as s

-- the sort of a shape
unfoldable pub shape_sort : Shape → place.Sort
shape_sort (s.Bound k) = Sort.Obj
shape_sort (s.FreeObject n) = Sort.Obj
shape_sort s.Null = Sort.Obj
shape_sort (s.ReadObject a b) = Sort.Obj
shape_sort (s.Const z) = Sort.Int
shape_sort (s.FreeNumber n) = Sort.Int
shape_sort (s.ReadNumber a b) = Sort.Int
shape_sort (s.Add a b) = Sort.Int
shape_sort (s.Sub a b) = Sort.Int
shape_sort (s.Neg a) = Sort.Int
shape_sort (s.Scale z a) = Sort.Int
shape_sort (s.Card a) = Sort.Int
shape_sort (s.FreeSet n) = Sort.Set
shape_sort (s.ReadSet a b) = Sort.Set
shape_sort s.Empty = Sort.Set
shape_sort s.Univ = Sort.Set
shape_sort (s.Single a) = Sort.Set
shape_sort (s.Union a b) = Sort.Set
shape_sort (s.Inter a b) = Sort.Set
shape_sort (s.Diff a b) = Sort.Set
shape_sort (s.Compl a) = Sort.Set
shape_sort (s.Compr a) = Sort.Set
shape_sort (s.FreeField n) = Sort.Field
shape_sort (s.Update a b c) = Sort.Field
shape_sort _ = Sort.Bool
