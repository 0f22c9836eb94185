-- Written by tools/table.py.
-- The tree of each node of a table.
use Rattle.std.specs.Prelude.{Bool, true, ◌&&◌, List, [], ◌∷◌, ◌++◌, is_some, slice_get}
use Rattle.jh_form.specs.Tree.{TermTree, IntTree, SetTree, FieldTree, ValueTree, FormulaTree, FieldTrees, of_object, of_number, of_truth, of_set, of_field, none, more}
use Rattle.jh_form.specs.Tree as t
use Rattle.jh_arena.specs.table.Entries.{Pools, Listing, the_name, the_mark, the_list, is_object, is_number, is_set, is_field, is_truth, the_object, the_number, the_set, the_field, the_truth, the_value, are_fields, fields_at}
use Rattle.jh_arena.specs.declared.table.shapes.Shape.{Shape}
use Rattle.jh_arena.specs.declared.table.shapes.Shape.TheVariants as s

module _ (p : Pools) (ts : List ValueTree) where
  -- The parts of a shape stand in the list, each at its sort, and its name, label or list of fields in the
  -- pools.
  unfoldable pub fits : Shape → Bool
  fits (s.Bound k) = true
  fits (s.FreeObject n) = is_some (slice_get p.names n)
  fits s.Null = true
  fits (s.ReadObject a b) = is_field (slice_get ts a) && is_object (slice_get ts b)
  fits (s.Const z) = true
  fits (s.FreeNumber n) = is_some (slice_get p.names n)
  fits (s.ReadNumber a b) = is_field (slice_get ts a) && is_object (slice_get ts b)
  fits (s.Add a b) = is_number (slice_get ts a) && is_number (slice_get ts b)
  fits (s.Sub a b) = is_number (slice_get ts a) && is_number (slice_get ts b)
  fits (s.Neg a) = is_number (slice_get ts a)
  fits (s.Scale z a) = is_number (slice_get ts a)
  fits (s.Card a) = is_set (slice_get ts a)
  fits (s.FreeSet n) = is_some (slice_get p.names n)
  fits (s.ReadSet a b) = is_field (slice_get ts a) && is_object (slice_get ts b)
  fits s.Empty = true
  fits s.Univ = true
  fits (s.Single a) = is_object (slice_get ts a)
  fits (s.Union a b) = is_set (slice_get ts a) && is_set (slice_get ts b)
  fits (s.Inter a b) = is_set (slice_get ts a) && is_set (slice_get ts b)
  fits (s.Diff a b) = is_set (slice_get ts a) && is_set (slice_get ts b)
  fits (s.Compl a) = is_set (slice_get ts a)
  fits (s.Compr a) = is_truth (slice_get ts a)
  fits (s.FreeField n) = is_some (slice_get p.names n)
  fits (s.Update a b c) = is_field (slice_get ts a) && is_object (slice_get ts b) && is_some (slice_get ts c)
  fits s.True = true
  fits s.False = true
  fits (s.FreeTruth n) = is_some (slice_get p.names n)
  fits (s.ReadTruth a b) = is_field (slice_get ts a) && is_object (slice_get ts b)
  fits (s.Negation a) = is_truth (slice_get ts a)
  fits (s.And a b) = is_truth (slice_get ts a) && is_truth (slice_get ts b)
  fits (s.Or a b) = is_truth (slice_get ts a) && is_truth (slice_get ts b)
  fits (s.Implies a b) = is_truth (slice_get ts a) && is_truth (slice_get ts b)
  fits (s.Iff a b) = is_truth (slice_get ts a) && is_truth (slice_get ts b)
  fits (s.All a) = is_truth (slice_get ts a)
  fits (s.Ex a) = is_truth (slice_get ts a)
  fits (s.EqObject a b) = is_object (slice_get ts a) && is_object (slice_get ts b)
  fits (s.EqNumber a b) = is_number (slice_get ts a) && is_number (slice_get ts b)
  fits (s.EqSet a b) = is_set (slice_get ts a) && is_set (slice_get ts b)
  fits (s.Less a b) = is_number (slice_get ts a) && is_number (slice_get ts b)
  fits (s.LessEqual a b) = is_number (slice_get ts a) && is_number (slice_get ts b)
  fits (s.Divides z a) = is_number (slice_get ts a)
  fits (s.Member a b) = is_object (slice_get ts a) && is_set (slice_get ts b)
  fits (s.Subset a b) = is_set (slice_get ts a) && is_set (slice_get ts b)
  fits (s.Reach l a b) = is_some (slice_get p.lists l) && are_fields ts (the_list (slice_get p.lists l)) && is_object (slice_get ts a) && is_object (slice_get ts b)
  fits (s.Tree l) = is_some (slice_get p.lists l) && are_fields ts (the_list (slice_get p.lists l))
  fits (s.Mark m a) = is_some (slice_get p.marks m) && is_truth (slice_get ts a)

  -- the tree of a shape whose parts stand in the list
  unfoldable pub shape_tree : Shape → ValueTree
  shape_tree (s.Bound k) = of_object (t.bound k)
  shape_tree (s.FreeObject n) = of_object (t.free_object (the_name (slice_get p.names n)))
  shape_tree s.Null = of_object t.null
  shape_tree (s.ReadObject a b) = of_object (t.read_object (the_field (slice_get ts a)) (the_object (slice_get ts b)))
  shape_tree (s.Const z) = of_number (t.const z)
  shape_tree (s.FreeNumber n) = of_number (t.free_number (the_name (slice_get p.names n)))
  shape_tree (s.ReadNumber a b) = of_number (t.read_number (the_field (slice_get ts a)) (the_object (slice_get ts b)))
  shape_tree (s.Add a b) = of_number (t.add (the_number (slice_get ts a)) (the_number (slice_get ts b)))
  shape_tree (s.Sub a b) = of_number (t.sub (the_number (slice_get ts a)) (the_number (slice_get ts b)))
  shape_tree (s.Neg a) = of_number (t.neg (the_number (slice_get ts a)))
  shape_tree (s.Scale z a) = of_number (t.scale z (the_number (slice_get ts a)))
  shape_tree (s.Card a) = of_number (t.card (the_set (slice_get ts a)))
  shape_tree (s.FreeSet n) = of_set (t.free_set (the_name (slice_get p.names n)))
  shape_tree (s.ReadSet a b) = of_set (t.read_set (the_field (slice_get ts a)) (the_object (slice_get ts b)))
  shape_tree s.Empty = of_set t.empty
  shape_tree s.Univ = of_set t.univ
  shape_tree (s.Single a) = of_set (t.single (the_object (slice_get ts a)))
  shape_tree (s.Union a b) = of_set (t.union (the_set (slice_get ts a)) (the_set (slice_get ts b)))
  shape_tree (s.Inter a b) = of_set (t.inter (the_set (slice_get ts a)) (the_set (slice_get ts b)))
  shape_tree (s.Diff a b) = of_set (t.diff (the_set (slice_get ts a)) (the_set (slice_get ts b)))
  shape_tree (s.Compl a) = of_set (t.compl (the_set (slice_get ts a)))
  shape_tree (s.Compr a) = of_set (t.compr (the_truth (slice_get ts a)))
  shape_tree (s.FreeField n) = of_field (t.free_field (the_name (slice_get p.names n)))
  shape_tree (s.Update a b c) = of_field (t.update (the_field (slice_get ts a)) (the_object (slice_get ts b)) (the_value (slice_get ts c)))
  shape_tree s.True = of_truth t.true_formula
  shape_tree s.False = of_truth t.false_formula
  shape_tree (s.FreeTruth n) = of_truth (t.free_truth (the_name (slice_get p.names n)))
  shape_tree (s.ReadTruth a b) = of_truth (t.read_truth (the_field (slice_get ts a)) (the_object (slice_get ts b)))
  shape_tree (s.Negation a) = of_truth (t.negation (the_truth (slice_get ts a)))
  shape_tree (s.And a b) = of_truth (t.and (the_truth (slice_get ts a)) (the_truth (slice_get ts b)))
  shape_tree (s.Or a b) = of_truth (t.or (the_truth (slice_get ts a)) (the_truth (slice_get ts b)))
  shape_tree (s.Implies a b) = of_truth (t.implies (the_truth (slice_get ts a)) (the_truth (slice_get ts b)))
  shape_tree (s.Iff a b) = of_truth (t.iff (the_truth (slice_get ts a)) (the_truth (slice_get ts b)))
  shape_tree (s.All a) = of_truth (t.all (the_truth (slice_get ts a)))
  shape_tree (s.Ex a) = of_truth (t.ex (the_truth (slice_get ts a)))
  shape_tree (s.EqObject a b) = of_truth (t.eq_object (the_object (slice_get ts a)) (the_object (slice_get ts b)))
  shape_tree (s.EqNumber a b) = of_truth (t.eq_number (the_number (slice_get ts a)) (the_number (slice_get ts b)))
  shape_tree (s.EqSet a b) = of_truth (t.eq_set (the_set (slice_get ts a)) (the_set (slice_get ts b)))
  shape_tree (s.Less a b) = of_truth (t.less (the_number (slice_get ts a)) (the_number (slice_get ts b)))
  shape_tree (s.LessEqual a b) = of_truth (t.less_equal (the_number (slice_get ts a)) (the_number (slice_get ts b)))
  shape_tree (s.Divides z a) = of_truth (t.divides z (the_number (slice_get ts a)))
  shape_tree (s.Member a b) = of_truth (t.member (the_object (slice_get ts a)) (the_set (slice_get ts b)))
  shape_tree (s.Subset a b) = of_truth (t.subset (the_set (slice_get ts a)) (the_set (slice_get ts b)))
  shape_tree (s.Reach l a b) = of_truth (t.reach (fields_at ts (the_list (slice_get p.lists l))) (the_object (slice_get ts a)) (the_object (slice_get ts b)))
  shape_tree (s.Tree l) = of_truth (t.tree (fields_at ts (the_list (slice_get p.lists l))))
  shape_tree (s.Mark m a) = of_truth (t.mark (the_mark (slice_get p.marks m)) (the_truth (slice_get ts a)))

module _ (p : Pools) where
  -- the list of trees after these shapes are added to it
  unfoldable pub listed : List ValueTree → List Shape → List ValueTree
  listed ts [] = ts
  listed ts (x ∷ xs) = listed (ts ++ shape_tree p ts x ∷ []) xs

  -- each shape fits the trees before it
  unfoldable pub well : List ValueTree → List Shape → Bool
  well ts [] = true
  well ts (x ∷ xs) = fits p ts x && well (ts ++ shape_tree p ts x ∷ []) xs

-- the trees of a table's nodes, in the order in which they were made
abbrev pub nodes : Listing → List ValueTree
nodes t = listed t.pools [] t.shapes

-- whether a shape's parts are nodes of the table, each of its sort
abbrev pub fits_in : Listing → Shape → Bool
fits_in t x = fits t.pools (nodes t) x

-- the tree that a shape is in the table
abbrev pub tree_in : Listing → Shape → ValueTree
tree_in t x = shape_tree t.pools (nodes t) x
