-- Written by tools/table.py.
-- The size and the depth of a shape's tree, from those of its parts.
use Rattle.std.proofs.Common.{◌≡◌, refl, sym, ap, ◌∙◌, ℕ, ◌+◌, true, List, [], ◌∷◌, ◌++◌, slice_get, Some, None, max, arith}
use Rattle.std.specs.Prelude.{Option}
use Rattle.std.proofs.lemmas.Bool.{true≢false}
use Rattle.jh_form.specs.Tree.{ValueTree, of_object, of_number, of_truth, of_set, of_field}
use Rattle.jh_form.proofs.ClosedLemmas.{both-left, both-right}
use Rattle.jh_boxed.specs.Sizes.{term_size, int_size, set_size, field_size, value_size, formula_size, fields_size, term_depth, int_depth, set_depth, field_depth, value_depth, formula_depth, fields_depth}
use Rattle.jh_arena.specs.table.Entries.{Pools, the_list, is_object, is_number, is_set, is_field, is_truth, the_object, the_number, the_set, the_field, the_truth, the_value, are_fields, fields_at}
use Rattle.jh_arena.specs.declared.table.shapes.Shape.{Shape}
use Rattle.jh_arena.specs.declared.table.shapes.Shape.TheVariants as s
use Rattle.jh_arena.specs.table.Nodes.{fits, shape_tree}
use Rattle.jh_arena.specs.table.Parts.{list_parts, own_parts, parts}
use Rattle.jh_arena.proofs.table.PartSteps.{part-Add-a, part-Add-b, part-All-a, part-And-a, part-And-b, part-Card-a, part-Compl-a, part-Compr-a, part-Diff-a, part-Diff-b, part-Divides-a, part-EqNumber-a, part-EqNumber-b, part-EqObject-a, part-EqObject-b, part-EqSet-a, part-EqSet-b, part-Ex-a, part-Iff-a, part-Iff-b, part-Implies-a, part-Implies-b, part-Inter-a, part-Inter-b, part-Less-a, part-Less-b, part-LessEqual-a, part-LessEqual-b, part-Mark-a, part-Member-a, part-Member-b, part-Neg-a, part-Negation-a, part-Or-a, part-Or-b, part-Reach-a, part-Reach-b, part-Reach-fields, part-ReadNumber-a, part-ReadNumber-b, part-ReadObject-a, part-ReadObject-b, part-ReadSet-a, part-ReadSet-b, part-ReadTruth-a, part-ReadTruth-b, part-Scale-a, part-Single-a, part-Sub-a, part-Sub-b, part-Subset-a, part-Subset-b, part-Tree-fields, part-Union-a, part-Union-b, part-Update-a, part-Update-b}

-- the size and the depth of the node at a place
abbrev pub size_at : List ValueTree → ℕ → ℕ
size_at ts n = value_size (the_value (slice_get ts n))

abbrev pub depth_at : List ValueTree → ℕ → ℕ
depth_at ts n = value_depth (the_value (slice_get ts n))

-- the sum of the sizes, and the greatest depth
abbrev pub size_sum : List ValueTree → List ℕ → ℕ
size_sum ts [] = 0
size_sum ts (n ∷ ns) = size_at ts n + size_sum ts ns

abbrev pub depth_max : List ValueTree → List ℕ → ℕ
depth_max ts [] = 0
depth_max ts (n ∷ ns) = max (depth_at ts n) (depth_max ts ns)

pub max-zero : (n : ℕ) → max n 0 ≡ n
max-zero n = omega arith

pub max-assoc : (a b c : ℕ) → max (max a b) c ≡ max a (max b c)
max-assoc a b c = omega arith

pub size_sum-append : (ts : List ValueTree) (xs ys : List ℕ) → size_sum ts (xs ++ ys) ≡ size_sum ts xs + size_sum ts ys
size_sum-append ts [] ys = omega arith
size_sum-append ts (x ∷ xs) ys = omega (arith, size_sum-append ts xs ys)

pub depth_max-append : (ts : List ValueTree) (xs ys : List ℕ) → depth_max ts (xs ++ ys) ≡ max (depth_max ts xs) (depth_max ts ys)
depth_max-append ts [] ys = omega arith
depth_max-append ts (x ∷ xs) ys = ap (λ z. max (depth_at ts x) z) (depth_max-append ts xs ys) ∙ sym (max-assoc (depth_at ts x) (depth_max ts xs) (depth_max ts ys))

size-object : (o : Option ValueTree) → is_object o ≡ true → term_size (the_object o) ≡ value_size (the_value o)
unfolding is_object the_object the_value term_size int_size set_size field_size value_size formula_size fields_size
size-object None h = absurd (true≢false (sym h))
size-object (Some (of_object v)) h = refl
size-object (Some (of_number v)) h = absurd (true≢false (sym h))
size-object (Some (of_set v)) h = absurd (true≢false (sym h))
size-object (Some (of_field v)) h = absurd (true≢false (sym h))
size-object (Some (of_truth v)) h = absurd (true≢false (sym h))

depth-object : (o : Option ValueTree) → is_object o ≡ true → term_depth (the_object o) ≡ value_depth (the_value o)
unfolding is_object the_object the_value term_depth int_depth set_depth field_depth value_depth formula_depth fields_depth
depth-object None h = absurd (true≢false (sym h))
depth-object (Some (of_object v)) h = refl
depth-object (Some (of_number v)) h = absurd (true≢false (sym h))
depth-object (Some (of_set v)) h = absurd (true≢false (sym h))
depth-object (Some (of_field v)) h = absurd (true≢false (sym h))
depth-object (Some (of_truth v)) h = absurd (true≢false (sym h))

size-number : (o : Option ValueTree) → is_number o ≡ true → int_size (the_number o) ≡ value_size (the_value o)
unfolding is_number the_number the_value term_size int_size set_size field_size value_size formula_size fields_size
size-number None h = absurd (true≢false (sym h))
size-number (Some (of_object v)) h = absurd (true≢false (sym h))
size-number (Some (of_number v)) h = refl
size-number (Some (of_set v)) h = absurd (true≢false (sym h))
size-number (Some (of_field v)) h = absurd (true≢false (sym h))
size-number (Some (of_truth v)) h = absurd (true≢false (sym h))

depth-number : (o : Option ValueTree) → is_number o ≡ true → int_depth (the_number o) ≡ value_depth (the_value o)
unfolding is_number the_number the_value term_depth int_depth set_depth field_depth value_depth formula_depth fields_depth
depth-number None h = absurd (true≢false (sym h))
depth-number (Some (of_object v)) h = absurd (true≢false (sym h))
depth-number (Some (of_number v)) h = refl
depth-number (Some (of_set v)) h = absurd (true≢false (sym h))
depth-number (Some (of_field v)) h = absurd (true≢false (sym h))
depth-number (Some (of_truth v)) h = absurd (true≢false (sym h))

size-set : (o : Option ValueTree) → is_set o ≡ true → set_size (the_set o) ≡ value_size (the_value o)
unfolding is_set the_set the_value term_size int_size set_size field_size value_size formula_size fields_size
size-set None h = absurd (true≢false (sym h))
size-set (Some (of_object v)) h = absurd (true≢false (sym h))
size-set (Some (of_number v)) h = absurd (true≢false (sym h))
size-set (Some (of_set v)) h = refl
size-set (Some (of_field v)) h = absurd (true≢false (sym h))
size-set (Some (of_truth v)) h = absurd (true≢false (sym h))

depth-set : (o : Option ValueTree) → is_set o ≡ true → set_depth (the_set o) ≡ value_depth (the_value o)
unfolding is_set the_set the_value term_depth int_depth set_depth field_depth value_depth formula_depth fields_depth
depth-set None h = absurd (true≢false (sym h))
depth-set (Some (of_object v)) h = absurd (true≢false (sym h))
depth-set (Some (of_number v)) h = absurd (true≢false (sym h))
depth-set (Some (of_set v)) h = refl
depth-set (Some (of_field v)) h = absurd (true≢false (sym h))
depth-set (Some (of_truth v)) h = absurd (true≢false (sym h))

size-field : (o : Option ValueTree) → is_field o ≡ true → field_size (the_field o) ≡ value_size (the_value o)
unfolding is_field the_field the_value term_size int_size set_size field_size value_size formula_size fields_size
size-field None h = absurd (true≢false (sym h))
size-field (Some (of_object v)) h = absurd (true≢false (sym h))
size-field (Some (of_number v)) h = absurd (true≢false (sym h))
size-field (Some (of_set v)) h = absurd (true≢false (sym h))
size-field (Some (of_field v)) h = refl
size-field (Some (of_truth v)) h = absurd (true≢false (sym h))

depth-field : (o : Option ValueTree) → is_field o ≡ true → field_depth (the_field o) ≡ value_depth (the_value o)
unfolding is_field the_field the_value term_depth int_depth set_depth field_depth value_depth formula_depth fields_depth
depth-field None h = absurd (true≢false (sym h))
depth-field (Some (of_object v)) h = absurd (true≢false (sym h))
depth-field (Some (of_number v)) h = absurd (true≢false (sym h))
depth-field (Some (of_set v)) h = absurd (true≢false (sym h))
depth-field (Some (of_field v)) h = refl
depth-field (Some (of_truth v)) h = absurd (true≢false (sym h))

size-truth : (o : Option ValueTree) → is_truth o ≡ true → formula_size (the_truth o) ≡ value_size (the_value o)
unfolding is_truth the_truth the_value term_size int_size set_size field_size value_size formula_size fields_size
size-truth None h = absurd (true≢false (sym h))
size-truth (Some (of_object v)) h = absurd (true≢false (sym h))
size-truth (Some (of_number v)) h = absurd (true≢false (sym h))
size-truth (Some (of_set v)) h = absurd (true≢false (sym h))
size-truth (Some (of_field v)) h = absurd (true≢false (sym h))
size-truth (Some (of_truth v)) h = refl

depth-truth : (o : Option ValueTree) → is_truth o ≡ true → formula_depth (the_truth o) ≡ value_depth (the_value o)
unfolding is_truth the_truth the_value term_depth int_depth set_depth field_depth value_depth formula_depth fields_depth
depth-truth None h = absurd (true≢false (sym h))
depth-truth (Some (of_object v)) h = absurd (true≢false (sym h))
depth-truth (Some (of_number v)) h = absurd (true≢false (sym h))
depth-truth (Some (of_set v)) h = absurd (true≢false (sym h))
depth-truth (Some (of_field v)) h = absurd (true≢false (sym h))
depth-truth (Some (of_truth v)) h = refl

module _ (p : Pools) (ts : List ValueTree) where
  size-fields : (ns : List ℕ) → are_fields ts ns ≡ true → fields_size (fields_at ts ns) ≡ size_sum ts ns
  unfolding are_fields fields_at term_size int_size set_size field_size value_size formula_size fields_size
  size-fields [] h = refl
  size-fields (n ∷ ns) h = λ i. size-field (slice_get ts n) (both-left (is_field (slice_get ts n)) (are_fields ts ns) h) i + size-fields ns (both-right (is_field (slice_get ts n)) (are_fields ts ns) h) i

  depth-fields : (ns : List ℕ) → are_fields ts ns ≡ true → fields_depth (fields_at ts ns) ≡ depth_max ts ns
  unfolding are_fields fields_at term_depth int_depth set_depth field_depth value_depth formula_depth fields_depth
  depth-fields [] h = refl
  depth-fields (n ∷ ns) h = λ i. max (depth-field (slice_get ts n) (both-left (is_field (slice_get ts n)) (are_fields ts ns) h) i) (depth-fields ns (both-right (is_field (slice_get ts n)) (are_fields ts ns) h) i)

  size-shape : (x : Shape) → fits p ts x ≡ true → value_size (shape_tree p ts x) ≡ 1 + (size_sum ts (list_parts p.lists x) + size_sum ts (own_parts x))
  unfolding shape_tree list_parts own_parts term_size int_size set_size field_size value_size formula_size fields_size
  size-shape (s.Bound k) h = omega arith
  size-shape (s.FreeObject n) h = omega arith
  size-shape s.Null h = omega arith
  size-shape (s.ReadObject a b) h = omega (arith, size-field (slice_get ts a) (part-ReadObject-a p ts a b h), size-object (slice_get ts b) (part-ReadObject-b p ts a b h))
  size-shape (s.Const z) h = omega arith
  size-shape (s.FreeNumber n) h = omega arith
  size-shape (s.ReadNumber a b) h = omega (arith, size-field (slice_get ts a) (part-ReadNumber-a p ts a b h), size-object (slice_get ts b) (part-ReadNumber-b p ts a b h))
  size-shape (s.Add a b) h = omega (arith, size-number (slice_get ts a) (part-Add-a p ts a b h), size-number (slice_get ts b) (part-Add-b p ts a b h))
  size-shape (s.Sub a b) h = omega (arith, size-number (slice_get ts a) (part-Sub-a p ts a b h), size-number (slice_get ts b) (part-Sub-b p ts a b h))
  size-shape (s.Neg a) h = omega (arith, size-number (slice_get ts a) (part-Neg-a p ts a h))
  size-shape (s.Scale z a) h = omega (arith, size-number (slice_get ts a) (part-Scale-a p ts z a h))
  size-shape (s.Card a) h = omega (arith, size-set (slice_get ts a) (part-Card-a p ts a h))
  size-shape (s.FreeSet n) h = omega arith
  size-shape (s.ReadSet a b) h = omega (arith, size-field (slice_get ts a) (part-ReadSet-a p ts a b h), size-object (slice_get ts b) (part-ReadSet-b p ts a b h))
  size-shape s.Empty h = omega arith
  size-shape s.Univ h = omega arith
  size-shape (s.Single a) h = omega (arith, size-object (slice_get ts a) (part-Single-a p ts a h))
  size-shape (s.Union a b) h = omega (arith, size-set (slice_get ts a) (part-Union-a p ts a b h), size-set (slice_get ts b) (part-Union-b p ts a b h))
  size-shape (s.Inter a b) h = omega (arith, size-set (slice_get ts a) (part-Inter-a p ts a b h), size-set (slice_get ts b) (part-Inter-b p ts a b h))
  size-shape (s.Diff a b) h = omega (arith, size-set (slice_get ts a) (part-Diff-a p ts a b h), size-set (slice_get ts b) (part-Diff-b p ts a b h))
  size-shape (s.Compl a) h = omega (arith, size-set (slice_get ts a) (part-Compl-a p ts a h))
  size-shape (s.Compr a) h = omega (arith, size-truth (slice_get ts a) (part-Compr-a p ts a h))
  size-shape (s.FreeField n) h = omega arith
  size-shape (s.Update a b c) h = omega (arith, size-field (slice_get ts a) (part-Update-a p ts a b c h), size-object (slice_get ts b) (part-Update-b p ts a b c h))
  size-shape s.True h = omega arith
  size-shape s.False h = omega arith
  size-shape (s.FreeTruth n) h = omega arith
  size-shape (s.ReadTruth a b) h = omega (arith, size-field (slice_get ts a) (part-ReadTruth-a p ts a b h), size-object (slice_get ts b) (part-ReadTruth-b p ts a b h))
  size-shape (s.Negation a) h = omega (arith, size-truth (slice_get ts a) (part-Negation-a p ts a h))
  size-shape (s.And a b) h = omega (arith, size-truth (slice_get ts a) (part-And-a p ts a b h), size-truth (slice_get ts b) (part-And-b p ts a b h))
  size-shape (s.Or a b) h = omega (arith, size-truth (slice_get ts a) (part-Or-a p ts a b h), size-truth (slice_get ts b) (part-Or-b p ts a b h))
  size-shape (s.Implies a b) h = omega (arith, size-truth (slice_get ts a) (part-Implies-a p ts a b h), size-truth (slice_get ts b) (part-Implies-b p ts a b h))
  size-shape (s.Iff a b) h = omega (arith, size-truth (slice_get ts a) (part-Iff-a p ts a b h), size-truth (slice_get ts b) (part-Iff-b p ts a b h))
  size-shape (s.All a) h = omega (arith, size-truth (slice_get ts a) (part-All-a p ts a h))
  size-shape (s.Ex a) h = omega (arith, size-truth (slice_get ts a) (part-Ex-a p ts a h))
  size-shape (s.EqObject a b) h = omega (arith, size-object (slice_get ts a) (part-EqObject-a p ts a b h), size-object (slice_get ts b) (part-EqObject-b p ts a b h))
  size-shape (s.EqNumber a b) h = omega (arith, size-number (slice_get ts a) (part-EqNumber-a p ts a b h), size-number (slice_get ts b) (part-EqNumber-b p ts a b h))
  size-shape (s.EqSet a b) h = omega (arith, size-set (slice_get ts a) (part-EqSet-a p ts a b h), size-set (slice_get ts b) (part-EqSet-b p ts a b h))
  size-shape (s.Less a b) h = omega (arith, size-number (slice_get ts a) (part-Less-a p ts a b h), size-number (slice_get ts b) (part-Less-b p ts a b h))
  size-shape (s.LessEqual a b) h = omega (arith, size-number (slice_get ts a) (part-LessEqual-a p ts a b h), size-number (slice_get ts b) (part-LessEqual-b p ts a b h))
  size-shape (s.Divides z a) h = omega (arith, size-number (slice_get ts a) (part-Divides-a p ts z a h))
  size-shape (s.Member a b) h = omega (arith, size-object (slice_get ts a) (part-Member-a p ts a b h), size-set (slice_get ts b) (part-Member-b p ts a b h))
  size-shape (s.Subset a b) h = omega (arith, size-set (slice_get ts a) (part-Subset-a p ts a b h), size-set (slice_get ts b) (part-Subset-b p ts a b h))
  size-shape (s.Reach l a b) h = omega (arith, size-fields (the_list (slice_get p.lists l)) (part-Reach-fields p ts l a b h), size-object (slice_get ts a) (part-Reach-a p ts l a b h), size-object (slice_get ts b) (part-Reach-b p ts l a b h))
  size-shape (s.Tree l) h = omega (arith, size-fields (the_list (slice_get p.lists l)) (part-Tree-fields p ts l h))
  size-shape (s.Mark m a) h = omega (arith, size-truth (slice_get ts a) (part-Mark-a p ts m a h))

  depth-shape : (x : Shape) → fits p ts x ≡ true → value_depth (shape_tree p ts x) ≡ 1 + max (depth_max ts (list_parts p.lists x)) (depth_max ts (own_parts x))
  unfolding shape_tree list_parts own_parts term_depth int_depth set_depth field_depth value_depth formula_depth fields_depth
  depth-shape (s.Bound k) h = omega arith
  depth-shape (s.FreeObject n) h = omega arith
  depth-shape s.Null h = omega arith
  depth-shape (s.ReadObject a b) h = omega (arith, depth-field (slice_get ts a) (part-ReadObject-a p ts a b h), depth-object (slice_get ts b) (part-ReadObject-b p ts a b h))
  depth-shape (s.Const z) h = omega arith
  depth-shape (s.FreeNumber n) h = omega arith
  depth-shape (s.ReadNumber a b) h = omega (arith, depth-field (slice_get ts a) (part-ReadNumber-a p ts a b h), depth-object (slice_get ts b) (part-ReadNumber-b p ts a b h))
  depth-shape (s.Add a b) h = omega (arith, depth-number (slice_get ts a) (part-Add-a p ts a b h), depth-number (slice_get ts b) (part-Add-b p ts a b h))
  depth-shape (s.Sub a b) h = omega (arith, depth-number (slice_get ts a) (part-Sub-a p ts a b h), depth-number (slice_get ts b) (part-Sub-b p ts a b h))
  depth-shape (s.Neg a) h = omega (arith, depth-number (slice_get ts a) (part-Neg-a p ts a h))
  depth-shape (s.Scale z a) h = omega (arith, depth-number (slice_get ts a) (part-Scale-a p ts z a h))
  depth-shape (s.Card a) h = omega (arith, depth-set (slice_get ts a) (part-Card-a p ts a h))
  depth-shape (s.FreeSet n) h = omega arith
  depth-shape (s.ReadSet a b) h = omega (arith, depth-field (slice_get ts a) (part-ReadSet-a p ts a b h), depth-object (slice_get ts b) (part-ReadSet-b p ts a b h))
  depth-shape s.Empty h = omega arith
  depth-shape s.Univ h = omega arith
  depth-shape (s.Single a) h = omega (arith, depth-object (slice_get ts a) (part-Single-a p ts a h))
  depth-shape (s.Union a b) h = omega (arith, depth-set (slice_get ts a) (part-Union-a p ts a b h), depth-set (slice_get ts b) (part-Union-b p ts a b h))
  depth-shape (s.Inter a b) h = omega (arith, depth-set (slice_get ts a) (part-Inter-a p ts a b h), depth-set (slice_get ts b) (part-Inter-b p ts a b h))
  depth-shape (s.Diff a b) h = omega (arith, depth-set (slice_get ts a) (part-Diff-a p ts a b h), depth-set (slice_get ts b) (part-Diff-b p ts a b h))
  depth-shape (s.Compl a) h = omega (arith, depth-set (slice_get ts a) (part-Compl-a p ts a h))
  depth-shape (s.Compr a) h = omega (arith, depth-truth (slice_get ts a) (part-Compr-a p ts a h))
  depth-shape (s.FreeField n) h = omega arith
  depth-shape (s.Update a b c) h = omega (arith, depth-field (slice_get ts a) (part-Update-a p ts a b c h), depth-object (slice_get ts b) (part-Update-b p ts a b c h))
  depth-shape s.True h = omega arith
  depth-shape s.False h = omega arith
  depth-shape (s.FreeTruth n) h = omega arith
  depth-shape (s.ReadTruth a b) h = omega (arith, depth-field (slice_get ts a) (part-ReadTruth-a p ts a b h), depth-object (slice_get ts b) (part-ReadTruth-b p ts a b h))
  depth-shape (s.Negation a) h = omega (arith, depth-truth (slice_get ts a) (part-Negation-a p ts a h))
  depth-shape (s.And a b) h = omega (arith, depth-truth (slice_get ts a) (part-And-a p ts a b h), depth-truth (slice_get ts b) (part-And-b p ts a b h))
  depth-shape (s.Or a b) h = omega (arith, depth-truth (slice_get ts a) (part-Or-a p ts a b h), depth-truth (slice_get ts b) (part-Or-b p ts a b h))
  depth-shape (s.Implies a b) h = omega (arith, depth-truth (slice_get ts a) (part-Implies-a p ts a b h), depth-truth (slice_get ts b) (part-Implies-b p ts a b h))
  depth-shape (s.Iff a b) h = omega (arith, depth-truth (slice_get ts a) (part-Iff-a p ts a b h), depth-truth (slice_get ts b) (part-Iff-b p ts a b h))
  depth-shape (s.All a) h = omega (arith, depth-truth (slice_get ts a) (part-All-a p ts a h))
  depth-shape (s.Ex a) h = omega (arith, depth-truth (slice_get ts a) (part-Ex-a p ts a h))
  depth-shape (s.EqObject a b) h = omega (arith, depth-object (slice_get ts a) (part-EqObject-a p ts a b h), depth-object (slice_get ts b) (part-EqObject-b p ts a b h))
  depth-shape (s.EqNumber a b) h = omega (arith, depth-number (slice_get ts a) (part-EqNumber-a p ts a b h), depth-number (slice_get ts b) (part-EqNumber-b p ts a b h))
  depth-shape (s.EqSet a b) h = omega (arith, depth-set (slice_get ts a) (part-EqSet-a p ts a b h), depth-set (slice_get ts b) (part-EqSet-b p ts a b h))
  depth-shape (s.Less a b) h = omega (arith, depth-number (slice_get ts a) (part-Less-a p ts a b h), depth-number (slice_get ts b) (part-Less-b p ts a b h))
  depth-shape (s.LessEqual a b) h = omega (arith, depth-number (slice_get ts a) (part-LessEqual-a p ts a b h), depth-number (slice_get ts b) (part-LessEqual-b p ts a b h))
  depth-shape (s.Divides z a) h = omega (arith, depth-number (slice_get ts a) (part-Divides-a p ts z a h))
  depth-shape (s.Member a b) h = omega (arith, depth-object (slice_get ts a) (part-Member-a p ts a b h), depth-set (slice_get ts b) (part-Member-b p ts a b h))
  depth-shape (s.Subset a b) h = omega (arith, depth-set (slice_get ts a) (part-Subset-a p ts a b h), depth-set (slice_get ts b) (part-Subset-b p ts a b h))
  depth-shape (s.Reach l a b) h = omega (arith, depth-fields (the_list (slice_get p.lists l)) (part-Reach-fields p ts l a b h), depth-object (slice_get ts a) (part-Reach-a p ts l a b h), depth-object (slice_get ts b) (part-Reach-b p ts l a b h))
  depth-shape (s.Tree l) h = omega (arith, depth-fields (the_list (slice_get p.lists l)) (part-Tree-fields p ts l h))
  depth-shape (s.Mark m a) h = omega (arith, depth-truth (slice_get ts a) (part-Mark-a p ts m a h))

  pub size-parts : (x : Shape) → fits p ts x ≡ true → value_size (shape_tree p ts x) ≡ 1 + size_sum ts (parts p.lists x)
  size-parts x h = omega (arith, size-shape x h, size_sum-append ts (list_parts p.lists x) (own_parts x))

  pub depth-parts : (x : Shape) → fits p ts x ≡ true → value_depth (shape_tree p ts x) ≡ 1 + depth_max ts (parts p.lists x)
  depth-parts x h = depth-shape x h ∙ ap (λ z. 1 + z) (sym (depth_max-append ts (list_parts p.lists x) (own_parts x)))
