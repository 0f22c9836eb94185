-- The value of a shape's tree in a structure is that of what is made of the shape in a structure of plain nodes, where both
-- have the same operations.
use Rattle.std.proofs.Common.{◌≡◌, refl, sym, ◌∙◌, ℕ, ℤ, true, List, [], ◌∷◌, map, slice_get, Option, Some, None}
use Rattle.std.proofs.lemmas.Bool.{true≢false}
use Rattle.jh_name.specs.declared.place.Sort as place
use Rattle.jh_closure.specs.congruence_closure.Nodes.{Structure}
use Rattle.jh_closure.specs.structures.Structures.{object_any, number_any, truth_any, set_any, field_any, any_in, object_in, number_in, truth_in, set_in, field_in, fields_in}
use Rattle.jh_form.specs.Tree.{ValueTree, of_object, of_number, of_truth, of_set, of_field}
use Rattle.jh_form.specs.Sorts.{tree_sort}
use Rattle.jh_form.proofs.ClosedLemmas.{both-left, both-right}
use Rattle.jh_arena.specs.table.Entries.{Pools, the_list, is_object, is_number, is_truth, is_set, is_field, the_object, the_number, the_truth, the_set, the_field, the_value, are_fields, fields_at}
use Rattle.jh_arena.specs.table.Nodes.{fits, shape_tree}
use Rattle.jh_arena.specs.table.Parts.{list_parts}
use Rattle.jh_arena.specs.declared.table.shapes.Shape.{Shape}
use Rattle.jh_arena.specs.declared.table.shapes.Shape.TheVariants as s
use Rattle.jh_arena.proofs.table.PartSteps.{part-Add-a, part-Add-b, part-All-a, part-And-a, part-And-b, part-Card-a, part-Compl-a, part-Compr-a, part-Diff-a, part-Diff-b, part-Divides-a, part-EqNumber-a, part-EqNumber-b, part-EqObject-a, part-EqObject-b, part-EqSet-a, part-EqSet-b, part-Ex-a, part-Iff-a, part-Iff-b, part-Implies-a, part-Implies-b, part-Inter-a, part-Inter-b, part-Less-a, part-Less-b, part-LessEqual-a, part-LessEqual-b, part-Mark-a, part-Member-a, part-Member-b, part-Neg-a, part-Negation-a, part-Or-a, part-Or-b, part-Reach-a, part-Reach-b, part-Reach-fields, part-ReadNumber-a, part-ReadNumber-b, part-ReadObject-a, part-ReadObject-b, part-ReadSet-a, part-ReadSet-b, part-ReadTruth-a, part-ReadTruth-b, part-Scale-a, part-Single-a, part-Sub-a, part-Sub-b, part-Subset-a, part-Subset-b, part-Tree-fields, part-Union-a, part-Union-b, part-Update-a, part-Update-b}
use Rattle.jh_cong.specs.flattening.Plain.{flat, minus, plus, update_operation}
use Rattle.jh_cong.specs.flattening.TreeValues.{NumberStructure, value_in}
use Rattle.jh_cong.specs.declared.flattening.flat.Flat.{Flat}
use Rattle.jh_cong.specs.declared.flattening.flat.Flat.TheVariants as f

-- the value of a whole number
abbrev pub number_value : Structure ℕ → ℤ → ℕ
number_value q z = q.apply 37 (q.leaf (plus z)) (q.leaf (minus z))

-- the value of a list of values
abbrev pub chain_value : Structure ℕ → List ℕ → ℕ
chain_value q [] = q.leaf 0
chain_value q (x ∷ xs) = q.apply 38 x (chain_value q xs)

-- the value of what is made of a shape, given that of a node without parts, the sorts of nodes, the fields of its list, and the
-- values of nodes
abbrev pub flat_value : Structure ℕ → ℕ → (ℕ → place.Sort) → List ℕ → (ℕ → ℕ) → Flat → ℕ
flat_value q mine sorts fs at f.Leaf = mine
flat_value q mine sorts fs at (f.Unary o a) = q.apply o (at a) (at a)
flat_value q mine sorts fs at (f.Binary o a b) = q.apply o (at a) (at b)
flat_value q mine sorts fs at (f.Scaled o z a) = q.apply o (number_value q z) (at a)
flat_value q mine sorts fs at (f.Updated a b c) = q.apply (update_operation (sorts c)) (at a) (q.apply 37 (at b) (at c))
flat_value q mine sorts fs at (f.Reaches a b) = q.apply 35 (chain_value q (map at fs)) (q.apply 37 (at a) (at b))
flat_value q mine sorts fs at f.Listed = q.apply 36 (chain_value q (map at fs)) (chain_value q (map at fs))
flat_value q mine sorts fs at (f.Same a) = at a

-- both structures have the same operations
pub record Agrees (g : NumberStructure) (q : Structure ℕ) : Type 0 where
  pub read_object : (a b : ℕ) → g.read_object a b ≡ q.apply 0 a b
  pub read_number : (a b : ℕ) → g.read_number a b ≡ q.apply 1 a b
  pub add : (a b : ℕ) → g.add a b ≡ q.apply 2 a b
  pub sub : (a b : ℕ) → g.sub a b ≡ q.apply 3 a b
  pub neg : (a : ℕ) → g.neg a ≡ q.apply 4 a a
  pub scale : (z : ℤ) (a : ℕ) → g.scale z a ≡ q.apply 5 (number_value q z) a
  pub card : (a : ℕ) → g.card a ≡ q.apply 6 a a
  pub read_set : (a b : ℕ) → g.read_set a b ≡ q.apply 7 a b
  pub single : (a : ℕ) → g.single a ≡ q.apply 8 a a
  pub union : (a b : ℕ) → g.union a b ≡ q.apply 9 a b
  pub inter : (a b : ℕ) → g.inter a b ≡ q.apply 10 a b
  pub diff : (a b : ℕ) → g.diff a b ≡ q.apply 11 a b
  pub compl : (a : ℕ) → g.compl a ≡ q.apply 12 a a
  pub compr : (a : ℕ) → g.compr a ≡ q.apply 13 a a
  pub update_object : (a b v : ℕ) → g.update a b (object_any v) ≡ q.apply 14 a (q.apply 37 b v)
  pub update_number : (a b v : ℕ) → g.update a b (number_any v) ≡ q.apply 15 a (q.apply 37 b v)
  pub update_truth : (a b v : ℕ) → g.update a b (truth_any v) ≡ q.apply 16 a (q.apply 37 b v)
  pub update_set : (a b v : ℕ) → g.update a b (set_any v) ≡ q.apply 17 a (q.apply 37 b v)
  pub update_field : (a b v : ℕ) → g.update a b (field_any v) ≡ q.apply 18 a (q.apply 37 b v)
  pub read_truth : (a b : ℕ) → g.read_truth a b ≡ q.apply 19 a b
  pub negation : (a : ℕ) → g.negation a ≡ q.apply 20 a a
  pub and : (a b : ℕ) → g.and a b ≡ q.apply 21 a b
  pub or : (a b : ℕ) → g.or a b ≡ q.apply 22 a b
  pub implies : (a b : ℕ) → g.implies a b ≡ q.apply 23 a b
  pub iff : (a b : ℕ) → g.iff a b ≡ q.apply 24 a b
  pub all : (a : ℕ) → g.all a ≡ q.apply 25 a a
  pub ex : (a : ℕ) → g.ex a ≡ q.apply 26 a a
  pub eq_object : (a b : ℕ) → g.eq_object a b ≡ q.apply 27 a b
  pub eq_number : (a b : ℕ) → g.eq_number a b ≡ q.apply 28 a b
  pub eq_set : (a b : ℕ) → g.eq_set a b ≡ q.apply 29 a b
  pub less : (a b : ℕ) → g.less a b ≡ q.apply 30 a b
  pub less_equal : (a b : ℕ) → g.less_equal a b ≡ q.apply 31 a b
  pub divides : (z : ℤ) (a : ℕ) → g.divides z a ≡ q.apply 32 (number_value q z) a
  pub member : (a b : ℕ) → g.member a b ≡ q.apply 33 a b
  pub subset : (a b : ℕ) → g.subset a b ≡ q.apply 34 a b
  pub reach : (fs : List ℕ) (a b : ℕ) → g.reach fs a b ≡ q.apply 35 (chain_value q fs) (q.apply 37 a b)
  pub tree : (fs : List ℕ) → g.tree fs ≡ q.apply 36 (chain_value q fs) (chain_value q fs)

-- the value of a part at its sort
is-object : (g : NumberStructure) (o : Option ValueTree) → is_object o ≡ true → object_in g (the_object o) ≡ value_in g (the_value o)
unfolding is_object the_object the_value
is-object g None h = absurd (true≢false (sym h))
is-object g (Some (of_object a)) h = refl
is-object g (Some (of_number a)) h = absurd (true≢false (sym h))
is-object g (Some (of_truth a)) h = absurd (true≢false (sym h))
is-object g (Some (of_set a)) h = absurd (true≢false (sym h))
is-object g (Some (of_field a)) h = absurd (true≢false (sym h))

is-number : (g : NumberStructure) (o : Option ValueTree) → is_number o ≡ true → number_in g (the_number o) ≡ value_in g (the_value o)
unfolding is_number the_number the_value
is-number g None h = absurd (true≢false (sym h))
is-number g (Some (of_object a)) h = absurd (true≢false (sym h))
is-number g (Some (of_number a)) h = refl
is-number g (Some (of_truth a)) h = absurd (true≢false (sym h))
is-number g (Some (of_set a)) h = absurd (true≢false (sym h))
is-number g (Some (of_field a)) h = absurd (true≢false (sym h))

is-truth : (g : NumberStructure) (o : Option ValueTree) → is_truth o ≡ true → truth_in g (the_truth o) ≡ value_in g (the_value o)
unfolding is_truth the_truth the_value
is-truth g None h = absurd (true≢false (sym h))
is-truth g (Some (of_object a)) h = absurd (true≢false (sym h))
is-truth g (Some (of_number a)) h = absurd (true≢false (sym h))
is-truth g (Some (of_truth a)) h = refl
is-truth g (Some (of_set a)) h = absurd (true≢false (sym h))
is-truth g (Some (of_field a)) h = absurd (true≢false (sym h))

is-set : (g : NumberStructure) (o : Option ValueTree) → is_set o ≡ true → set_in g (the_set o) ≡ value_in g (the_value o)
unfolding is_set the_set the_value
is-set g None h = absurd (true≢false (sym h))
is-set g (Some (of_object a)) h = absurd (true≢false (sym h))
is-set g (Some (of_number a)) h = absurd (true≢false (sym h))
is-set g (Some (of_truth a)) h = absurd (true≢false (sym h))
is-set g (Some (of_set a)) h = refl
is-set g (Some (of_field a)) h = absurd (true≢false (sym h))

is-field : (g : NumberStructure) (o : Option ValueTree) → is_field o ≡ true → field_in g (the_field o) ≡ value_in g (the_value o)
unfolding is_field the_field the_value
is-field g None h = absurd (true≢false (sym h))
is-field g (Some (of_object a)) h = absurd (true≢false (sym h))
is-field g (Some (of_number a)) h = absurd (true≢false (sym h))
is-field g (Some (of_truth a)) h = absurd (true≢false (sym h))
is-field g (Some (of_set a)) h = absurd (true≢false (sym h))
is-field g (Some (of_field a)) h = refl

are-fields : (g : NumberStructure) (ts : List ValueTree) (ns : List ℕ) → are_fields ts ns ≡ true → fields_in g (fields_at ts ns) ≡ map (λ k. value_in g (the_value (slice_get ts k))) ns
unfolding are_fields fields_at
are-fields g ts [] h = refl
are-fields g ts (k ∷ ks) h =
    λ i. is-field g (slice_get ts k) (both-left (is_field (slice_get ts k)) (are_fields ts ks) h) i ∷ are-fields g ts ks (both-right (is_field (slice_get ts k)) (are_fields ts ks) h) i

any-updated : (g : NumberStructure) (q : Structure ℕ) → Agrees g q → (a b : ℕ) (v : ValueTree) → g.update a b (any_in g v) ≡ q.apply (update_operation (tree_sort v)) a (q.apply 37 b (value_in g v))
unfolding update_operation
any-updated g q agrees a b (of_object v) = agrees.update_object a b (object_in g v)
any-updated g q agrees a b (of_number v) = agrees.update_number a b (number_in g v)
any-updated g q agrees a b (of_truth v) = agrees.update_truth a b (truth_in g v)
any-updated g q agrees a b (of_set v) = agrees.update_set a b (set_in g v)
any-updated g q agrees a b (of_field v) = agrees.update_field a b (field_in g v)

module _ (g : NumberStructure) (q : Structure ℕ) (agrees : Agrees g q) (p : Pools) (ts : List ValueTree) (mine : ℕ) where
  -- the value of the node of a number
  abbrev pub value_at : ℕ → ℕ
  value_at k = value_in g (the_value (slice_get ts k))

  abbrev pub sort_of : ℕ → place.Sort
  sort_of k = tree_sort (the_value (slice_get ts k))

  pub value-shape : (x : Shape) → fits p ts x ≡ true → (flat x ≡ f.Leaf → value_in g (shape_tree p ts x) ≡ mine) → value_in g (shape_tree p ts x) ≡ flat_value q mine sort_of (list_parts p.lists x) value_at (flat x)
  unfolding flat shape_tree list_parts
  value-shape (s.Bound k) h own = own refl
  value-shape (s.FreeObject n) h own = own refl
  value-shape s.Null h own = own refl
  value-shape (s.ReadObject a b) h own = (λ i. g.read_object (is-field g (slice_get ts a) (part-ReadObject-a p ts a b h) i) (is-object g (slice_get ts b) (part-ReadObject-b p ts a b h) i)) ∙ agrees.read_object (value_in g (the_value (slice_get ts a))) (value_in g (the_value (slice_get ts b)))
  value-shape (s.Const z) h own = own refl
  value-shape (s.FreeNumber n) h own = own refl
  value-shape (s.ReadNumber a b) h own = (λ i. g.read_number (is-field g (slice_get ts a) (part-ReadNumber-a p ts a b h) i) (is-object g (slice_get ts b) (part-ReadNumber-b p ts a b h) i)) ∙ agrees.read_number (value_in g (the_value (slice_get ts a))) (value_in g (the_value (slice_get ts b)))
  value-shape (s.Add a b) h own = (λ i. g.add (is-number g (slice_get ts a) (part-Add-a p ts a b h) i) (is-number g (slice_get ts b) (part-Add-b p ts a b h) i)) ∙ agrees.add (value_in g (the_value (slice_get ts a))) (value_in g (the_value (slice_get ts b)))
  value-shape (s.Sub a b) h own = (λ i. g.sub (is-number g (slice_get ts a) (part-Sub-a p ts a b h) i) (is-number g (slice_get ts b) (part-Sub-b p ts a b h) i)) ∙ agrees.sub (value_in g (the_value (slice_get ts a))) (value_in g (the_value (slice_get ts b)))
  value-shape (s.Neg a) h own = (λ i. g.neg (is-number g (slice_get ts a) (part-Neg-a p ts a h) i)) ∙ agrees.neg (value_in g (the_value (slice_get ts a)))
  value-shape (s.Scale z a) h own = (λ i. g.scale z (is-number g (slice_get ts a) (part-Scale-a p ts z a h) i)) ∙ agrees.scale z (value_in g (the_value (slice_get ts a)))
  value-shape (s.Card a) h own = (λ i. g.card (is-set g (slice_get ts a) (part-Card-a p ts a h) i)) ∙ agrees.card (value_in g (the_value (slice_get ts a)))
  value-shape (s.FreeSet n) h own = own refl
  value-shape (s.ReadSet a b) h own = (λ i. g.read_set (is-field g (slice_get ts a) (part-ReadSet-a p ts a b h) i) (is-object g (slice_get ts b) (part-ReadSet-b p ts a b h) i)) ∙ agrees.read_set (value_in g (the_value (slice_get ts a))) (value_in g (the_value (slice_get ts b)))
  value-shape s.Empty h own = own refl
  value-shape s.Univ h own = own refl
  value-shape (s.Single a) h own = (λ i. g.single (is-object g (slice_get ts a) (part-Single-a p ts a h) i)) ∙ agrees.single (value_in g (the_value (slice_get ts a)))
  value-shape (s.Union a b) h own = (λ i. g.union (is-set g (slice_get ts a) (part-Union-a p ts a b h) i) (is-set g (slice_get ts b) (part-Union-b p ts a b h) i)) ∙ agrees.union (value_in g (the_value (slice_get ts a))) (value_in g (the_value (slice_get ts b)))
  value-shape (s.Inter a b) h own = (λ i. g.inter (is-set g (slice_get ts a) (part-Inter-a p ts a b h) i) (is-set g (slice_get ts b) (part-Inter-b p ts a b h) i)) ∙ agrees.inter (value_in g (the_value (slice_get ts a))) (value_in g (the_value (slice_get ts b)))
  value-shape (s.Diff a b) h own = (λ i. g.diff (is-set g (slice_get ts a) (part-Diff-a p ts a b h) i) (is-set g (slice_get ts b) (part-Diff-b p ts a b h) i)) ∙ agrees.diff (value_in g (the_value (slice_get ts a))) (value_in g (the_value (slice_get ts b)))
  value-shape (s.Compl a) h own = (λ i. g.compl (is-set g (slice_get ts a) (part-Compl-a p ts a h) i)) ∙ agrees.compl (value_in g (the_value (slice_get ts a)))
  value-shape (s.Compr a) h own = (λ i. g.compr (is-truth g (slice_get ts a) (part-Compr-a p ts a h) i)) ∙ agrees.compr (value_in g (the_value (slice_get ts a)))
  value-shape (s.FreeField n) h own = own refl
  value-shape (s.Update a b c) h own = (λ i. g.update (is-field g (slice_get ts a) (part-Update-a p ts a b c h) i) (is-object g (slice_get ts b) (part-Update-b p ts a b c h) i) (any_in g (the_value (slice_get ts c)))) ∙ any-updated g q agrees (value_in g (the_value (slice_get ts a))) (value_in g (the_value (slice_get ts b))) (the_value (slice_get ts c))
  value-shape s.True h own = own refl
  value-shape s.False h own = own refl
  value-shape (s.FreeTruth n) h own = own refl
  value-shape (s.ReadTruth a b) h own = (λ i. g.read_truth (is-field g (slice_get ts a) (part-ReadTruth-a p ts a b h) i) (is-object g (slice_get ts b) (part-ReadTruth-b p ts a b h) i)) ∙ agrees.read_truth (value_in g (the_value (slice_get ts a))) (value_in g (the_value (slice_get ts b)))
  value-shape (s.Negation a) h own = (λ i. g.negation (is-truth g (slice_get ts a) (part-Negation-a p ts a h) i)) ∙ agrees.negation (value_in g (the_value (slice_get ts a)))
  value-shape (s.And a b) h own = (λ i. g.and (is-truth g (slice_get ts a) (part-And-a p ts a b h) i) (is-truth g (slice_get ts b) (part-And-b p ts a b h) i)) ∙ agrees.and (value_in g (the_value (slice_get ts a))) (value_in g (the_value (slice_get ts b)))
  value-shape (s.Or a b) h own = (λ i. g.or (is-truth g (slice_get ts a) (part-Or-a p ts a b h) i) (is-truth g (slice_get ts b) (part-Or-b p ts a b h) i)) ∙ agrees.or (value_in g (the_value (slice_get ts a))) (value_in g (the_value (slice_get ts b)))
  value-shape (s.Implies a b) h own = (λ i. g.implies (is-truth g (slice_get ts a) (part-Implies-a p ts a b h) i) (is-truth g (slice_get ts b) (part-Implies-b p ts a b h) i)) ∙ agrees.implies (value_in g (the_value (slice_get ts a))) (value_in g (the_value (slice_get ts b)))
  value-shape (s.Iff a b) h own = (λ i. g.iff (is-truth g (slice_get ts a) (part-Iff-a p ts a b h) i) (is-truth g (slice_get ts b) (part-Iff-b p ts a b h) i)) ∙ agrees.iff (value_in g (the_value (slice_get ts a))) (value_in g (the_value (slice_get ts b)))
  value-shape (s.All a) h own = (λ i. g.all (is-truth g (slice_get ts a) (part-All-a p ts a h) i)) ∙ agrees.all (value_in g (the_value (slice_get ts a)))
  value-shape (s.Ex a) h own = (λ i. g.ex (is-truth g (slice_get ts a) (part-Ex-a p ts a h) i)) ∙ agrees.ex (value_in g (the_value (slice_get ts a)))
  value-shape (s.EqObject a b) h own = (λ i. g.eq_object (is-object g (slice_get ts a) (part-EqObject-a p ts a b h) i) (is-object g (slice_get ts b) (part-EqObject-b p ts a b h) i)) ∙ agrees.eq_object (value_in g (the_value (slice_get ts a))) (value_in g (the_value (slice_get ts b)))
  value-shape (s.EqNumber a b) h own = (λ i. g.eq_number (is-number g (slice_get ts a) (part-EqNumber-a p ts a b h) i) (is-number g (slice_get ts b) (part-EqNumber-b p ts a b h) i)) ∙ agrees.eq_number (value_in g (the_value (slice_get ts a))) (value_in g (the_value (slice_get ts b)))
  value-shape (s.EqSet a b) h own = (λ i. g.eq_set (is-set g (slice_get ts a) (part-EqSet-a p ts a b h) i) (is-set g (slice_get ts b) (part-EqSet-b p ts a b h) i)) ∙ agrees.eq_set (value_in g (the_value (slice_get ts a))) (value_in g (the_value (slice_get ts b)))
  value-shape (s.Less a b) h own = (λ i. g.less (is-number g (slice_get ts a) (part-Less-a p ts a b h) i) (is-number g (slice_get ts b) (part-Less-b p ts a b h) i)) ∙ agrees.less (value_in g (the_value (slice_get ts a))) (value_in g (the_value (slice_get ts b)))
  value-shape (s.LessEqual a b) h own = (λ i. g.less_equal (is-number g (slice_get ts a) (part-LessEqual-a p ts a b h) i) (is-number g (slice_get ts b) (part-LessEqual-b p ts a b h) i)) ∙ agrees.less_equal (value_in g (the_value (slice_get ts a))) (value_in g (the_value (slice_get ts b)))
  value-shape (s.Divides z a) h own = (λ i. g.divides z (is-number g (slice_get ts a) (part-Divides-a p ts z a h) i)) ∙ agrees.divides z (value_in g (the_value (slice_get ts a)))
  value-shape (s.Member a b) h own = (λ i. g.member (is-object g (slice_get ts a) (part-Member-a p ts a b h) i) (is-set g (slice_get ts b) (part-Member-b p ts a b h) i)) ∙ agrees.member (value_in g (the_value (slice_get ts a))) (value_in g (the_value (slice_get ts b)))
  value-shape (s.Subset a b) h own = (λ i. g.subset (is-set g (slice_get ts a) (part-Subset-a p ts a b h) i) (is-set g (slice_get ts b) (part-Subset-b p ts a b h) i)) ∙ agrees.subset (value_in g (the_value (slice_get ts a))) (value_in g (the_value (slice_get ts b)))
  value-shape (s.Reach l a b) h own = (λ i. g.reach (are-fields g ts (the_list (slice_get p.lists l)) (part-Reach-fields p ts l a b h) i) (is-object g (slice_get ts a) (part-Reach-a p ts l a b h) i) (is-object g (slice_get ts b) (part-Reach-b p ts l a b h) i)) ∙ agrees.reach (map (λ k. value_in g (the_value (slice_get ts k))) (the_list (slice_get p.lists l))) (value_in g (the_value (slice_get ts a))) (value_in g (the_value (slice_get ts b)))
  value-shape (s.Tree l) h own = (λ i. g.tree (are-fields g ts (the_list (slice_get p.lists l)) (part-Tree-fields p ts l h) i)) ∙ agrees.tree (map (λ k. value_in g (the_value (slice_get ts k))) (the_list (slice_get p.lists l)))
  value-shape (s.Mark m a) h own = is-truth g (slice_get ts a) (part-Mark-a p ts m a h)
