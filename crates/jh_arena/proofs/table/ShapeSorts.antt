-- Written by tools/table.py.
-- The sort of a shape is that of its tree.
use Rattle.std.proofs.Common.{◌≡◌, refl, ap, ℕ, ℤ, List, Option, Some}
use Rattle.jh_boxed.specs.jh_name.declared.place.Sort.TheVariants as Sort
use Rattle.jh_form.specs.Tree.{ValueTree}
use Rattle.jh_form.specs.Sorts.{tree_sort}
use Rattle.jh_arena.specs.table.Entries.{Pools, the_value}
use Rattle.jh_arena.specs.table.Nodes.{shape_tree}
use Rattle.jh_arena.specs.declared.table.shapes.Shape.{Shape}
use Rattle.jh_arena.specs.declared.table.shapes.Shape.TheVariants as s
use Rattle.jh_arena.specs.table.Sorts.{shape_sort}

pub tree-seen : (o : Option ValueTree) (v : ValueTree) → o ≡ Some v → the_value o ≡ v
unfolding the_value
tree-seen o v e = ap the_value e

pub sort-same : (p : Pools) (ts : List ValueTree) (x : Shape) → shape_sort x ≡ tree_sort (shape_tree p ts x)
unfolding shape_sort shape_tree
sort-same p ts (s.Bound k) = refl
sort-same p ts (s.FreeObject n) = refl
sort-same p ts s.Null = refl
sort-same p ts (s.ReadObject a b) = refl
sort-same p ts (s.Const z) = refl
sort-same p ts (s.FreeNumber n) = refl
sort-same p ts (s.ReadNumber a b) = refl
sort-same p ts (s.Add a b) = refl
sort-same p ts (s.Sub a b) = refl
sort-same p ts (s.Neg a) = refl
sort-same p ts (s.Scale z a) = refl
sort-same p ts (s.Card a) = refl
sort-same p ts (s.FreeSet n) = refl
sort-same p ts (s.ReadSet a b) = refl
sort-same p ts s.Empty = refl
sort-same p ts s.Univ = refl
sort-same p ts (s.Single a) = refl
sort-same p ts (s.Union a b) = refl
sort-same p ts (s.Inter a b) = refl
sort-same p ts (s.Diff a b) = refl
sort-same p ts (s.Compl a) = refl
sort-same p ts (s.Compr a) = refl
sort-same p ts (s.FreeField n) = refl
sort-same p ts (s.Update a b c) = refl
sort-same p ts s.True = refl
sort-same p ts s.False = refl
sort-same p ts (s.FreeTruth n) = refl
sort-same p ts (s.ReadTruth a b) = refl
sort-same p ts (s.Negation a) = refl
sort-same p ts (s.And a b) = refl
sort-same p ts (s.Or a b) = refl
sort-same p ts (s.Implies a b) = refl
sort-same p ts (s.Iff a b) = refl
sort-same p ts (s.All a) = refl
sort-same p ts (s.Ex a) = refl
sort-same p ts (s.EqObject a b) = refl
sort-same p ts (s.EqNumber a b) = refl
sort-same p ts (s.EqSet a b) = refl
sort-same p ts (s.Less a b) = refl
sort-same p ts (s.LessEqual a b) = refl
sort-same p ts (s.Divides z a) = refl
sort-same p ts (s.Member a b) = refl
sort-same p ts (s.Subset a b) = refl
sort-same p ts (s.Reach l a b) = refl
sort-same p ts (s.Tree l) = refl
sort-same p ts (s.Mark m a) = refl

-- what is no term and no field is a formula
pub formula-sort : (y : Shape) → ((k : ℕ) → y ≡ s.Bound k → ⊥) → ((n : ℕ) → y ≡ s.FreeObject n → ⊥) → (y ≡ s.Null → ⊥) → ((a : ℕ) (b : ℕ) → y ≡ s.ReadObject a b → ⊥) → ((z : ℤ) → y ≡ s.Const z → ⊥) → ((n : ℕ) → y ≡ s.FreeNumber n → ⊥) → ((a : ℕ) (b : ℕ) → y ≡ s.ReadNumber a b → ⊥) → ((a : ℕ) (b : ℕ) → y ≡ s.Add a b → ⊥) → ((a : ℕ) (b : ℕ) → y ≡ s.Sub a b → ⊥) → ((a : ℕ) → y ≡ s.Neg a → ⊥) → ((z : ℤ) (a : ℕ) → y ≡ s.Scale z a → ⊥) → ((a : ℕ) → y ≡ s.Card a → ⊥) → ((n : ℕ) → y ≡ s.FreeSet n → ⊥) → ((a : ℕ) (b : ℕ) → y ≡ s.ReadSet a b → ⊥) → (y ≡ s.Empty → ⊥) → (y ≡ s.Univ → ⊥) → ((a : ℕ) → y ≡ s.Single a → ⊥) → ((a : ℕ) (b : ℕ) → y ≡ s.Union a b → ⊥) → ((a : ℕ) (b : ℕ) → y ≡ s.Inter a b → ⊥) → ((a : ℕ) (b : ℕ) → y ≡ s.Diff a b → ⊥) → ((a : ℕ) → y ≡ s.Compl a → ⊥) → ((a : ℕ) → y ≡ s.Compr a → ⊥) → ((n : ℕ) → y ≡ s.FreeField n → ⊥) → ((a : ℕ) (b : ℕ) (c : ℕ) → y ≡ s.Update a b c → ⊥) → Sort.Bool ≡ shape_sort y
unfolding shape_sort
formula-sort (s.Bound k) h0 h1 h2 h3 h4 h5 h6 h7 h8 h9 h10 h11 h12 h13 h14 h15 h16 h17 h18 h19 h20 h21 h22 h23 = absurd (h0 k refl)
formula-sort (s.FreeObject n) h0 h1 h2 h3 h4 h5 h6 h7 h8 h9 h10 h11 h12 h13 h14 h15 h16 h17 h18 h19 h20 h21 h22 h23 = absurd (h1 n refl)
formula-sort s.Null h0 h1 h2 h3 h4 h5 h6 h7 h8 h9 h10 h11 h12 h13 h14 h15 h16 h17 h18 h19 h20 h21 h22 h23 = absurd (h2 refl)
formula-sort (s.ReadObject a b) h0 h1 h2 h3 h4 h5 h6 h7 h8 h9 h10 h11 h12 h13 h14 h15 h16 h17 h18 h19 h20 h21 h22 h23 = absurd (h3 a b refl)
formula-sort (s.Const z) h0 h1 h2 h3 h4 h5 h6 h7 h8 h9 h10 h11 h12 h13 h14 h15 h16 h17 h18 h19 h20 h21 h22 h23 = absurd (h4 z refl)
formula-sort (s.FreeNumber n) h0 h1 h2 h3 h4 h5 h6 h7 h8 h9 h10 h11 h12 h13 h14 h15 h16 h17 h18 h19 h20 h21 h22 h23 = absurd (h5 n refl)
formula-sort (s.ReadNumber a b) h0 h1 h2 h3 h4 h5 h6 h7 h8 h9 h10 h11 h12 h13 h14 h15 h16 h17 h18 h19 h20 h21 h22 h23 = absurd (h6 a b refl)
formula-sort (s.Add a b) h0 h1 h2 h3 h4 h5 h6 h7 h8 h9 h10 h11 h12 h13 h14 h15 h16 h17 h18 h19 h20 h21 h22 h23 = absurd (h7 a b refl)
formula-sort (s.Sub a b) h0 h1 h2 h3 h4 h5 h6 h7 h8 h9 h10 h11 h12 h13 h14 h15 h16 h17 h18 h19 h20 h21 h22 h23 = absurd (h8 a b refl)
formula-sort (s.Neg a) h0 h1 h2 h3 h4 h5 h6 h7 h8 h9 h10 h11 h12 h13 h14 h15 h16 h17 h18 h19 h20 h21 h22 h23 = absurd (h9 a refl)
formula-sort (s.Scale z a) h0 h1 h2 h3 h4 h5 h6 h7 h8 h9 h10 h11 h12 h13 h14 h15 h16 h17 h18 h19 h20 h21 h22 h23 = absurd (h10 z a refl)
formula-sort (s.Card a) h0 h1 h2 h3 h4 h5 h6 h7 h8 h9 h10 h11 h12 h13 h14 h15 h16 h17 h18 h19 h20 h21 h22 h23 = absurd (h11 a refl)
formula-sort (s.FreeSet n) h0 h1 h2 h3 h4 h5 h6 h7 h8 h9 h10 h11 h12 h13 h14 h15 h16 h17 h18 h19 h20 h21 h22 h23 = absurd (h12 n refl)
formula-sort (s.ReadSet a b) h0 h1 h2 h3 h4 h5 h6 h7 h8 h9 h10 h11 h12 h13 h14 h15 h16 h17 h18 h19 h20 h21 h22 h23 = absurd (h13 a b refl)
formula-sort s.Empty h0 h1 h2 h3 h4 h5 h6 h7 h8 h9 h10 h11 h12 h13 h14 h15 h16 h17 h18 h19 h20 h21 h22 h23 = absurd (h14 refl)
formula-sort s.Univ h0 h1 h2 h3 h4 h5 h6 h7 h8 h9 h10 h11 h12 h13 h14 h15 h16 h17 h18 h19 h20 h21 h22 h23 = absurd (h15 refl)
formula-sort (s.Single a) h0 h1 h2 h3 h4 h5 h6 h7 h8 h9 h10 h11 h12 h13 h14 h15 h16 h17 h18 h19 h20 h21 h22 h23 = absurd (h16 a refl)
formula-sort (s.Union a b) h0 h1 h2 h3 h4 h5 h6 h7 h8 h9 h10 h11 h12 h13 h14 h15 h16 h17 h18 h19 h20 h21 h22 h23 = absurd (h17 a b refl)
formula-sort (s.Inter a b) h0 h1 h2 h3 h4 h5 h6 h7 h8 h9 h10 h11 h12 h13 h14 h15 h16 h17 h18 h19 h20 h21 h22 h23 = absurd (h18 a b refl)
formula-sort (s.Diff a b) h0 h1 h2 h3 h4 h5 h6 h7 h8 h9 h10 h11 h12 h13 h14 h15 h16 h17 h18 h19 h20 h21 h22 h23 = absurd (h19 a b refl)
formula-sort (s.Compl a) h0 h1 h2 h3 h4 h5 h6 h7 h8 h9 h10 h11 h12 h13 h14 h15 h16 h17 h18 h19 h20 h21 h22 h23 = absurd (h20 a refl)
formula-sort (s.Compr a) h0 h1 h2 h3 h4 h5 h6 h7 h8 h9 h10 h11 h12 h13 h14 h15 h16 h17 h18 h19 h20 h21 h22 h23 = absurd (h21 a refl)
formula-sort (s.FreeField n) h0 h1 h2 h3 h4 h5 h6 h7 h8 h9 h10 h11 h12 h13 h14 h15 h16 h17 h18 h19 h20 h21 h22 h23 = absurd (h22 n refl)
formula-sort (s.Update a b c) h0 h1 h2 h3 h4 h5 h6 h7 h8 h9 h10 h11 h12 h13 h14 h15 h16 h17 h18 h19 h20 h21 h22 h23 = absurd (h23 a b c refl)
formula-sort _ h0 h1 h2 h3 h4 h5 h6 h7 h8 h9 h10 h11 h12 h13 h14 h15 h16 h17 h18 h19 h20 h21 h22 h23 = refl
