-- Written by tools/table.py.
-- The parts of a shape that fits stand in the list.
use Rattle.std.proofs.Common.{◌≡◌, refl, sym, ℕ, zero, suc, ◌<◌, true, List, [], ◌∷◌, ◌++◌, length, slice_get, Some, None, is_some, arith}
use Rattle.std.specs.Prelude.{Option}
use Rattle.std.proofs.lemmas.Option.{slice_get_within}
use Rattle.std.proofs.lemmas.Bool.{true≢false}
use Rattle.jh_form.specs.Tree.{ValueTree}
use Rattle.jh_form.proofs.ClosedLemmas.{both-left, both-right}
use Rattle.jh_arena.specs.table.Entries.{Pools, the_list, is_field, are_fields}
use Rattle.jh_arena.specs.declared.table.shapes.Shape.{Shape}
use Rattle.jh_arena.specs.declared.table.shapes.Shape.TheVariants as s
use Rattle.jh_arena.specs.table.Nodes.{fits}
use Rattle.jh_arena.specs.table.Parts.{list_parts, own_parts, parts}
use Rattle.jh_arena.proofs.table.Growing.{object-some, number-some, set-some, field-some, truth-some}
use Rattle.jh_arena.proofs.table.PartSteps.{part-Add-a, part-Add-b, part-All-a, part-And-a, part-And-b, part-Card-a, part-Compl-a, part-Compr-a, part-Diff-a, part-Diff-b, part-Divides-a, part-EqNumber-a, part-EqNumber-b, part-EqObject-a, part-EqObject-b, part-EqSet-a, part-EqSet-b, part-Ex-a, part-Iff-a, part-Iff-b, part-Implies-a, part-Implies-b, part-Inter-a, part-Inter-b, part-Less-a, part-Less-b, part-LessEqual-a, part-LessEqual-b, part-Mark-a, part-Member-a, part-Member-b, part-Neg-a, part-Negation-a, part-Or-a, part-Or-b, part-Reach-a, part-Reach-b, part-Reach-fields, part-ReadNumber-a, part-ReadNumber-b, part-ReadObject-a, part-ReadObject-b, part-ReadSet-a, part-ReadSet-b, part-ReadTruth-a, part-ReadTruth-b, part-Scale-a, part-Single-a, part-Sub-a, part-Sub-b, part-Subset-a, part-Subset-b, part-Tree-fields, part-Union-a, part-Union-b, part-Update-a, part-Update-b, part-Update-c}

-- each number of the list is below n
abbrev pub Below : ℕ → List ℕ → Type 0
Below n [] = Unit {0}
Below n (x ∷ xs) = (x < n) × Below n xs

pub below-append : (n : ℕ) (xs ys : List ℕ) → Below n xs → Below n ys → Below n (xs ++ ys)
below-append n [] ys h k = k
below-append n (x ∷ xs) ys h k = (h.0, below-append n xs ys h.1 k)

pub below-at : (n : ℕ) (xs : List ℕ) (i k : ℕ) → Below n xs → slice_get xs i ≡ Some k → k < n
below-at n [] i k h e = absurd (cc)
below-at n (x ∷ xs) zero k h e = let same : x ≡ k = cc in omega (arith, h.0)
below-at n (x ∷ xs) (suc i) k h e = below-at n xs i k h.1 e

pub inside : {X : Type 0} (xs : List X) (n : ℕ) → is_some (slice_get xs n) ≡ true → n < length xs
inside {X} xs n h = by (slice_get xs n) refl h
  where
    by : (o : Option X) → slice_get xs n ≡ o → is_some o ≡ true → n < length xs
    by (Some v) e k = slice_get_within xs n v e
    by None e k = absurd (true≢false (sym k))

module _ (p : Pools) (ts : List ValueTree) where
  fields-below : (ns : List ℕ) → are_fields ts ns ≡ true → Below (length ts) ns
  unfolding are_fields
  fields-below [] h = tt
  fields-below (n ∷ ns) h = (inside ts n (field-some (slice_get ts n) (both-left (is_field (slice_get ts n)) (are_fields ts ns) h)), fields-below ns (both-right (is_field (slice_get ts n)) (are_fields ts ns) h))

  list_parts-below : (x : Shape) → fits p ts x ≡ true → Below (length ts) (list_parts p.lists x)
  unfolding list_parts
  list_parts-below (s.Bound k) h = tt
  list_parts-below (s.FreeObject n) h = tt
  list_parts-below s.Null h = tt
  list_parts-below (s.ReadObject a b) h = tt
  list_parts-below (s.Const z) h = tt
  list_parts-below (s.FreeNumber n) h = tt
  list_parts-below (s.ReadNumber a b) h = tt
  list_parts-below (s.Add a b) h = tt
  list_parts-below (s.Sub a b) h = tt
  list_parts-below (s.Neg a) h = tt
  list_parts-below (s.Scale z a) h = tt
  list_parts-below (s.Card a) h = tt
  list_parts-below (s.FreeSet n) h = tt
  list_parts-below (s.ReadSet a b) h = tt
  list_parts-below s.Empty h = tt
  list_parts-below s.Univ h = tt
  list_parts-below (s.Single a) h = tt
  list_parts-below (s.Union a b) h = tt
  list_parts-below (s.Inter a b) h = tt
  list_parts-below (s.Diff a b) h = tt
  list_parts-below (s.Compl a) h = tt
  list_parts-below (s.Compr a) h = tt
  list_parts-below (s.FreeField n) h = tt
  list_parts-below (s.Update a b c) h = tt
  list_parts-below s.True h = tt
  list_parts-below s.False h = tt
  list_parts-below (s.FreeTruth n) h = tt
  list_parts-below (s.ReadTruth a b) h = tt
  list_parts-below (s.Negation a) h = tt
  list_parts-below (s.And a b) h = tt
  list_parts-below (s.Or a b) h = tt
  list_parts-below (s.Implies a b) h = tt
  list_parts-below (s.Iff a b) h = tt
  list_parts-below (s.All a) h = tt
  list_parts-below (s.Ex a) h = tt
  list_parts-below (s.EqObject a b) h = tt
  list_parts-below (s.EqNumber a b) h = tt
  list_parts-below (s.EqSet a b) h = tt
  list_parts-below (s.Less a b) h = tt
  list_parts-below (s.LessEqual a b) h = tt
  list_parts-below (s.Divides z a) h = tt
  list_parts-below (s.Member a b) h = tt
  list_parts-below (s.Subset a b) h = tt
  list_parts-below (s.Reach l a b) h = fields-below (the_list (slice_get p.lists l)) (part-Reach-fields p ts l a b h)
  list_parts-below (s.Tree l) h = fields-below (the_list (slice_get p.lists l)) (part-Tree-fields p ts l h)
  list_parts-below (s.Mark m a) h = tt

  own_parts-below : (x : Shape) → fits p ts x ≡ true → Below (length ts) (own_parts x)
  unfolding own_parts
  own_parts-below (s.Bound k) h = tt
  own_parts-below (s.FreeObject n) h = tt
  own_parts-below s.Null h = tt
  own_parts-below (s.ReadObject a b) h = (inside ts a (field-some (slice_get ts a) (part-ReadObject-a p ts a b h)), (inside ts b (object-some (slice_get ts b) (part-ReadObject-b p ts a b h)), tt))
  own_parts-below (s.Const z) h = tt
  own_parts-below (s.FreeNumber n) h = tt
  own_parts-below (s.ReadNumber a b) h = (inside ts a (field-some (slice_get ts a) (part-ReadNumber-a p ts a b h)), (inside ts b (object-some (slice_get ts b) (part-ReadNumber-b p ts a b h)), tt))
  own_parts-below (s.Add a b) h = (inside ts a (number-some (slice_get ts a) (part-Add-a p ts a b h)), (inside ts b (number-some (slice_get ts b) (part-Add-b p ts a b h)), tt))
  own_parts-below (s.Sub a b) h = (inside ts a (number-some (slice_get ts a) (part-Sub-a p ts a b h)), (inside ts b (number-some (slice_get ts b) (part-Sub-b p ts a b h)), tt))
  own_parts-below (s.Neg a) h = (inside ts a (number-some (slice_get ts a) (part-Neg-a p ts a h)), tt)
  own_parts-below (s.Scale z a) h = (inside ts a (number-some (slice_get ts a) (part-Scale-a p ts z a h)), tt)
  own_parts-below (s.Card a) h = (inside ts a (set-some (slice_get ts a) (part-Card-a p ts a h)), tt)
  own_parts-below (s.FreeSet n) h = tt
  own_parts-below (s.ReadSet a b) h = (inside ts a (field-some (slice_get ts a) (part-ReadSet-a p ts a b h)), (inside ts b (object-some (slice_get ts b) (part-ReadSet-b p ts a b h)), tt))
  own_parts-below s.Empty h = tt
  own_parts-below s.Univ h = tt
  own_parts-below (s.Single a) h = (inside ts a (object-some (slice_get ts a) (part-Single-a p ts a h)), tt)
  own_parts-below (s.Union a b) h = (inside ts a (set-some (slice_get ts a) (part-Union-a p ts a b h)), (inside ts b (set-some (slice_get ts b) (part-Union-b p ts a b h)), tt))
  own_parts-below (s.Inter a b) h = (inside ts a (set-some (slice_get ts a) (part-Inter-a p ts a b h)), (inside ts b (set-some (slice_get ts b) (part-Inter-b p ts a b h)), tt))
  own_parts-below (s.Diff a b) h = (inside ts a (set-some (slice_get ts a) (part-Diff-a p ts a b h)), (inside ts b (set-some (slice_get ts b) (part-Diff-b p ts a b h)), tt))
  own_parts-below (s.Compl a) h = (inside ts a (set-some (slice_get ts a) (part-Compl-a p ts a h)), tt)
  own_parts-below (s.Compr a) h = (inside ts a (truth-some (slice_get ts a) (part-Compr-a p ts a h)), tt)
  own_parts-below (s.FreeField n) h = tt
  own_parts-below (s.Update a b c) h = (inside ts a (field-some (slice_get ts a) (part-Update-a p ts a b c h)), (inside ts b (object-some (slice_get ts b) (part-Update-b p ts a b c h)), (inside ts c (part-Update-c p ts a b c h), tt)))
  own_parts-below s.True h = tt
  own_parts-below s.False h = tt
  own_parts-below (s.FreeTruth n) h = tt
  own_parts-below (s.ReadTruth a b) h = (inside ts a (field-some (slice_get ts a) (part-ReadTruth-a p ts a b h)), (inside ts b (object-some (slice_get ts b) (part-ReadTruth-b p ts a b h)), tt))
  own_parts-below (s.Negation a) h = (inside ts a (truth-some (slice_get ts a) (part-Negation-a p ts a h)), tt)
  own_parts-below (s.And a b) h = (inside ts a (truth-some (slice_get ts a) (part-And-a p ts a b h)), (inside ts b (truth-some (slice_get ts b) (part-And-b p ts a b h)), tt))
  own_parts-below (s.Or a b) h = (inside ts a (truth-some (slice_get ts a) (part-Or-a p ts a b h)), (inside ts b (truth-some (slice_get ts b) (part-Or-b p ts a b h)), tt))
  own_parts-below (s.Implies a b) h = (inside ts a (truth-some (slice_get ts a) (part-Implies-a p ts a b h)), (inside ts b (truth-some (slice_get ts b) (part-Implies-b p ts a b h)), tt))
  own_parts-below (s.Iff a b) h = (inside ts a (truth-some (slice_get ts a) (part-Iff-a p ts a b h)), (inside ts b (truth-some (slice_get ts b) (part-Iff-b p ts a b h)), tt))
  own_parts-below (s.All a) h = (inside ts a (truth-some (slice_get ts a) (part-All-a p ts a h)), tt)
  own_parts-below (s.Ex a) h = (inside ts a (truth-some (slice_get ts a) (part-Ex-a p ts a h)), tt)
  own_parts-below (s.EqObject a b) h = (inside ts a (object-some (slice_get ts a) (part-EqObject-a p ts a b h)), (inside ts b (object-some (slice_get ts b) (part-EqObject-b p ts a b h)), tt))
  own_parts-below (s.EqNumber a b) h = (inside ts a (number-some (slice_get ts a) (part-EqNumber-a p ts a b h)), (inside ts b (number-some (slice_get ts b) (part-EqNumber-b p ts a b h)), tt))
  own_parts-below (s.EqSet a b) h = (inside ts a (set-some (slice_get ts a) (part-EqSet-a p ts a b h)), (inside ts b (set-some (slice_get ts b) (part-EqSet-b p ts a b h)), tt))
  own_parts-below (s.Less a b) h = (inside ts a (number-some (slice_get ts a) (part-Less-a p ts a b h)), (inside ts b (number-some (slice_get ts b) (part-Less-b p ts a b h)), tt))
  own_parts-below (s.LessEqual a b) h = (inside ts a (number-some (slice_get ts a) (part-LessEqual-a p ts a b h)), (inside ts b (number-some (slice_get ts b) (part-LessEqual-b p ts a b h)), tt))
  own_parts-below (s.Divides z a) h = (inside ts a (number-some (slice_get ts a) (part-Divides-a p ts z a h)), tt)
  own_parts-below (s.Member a b) h = (inside ts a (object-some (slice_get ts a) (part-Member-a p ts a b h)), (inside ts b (set-some (slice_get ts b) (part-Member-b p ts a b h)), tt))
  own_parts-below (s.Subset a b) h = (inside ts a (set-some (slice_get ts a) (part-Subset-a p ts a b h)), (inside ts b (set-some (slice_get ts b) (part-Subset-b p ts a b h)), tt))
  own_parts-below (s.Reach l a b) h = (inside ts a (object-some (slice_get ts a) (part-Reach-a p ts l a b h)), (inside ts b (object-some (slice_get ts b) (part-Reach-b p ts l a b h)), tt))
  own_parts-below (s.Tree l) h = tt
  own_parts-below (s.Mark m a) h = (inside ts a (truth-some (slice_get ts a) (part-Mark-a p ts m a h)), tt)

  pub parts-below : (x : Shape) → fits p ts x ≡ true → (i k : ℕ) → slice_get (parts p.lists x) i ≡ Some k → k < length ts
  parts-below x h i k e = below-at (length ts) (parts p.lists x) i k (below-append (length ts) (list_parts p.lists x) (own_parts x) (list_parts-below x h) (own_parts-below x h)) e
