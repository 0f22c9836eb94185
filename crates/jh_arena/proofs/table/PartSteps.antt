-- Written by tools/table.py.
-- What is known of the parts of a shape that fits.
use Rattle.std.proofs.Common.{◌≡◌, ℕ, ℤ, true, ◌&&◌, List, slice_get, is_some}
use Rattle.jh_form.specs.Tree.{ValueTree}
use Rattle.jh_form.proofs.ClosedLemmas.{both-left, both-right}
use Rattle.jh_arena.specs.table.Entries.{Pools, the_list, is_object, is_number, is_set, is_field, is_truth, are_fields}
use Rattle.jh_arena.specs.declared.table.shapes.Shape.TheVariants as s
use Rattle.jh_arena.specs.table.Nodes.{fits}

module _ (p : Pools) (ts : List ValueTree) where
  pub part-FreeObject-n : (n : ℕ) → fits p ts (s.FreeObject n) ≡ true → is_some (slice_get p.names n) ≡ true
  unfolding fits
  part-FreeObject-n n h = h

  pub part-ReadObject-a : (a : ℕ) (b : ℕ) → fits p ts (s.ReadObject a b) ≡ true → is_field (slice_get ts a) ≡ true
  unfolding fits
  part-ReadObject-a a b h = (both-left (is_field (slice_get ts a)) (is_object (slice_get ts b)) h)

  pub part-ReadObject-b : (a : ℕ) (b : ℕ) → fits p ts (s.ReadObject a b) ≡ true → is_object (slice_get ts b) ≡ true
  unfolding fits
  part-ReadObject-b a b h = both-right (is_field (slice_get ts a)) (is_object (slice_get ts b)) h

  pub part-FreeNumber-n : (n : ℕ) → fits p ts (s.FreeNumber n) ≡ true → is_some (slice_get p.names n) ≡ true
  unfolding fits
  part-FreeNumber-n n h = h

  pub part-ReadNumber-a : (a : ℕ) (b : ℕ) → fits p ts (s.ReadNumber a b) ≡ true → is_field (slice_get ts a) ≡ true
  unfolding fits
  part-ReadNumber-a a b h = (both-left (is_field (slice_get ts a)) (is_object (slice_get ts b)) h)

  pub part-ReadNumber-b : (a : ℕ) (b : ℕ) → fits p ts (s.ReadNumber a b) ≡ true → is_object (slice_get ts b) ≡ true
  unfolding fits
  part-ReadNumber-b a b h = both-right (is_field (slice_get ts a)) (is_object (slice_get ts b)) h

  pub part-Add-a : (a : ℕ) (b : ℕ) → fits p ts (s.Add a b) ≡ true → is_number (slice_get ts a) ≡ true
  unfolding fits
  part-Add-a a b h = (both-left (is_number (slice_get ts a)) (is_number (slice_get ts b)) h)

  pub part-Add-b : (a : ℕ) (b : ℕ) → fits p ts (s.Add a b) ≡ true → is_number (slice_get ts b) ≡ true
  unfolding fits
  part-Add-b a b h = both-right (is_number (slice_get ts a)) (is_number (slice_get ts b)) h

  pub part-Sub-a : (a : ℕ) (b : ℕ) → fits p ts (s.Sub a b) ≡ true → is_number (slice_get ts a) ≡ true
  unfolding fits
  part-Sub-a a b h = (both-left (is_number (slice_get ts a)) (is_number (slice_get ts b)) h)

  pub part-Sub-b : (a : ℕ) (b : ℕ) → fits p ts (s.Sub a b) ≡ true → is_number (slice_get ts b) ≡ true
  unfolding fits
  part-Sub-b a b h = both-right (is_number (slice_get ts a)) (is_number (slice_get ts b)) h

  pub part-Neg-a : (a : ℕ) → fits p ts (s.Neg a) ≡ true → is_number (slice_get ts a) ≡ true
  unfolding fits
  part-Neg-a a h = h

  pub part-Scale-a : (z : ℤ) (a : ℕ) → fits p ts (s.Scale z a) ≡ true → is_number (slice_get ts a) ≡ true
  unfolding fits
  part-Scale-a z a h = h

  pub part-Card-a : (a : ℕ) → fits p ts (s.Card a) ≡ true → is_set (slice_get ts a) ≡ true
  unfolding fits
  part-Card-a a h = h

  pub part-FreeSet-n : (n : ℕ) → fits p ts (s.FreeSet n) ≡ true → is_some (slice_get p.names n) ≡ true
  unfolding fits
  part-FreeSet-n n h = h

  pub part-ReadSet-a : (a : ℕ) (b : ℕ) → fits p ts (s.ReadSet a b) ≡ true → is_field (slice_get ts a) ≡ true
  unfolding fits
  part-ReadSet-a a b h = (both-left (is_field (slice_get ts a)) (is_object (slice_get ts b)) h)

  pub part-ReadSet-b : (a : ℕ) (b : ℕ) → fits p ts (s.ReadSet a b) ≡ true → is_object (slice_get ts b) ≡ true
  unfolding fits
  part-ReadSet-b a b h = both-right (is_field (slice_get ts a)) (is_object (slice_get ts b)) h

  pub part-Single-a : (a : ℕ) → fits p ts (s.Single a) ≡ true → is_object (slice_get ts a) ≡ true
  unfolding fits
  part-Single-a a h = h

  pub part-Union-a : (a : ℕ) (b : ℕ) → fits p ts (s.Union a b) ≡ true → is_set (slice_get ts a) ≡ true
  unfolding fits
  part-Union-a a b h = (both-left (is_set (slice_get ts a)) (is_set (slice_get ts b)) h)

  pub part-Union-b : (a : ℕ) (b : ℕ) → fits p ts (s.Union a b) ≡ true → is_set (slice_get ts b) ≡ true
  unfolding fits
  part-Union-b a b h = both-right (is_set (slice_get ts a)) (is_set (slice_get ts b)) h

  pub part-Inter-a : (a : ℕ) (b : ℕ) → fits p ts (s.Inter a b) ≡ true → is_set (slice_get ts a) ≡ true
  unfolding fits
  part-Inter-a a b h = (both-left (is_set (slice_get ts a)) (is_set (slice_get ts b)) h)

  pub part-Inter-b : (a : ℕ) (b : ℕ) → fits p ts (s.Inter a b) ≡ true → is_set (slice_get ts b) ≡ true
  unfolding fits
  part-Inter-b a b h = both-right (is_set (slice_get ts a)) (is_set (slice_get ts b)) h

  pub part-Diff-a : (a : ℕ) (b : ℕ) → fits p ts (s.Diff a b) ≡ true → is_set (slice_get ts a) ≡ true
  unfolding fits
  part-Diff-a a b h = (both-left (is_set (slice_get ts a)) (is_set (slice_get ts b)) h)

  pub part-Diff-b : (a : ℕ) (b : ℕ) → fits p ts (s.Diff a b) ≡ true → is_set (slice_get ts b) ≡ true
  unfolding fits
  part-Diff-b a b h = both-right (is_set (slice_get ts a)) (is_set (slice_get ts b)) h

  pub part-Compl-a : (a : ℕ) → fits p ts (s.Compl a) ≡ true → is_set (slice_get ts a) ≡ true
  unfolding fits
  part-Compl-a a h = h

  pub part-Compr-a : (a : ℕ) → fits p ts (s.Compr a) ≡ true → is_truth (slice_get ts a) ≡ true
  unfolding fits
  part-Compr-a a h = h

  pub part-FreeField-n : (n : ℕ) → fits p ts (s.FreeField n) ≡ true → is_some (slice_get p.names n) ≡ true
  unfolding fits
  part-FreeField-n n h = h

  pub part-Update-a : (a : ℕ) (b : ℕ) (c : ℕ) → fits p ts (s.Update a b c) ≡ true → is_field (slice_get ts a) ≡ true
  unfolding fits
  part-Update-a a b c h = (both-left (is_field (slice_get ts a)) (is_object (slice_get ts b)) (both-left (is_field (slice_get ts a) && is_object (slice_get ts b)) (is_some (slice_get ts c)) h))

  pub part-Update-b : (a : ℕ) (b : ℕ) (c : ℕ) → fits p ts (s.Update a b c) ≡ true → is_object (slice_get ts b) ≡ true
  unfolding fits
  part-Update-b a b c h = both-right (is_field (slice_get ts a)) (is_object (slice_get ts b)) (both-left (is_field (slice_get ts a) && is_object (slice_get ts b)) (is_some (slice_get ts c)) h)

  pub part-Update-c : (a : ℕ) (b : ℕ) (c : ℕ) → fits p ts (s.Update a b c) ≡ true → is_some (slice_get ts c) ≡ true
  unfolding fits
  part-Update-c a b c h = both-right (is_field (slice_get ts a) && is_object (slice_get ts b)) (is_some (slice_get ts c)) h

  pub part-FreeTruth-n : (n : ℕ) → fits p ts (s.FreeTruth n) ≡ true → is_some (slice_get p.names n) ≡ true
  unfolding fits
  part-FreeTruth-n n h = h

  pub part-ReadTruth-a : (a : ℕ) (b : ℕ) → fits p ts (s.ReadTruth a b) ≡ true → is_field (slice_get ts a) ≡ true
  unfolding fits
  part-ReadTruth-a a b h = (both-left (is_field (slice_get ts a)) (is_object (slice_get ts b)) h)

  pub part-ReadTruth-b : (a : ℕ) (b : ℕ) → fits p ts (s.ReadTruth a b) ≡ true → is_object (slice_get ts b) ≡ true
  unfolding fits
  part-ReadTruth-b a b h = both-right (is_field (slice_get ts a)) (is_object (slice_get ts b)) h

  pub part-Negation-a : (a : ℕ) → fits p ts (s.Negation a) ≡ true → is_truth (slice_get ts a) ≡ true
  unfolding fits
  part-Negation-a a h = h

  pub part-And-a : (a : ℕ) (b : ℕ) → fits p ts (s.And a b) ≡ true → is_truth (slice_get ts a) ≡ true
  unfolding fits
  part-And-a a b h = (both-left (is_truth (slice_get ts a)) (is_truth (slice_get ts b)) h)

  pub part-And-b : (a : ℕ) (b : ℕ) → fits p ts (s.And a b) ≡ true → is_truth (slice_get ts b) ≡ true
  unfolding fits
  part-And-b a b h = both-right (is_truth (slice_get ts a)) (is_truth (slice_get ts b)) h

  pub part-Or-a : (a : ℕ) (b : ℕ) → fits p ts (s.Or a b) ≡ true → is_truth (slice_get ts a) ≡ true
  unfolding fits
  part-Or-a a b h = (both-left (is_truth (slice_get ts a)) (is_truth (slice_get ts b)) h)

  pub part-Or-b : (a : ℕ) (b : ℕ) → fits p ts (s.Or a b) ≡ true → is_truth (slice_get ts b) ≡ true
  unfolding fits
  part-Or-b a b h = both-right (is_truth (slice_get ts a)) (is_truth (slice_get ts b)) h

  pub part-Implies-a : (a : ℕ) (b : ℕ) → fits p ts (s.Implies a b) ≡ true → is_truth (slice_get ts a) ≡ true
  unfolding fits
  part-Implies-a a b h = (both-left (is_truth (slice_get ts a)) (is_truth (slice_get ts b)) h)

  pub part-Implies-b : (a : ℕ) (b : ℕ) → fits p ts (s.Implies a b) ≡ true → is_truth (slice_get ts b) ≡ true
  unfolding fits
  part-Implies-b a b h = both-right (is_truth (slice_get ts a)) (is_truth (slice_get ts b)) h

  pub part-Iff-a : (a : ℕ) (b : ℕ) → fits p ts (s.Iff a b) ≡ true → is_truth (slice_get ts a) ≡ true
  unfolding fits
  part-Iff-a a b h = (both-left (is_truth (slice_get ts a)) (is_truth (slice_get ts b)) h)

  pub part-Iff-b : (a : ℕ) (b : ℕ) → fits p ts (s.Iff a b) ≡ true → is_truth (slice_get ts b) ≡ true
  unfolding fits
  part-Iff-b a b h = both-right (is_truth (slice_get ts a)) (is_truth (slice_get ts b)) h

  pub part-All-a : (a : ℕ) → fits p ts (s.All a) ≡ true → is_truth (slice_get ts a) ≡ true
  unfolding fits
  part-All-a a h = h

  pub part-Ex-a : (a : ℕ) → fits p ts (s.Ex a) ≡ true → is_truth (slice_get ts a) ≡ true
  unfolding fits
  part-Ex-a a h = h

  pub part-EqObject-a : (a : ℕ) (b : ℕ) → fits p ts (s.EqObject a b) ≡ true → is_object (slice_get ts a) ≡ true
  unfolding fits
  part-EqObject-a a b h = (both-left (is_object (slice_get ts a)) (is_object (slice_get ts b)) h)

  pub part-EqObject-b : (a : ℕ) (b : ℕ) → fits p ts (s.EqObject a b) ≡ true → is_object (slice_get ts b) ≡ true
  unfolding fits
  part-EqObject-b a b h = both-right (is_object (slice_get ts a)) (is_object (slice_get ts b)) h

  pub part-EqNumber-a : (a : ℕ) (b : ℕ) → fits p ts (s.EqNumber a b) ≡ true → is_number (slice_get ts a) ≡ true
  unfolding fits
  part-EqNumber-a a b h = (both-left (is_number (slice_get ts a)) (is_number (slice_get ts b)) h)

  pub part-EqNumber-b : (a : ℕ) (b : ℕ) → fits p ts (s.EqNumber a b) ≡ true → is_number (slice_get ts b) ≡ true
  unfolding fits
  part-EqNumber-b a b h = both-right (is_number (slice_get ts a)) (is_number (slice_get ts b)) h

  pub part-EqSet-a : (a : ℕ) (b : ℕ) → fits p ts (s.EqSet a b) ≡ true → is_set (slice_get ts a) ≡ true
  unfolding fits
  part-EqSet-a a b h = (both-left (is_set (slice_get ts a)) (is_set (slice_get ts b)) h)

  pub part-EqSet-b : (a : ℕ) (b : ℕ) → fits p ts (s.EqSet a b) ≡ true → is_set (slice_get ts b) ≡ true
  unfolding fits
  part-EqSet-b a b h = both-right (is_set (slice_get ts a)) (is_set (slice_get ts b)) h

  pub part-Less-a : (a : ℕ) (b : ℕ) → fits p ts (s.Less a b) ≡ true → is_number (slice_get ts a) ≡ true
  unfolding fits
  part-Less-a a b h = (both-left (is_number (slice_get ts a)) (is_number (slice_get ts b)) h)

  pub part-Less-b : (a : ℕ) (b : ℕ) → fits p ts (s.Less a b) ≡ true → is_number (slice_get ts b) ≡ true
  unfolding fits
  part-Less-b a b h = both-right (is_number (slice_get ts a)) (is_number (slice_get ts b)) h

  pub part-LessEqual-a : (a : ℕ) (b : ℕ) → fits p ts (s.LessEqual a b) ≡ true → is_number (slice_get ts a) ≡ true
  unfolding fits
  part-LessEqual-a a b h = (both-left (is_number (slice_get ts a)) (is_number (slice_get ts b)) h)

  pub part-LessEqual-b : (a : ℕ) (b : ℕ) → fits p ts (s.LessEqual a b) ≡ true → is_number (slice_get ts b) ≡ true
  unfolding fits
  part-LessEqual-b a b h = both-right (is_number (slice_get ts a)) (is_number (slice_get ts b)) h

  pub part-Divides-a : (z : ℤ) (a : ℕ) → fits p ts (s.Divides z a) ≡ true → is_number (slice_get ts a) ≡ true
  unfolding fits
  part-Divides-a z a h = h

  pub part-Member-a : (a : ℕ) (b : ℕ) → fits p ts (s.Member a b) ≡ true → is_object (slice_get ts a) ≡ true
  unfolding fits
  part-Member-a a b h = (both-left (is_object (slice_get ts a)) (is_set (slice_get ts b)) h)

  pub part-Member-b : (a : ℕ) (b : ℕ) → fits p ts (s.Member a b) ≡ true → is_set (slice_get ts b) ≡ true
  unfolding fits
  part-Member-b a b h = both-right (is_object (slice_get ts a)) (is_set (slice_get ts b)) h

  pub part-Subset-a : (a : ℕ) (b : ℕ) → fits p ts (s.Subset a b) ≡ true → is_set (slice_get ts a) ≡ true
  unfolding fits
  part-Subset-a a b h = (both-left (is_set (slice_get ts a)) (is_set (slice_get ts b)) h)

  pub part-Subset-b : (a : ℕ) (b : ℕ) → fits p ts (s.Subset a b) ≡ true → is_set (slice_get ts b) ≡ true
  unfolding fits
  part-Subset-b a b h = both-right (is_set (slice_get ts a)) (is_set (slice_get ts b)) h

  pub part-Reach-l : (l : ℕ) (a : ℕ) (b : ℕ) → fits p ts (s.Reach l a b) ≡ true → is_some (slice_get p.lists l) ≡ true
  unfolding fits
  part-Reach-l l a b h = (both-left (is_some (slice_get p.lists l)) (are_fields ts (the_list (slice_get p.lists l))) (both-left (is_some (slice_get p.lists l) && are_fields ts (the_list (slice_get p.lists l))) (is_object (slice_get ts a)) (both-left (is_some (slice_get p.lists l) && are_fields ts (the_list (slice_get p.lists l)) && is_object (slice_get ts a)) (is_object (slice_get ts b)) h)))

  pub part-Reach-fields : (l : ℕ) (a : ℕ) (b : ℕ) → fits p ts (s.Reach l a b) ≡ true → are_fields ts (the_list (slice_get p.lists l)) ≡ true
  unfolding fits
  part-Reach-fields l a b h = both-right (is_some (slice_get p.lists l)) (are_fields ts (the_list (slice_get p.lists l))) (both-left (is_some (slice_get p.lists l) && are_fields ts (the_list (slice_get p.lists l))) (is_object (slice_get ts a)) (both-left (is_some (slice_get p.lists l) && are_fields ts (the_list (slice_get p.lists l)) && is_object (slice_get ts a)) (is_object (slice_get ts b)) h))

  pub part-Reach-a : (l : ℕ) (a : ℕ) (b : ℕ) → fits p ts (s.Reach l a b) ≡ true → is_object (slice_get ts a) ≡ true
  unfolding fits
  part-Reach-a l a b h = both-right (is_some (slice_get p.lists l) && are_fields ts (the_list (slice_get p.lists l))) (is_object (slice_get ts a)) (both-left (is_some (slice_get p.lists l) && are_fields ts (the_list (slice_get p.lists l)) && is_object (slice_get ts a)) (is_object (slice_get ts b)) h)

  pub part-Reach-b : (l : ℕ) (a : ℕ) (b : ℕ) → fits p ts (s.Reach l a b) ≡ true → is_object (slice_get ts b) ≡ true
  unfolding fits
  part-Reach-b l a b h = both-right (is_some (slice_get p.lists l) && are_fields ts (the_list (slice_get p.lists l)) && is_object (slice_get ts a)) (is_object (slice_get ts b)) h

  pub part-Tree-l : (l : ℕ) → fits p ts (s.Tree l) ≡ true → is_some (slice_get p.lists l) ≡ true
  unfolding fits
  part-Tree-l l h = (both-left (is_some (slice_get p.lists l)) (are_fields ts (the_list (slice_get p.lists l))) h)

  pub part-Tree-fields : (l : ℕ) → fits p ts (s.Tree l) ≡ true → are_fields ts (the_list (slice_get p.lists l)) ≡ true
  unfolding fits
  part-Tree-fields l h = both-right (is_some (slice_get p.lists l)) (are_fields ts (the_list (slice_get p.lists l))) h

  pub part-Mark-m : (m : ℕ) (a : ℕ) → fits p ts (s.Mark m a) ≡ true → is_some (slice_get p.marks m) ≡ true
  unfolding fits
  part-Mark-m m a h = (both-left (is_some (slice_get p.marks m)) (is_truth (slice_get ts a)) h)

  pub part-Mark-a : (m : ℕ) (a : ℕ) → fits p ts (s.Mark m a) ≡ true → is_truth (slice_get ts a) ≡ true
  unfolding fits
  part-Mark-a m a h = both-right (is_some (slice_get p.marks m)) (is_truth (slice_get ts a)) h

pub ruleset part_steps = (part-FreeObject-n, part-ReadObject-a, part-ReadObject-b, part-FreeNumber-n, part-ReadNumber-a, part-ReadNumber-b, part-Add-a, part-Add-b, part-Sub-a, part-Sub-b, part-Neg-a, part-Scale-a, part-Card-a, part-FreeSet-n, part-ReadSet-a, part-ReadSet-b, part-Single-a, part-Union-a, part-Union-b, part-Inter-a, part-Inter-b, part-Diff-a, part-Diff-b, part-Compl-a, part-Compr-a, part-FreeField-n, part-Update-a, part-Update-b, part-Update-c, part-FreeTruth-n, part-ReadTruth-a, part-ReadTruth-b, part-Negation-a, part-And-a, part-And-b, part-Or-a, part-Or-b, part-Implies-a, part-Implies-b, part-Iff-a, part-Iff-b, part-All-a, part-Ex-a, part-EqObject-a, part-EqObject-b, part-EqNumber-a, part-EqNumber-b, part-EqSet-a, part-EqSet-b, part-Less-a, part-Less-b, part-LessEqual-a, part-LessEqual-b, part-Divides-a, part-Member-a, part-Member-b, part-Subset-a, part-Subset-b, part-Reach-l, part-Reach-fields, part-Reach-a, part-Reach-b, part-Tree-l, part-Tree-fields, part-Mark-m, part-Mark-a)
