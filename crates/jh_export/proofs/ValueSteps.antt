-- Written by tools/value.py.
-- What the functions that make boxed terms and formulas cite of the shape of a node.
use Rattle.std.proofs.Common.{◌≡◌, refl, sym, ap, ◌∙◌, ℕ, ◌<◌, ℤ, true, [], ◌∷◌, length, slice_get, is_some}
use Rattle.std.proofs.lemmas.Bool.{true≢false}
use Rattle.jh_form.specs.Tree as tree
use Rattle.jh_form.proofs.Steps.{term_tree-Bound, term_tree-Free, term_tree-Null, term_tree-Read, int_tree-Const, int_tree-Free, int_tree-Read, int_tree-Add, int_tree-Sub, int_tree-Neg, int_tree-Scale, int_tree-Card, set_tree-Free, set_tree-Read, set_tree-Empty, set_tree-Univ, set_tree-Single, set_tree-Union, set_tree-Inter, set_tree-Diff, set_tree-Compl, set_tree-Compr, field_tree-Free, field_tree-Update, formula_tree-True, formula_tree-False, formula_tree-Free, formula_tree-Read, formula_tree-Not, formula_tree-And, formula_tree-Or, formula_tree-Implies, formula_tree-Iff, formula_tree-All, formula_tree-Ex, formula_tree-EqObj, formula_tree-EqInt, formula_tree-EqSet, formula_tree-Less, formula_tree-LessEq, formula_tree-Divides, formula_tree-Member, formula_tree-Subset, formula_tree-Reach, formula_tree-Tree, formula_tree-Mark}
use Rattle.jh_arena.specs.table.Entries.{Listing, the_name, the_mark, the_list, is_object, is_number, is_set, is_field, is_truth, the_object, the_number, the_set, the_field, the_truth, the_value, are_fields, fields_at}
use Rattle.jh_arena.specs.declared.table.shapes.Shape.{Shape}
use Rattle.jh_arena.specs.declared.table.shapes.Shape.TheVariants as s
use Rattle.jh_arena.specs.table.Nodes.{nodes, shape_tree}
use Rattle.jh_arena.specs.table.Parts.{list_parts, own_parts}
use Rattle.jh_arena.proofs.table.Below.{inside}
use Rattle.jh_arena.proofs.table.PartSteps.{part-Add-a, part-Add-b, part-All-a, part-And-a, part-And-b, part-Card-a, part-Compl-a, part-Compr-a, part-Diff-a, part-Diff-b, part-Divides-a, part-EqNumber-a, part-EqNumber-b, part-EqObject-a, part-EqObject-b, part-EqSet-a, part-EqSet-b, part-Ex-a, part-FreeField-n, part-FreeNumber-n, part-FreeObject-n, part-FreeSet-n, part-FreeTruth-n, part-Iff-a, part-Iff-b, part-Implies-a, part-Implies-b, part-Inter-a, part-Inter-b, part-Less-a, part-Less-b, part-LessEqual-a, part-LessEqual-b, part-Mark-a, part-Mark-m, part-Member-a, part-Member-b, part-Neg-a, part-Negation-a, part-Or-a, part-Or-b, part-Reach-a, part-Reach-b, part-Reach-fields, part-Reach-l, part-ReadNumber-a, part-ReadNumber-b, part-ReadObject-a, part-ReadObject-b, part-ReadSet-a, part-ReadSet-b, part-ReadTruth-a, part-ReadTruth-b, part-Scale-a, part-Single-a, part-Sub-a, part-Sub-b, part-Subset-a, part-Subset-b, part-Tree-fields, part-Tree-l, part-Union-a, part-Union-b, part-Update-a, part-Update-b, part-Update-c}
use Rattle.jh_export.specs.Standing.{Stands, AreBelow}
use Rattle.jh_export.proofs.Places.{fields-below, own-below, term-inside, int-inside, set-inside, field-inside, formula-inside}

module _ (t : Listing) (i : ℕ) where
  pub stands-Bound : (k : ℕ) → Stands t i (s.Bound k) → tree.bound k ≡ the_object (slice_get (nodes t) i)
  unfolding shape_tree the_object
  stands-Bound k h = ap the_object (sym h.tree)

  pub stands-FreeObject : (n : ℕ) → Stands t i (s.FreeObject n) → tree.free_object (the_name (slice_get t.pools.names n)) ≡ the_object (slice_get (nodes t) i)
  unfolding shape_tree the_object
  stands-FreeObject n h = ap the_object (sym h.tree)

  pub sort-FreeObject-n : (n : ℕ) → Stands t i (s.FreeObject n) → is_some (slice_get t.pools.names n) ≡ true
  sort-FreeObject-n n h = part-FreeObject-n t.pools (nodes t) n h.fits

  pub stands-Null : Stands t i s.Null → tree.null ≡ the_object (slice_get (nodes t) i)
  unfolding shape_tree the_object
  stands-Null h = ap the_object (sym h.tree)

  pub stands-ReadObject : (a : ℕ) (b : ℕ) → Stands t i (s.ReadObject a b) → tree.read_object (the_field (slice_get (nodes t) a)) (the_object (slice_get (nodes t) b)) ≡ the_object (slice_get (nodes t) i)
  unfolding shape_tree the_object
  stands-ReadObject a b h = ap the_object (sym h.tree)

  pub sort-ReadObject-a : (a : ℕ) (b : ℕ) → Stands t i (s.ReadObject a b) → is_field (slice_get (nodes t) a) ≡ true
  sort-ReadObject-a a b h = part-ReadObject-a t.pools (nodes t) a b h.fits

  pub below-ReadObject-a : (a : ℕ) (b : ℕ) → Stands t i (s.ReadObject a b) → a < i
  unfolding list_parts own_parts
  below-ReadObject-a a b h = h.below.below 0 a refl

  pub sort-ReadObject-b : (a : ℕ) (b : ℕ) → Stands t i (s.ReadObject a b) → is_object (slice_get (nodes t) b) ≡ true
  sort-ReadObject-b a b h = part-ReadObject-b t.pools (nodes t) a b h.fits

  pub below-ReadObject-b : (a : ℕ) (b : ℕ) → Stands t i (s.ReadObject a b) → b < i
  unfolding list_parts own_parts
  below-ReadObject-b a b h = h.below.below 1 b refl

  pub stands-Const : (z : ℤ) → Stands t i (s.Const z) → tree.const z ≡ the_number (slice_get (nodes t) i)
  unfolding shape_tree the_number
  stands-Const z h = ap the_number (sym h.tree)

  pub stands-FreeNumber : (n : ℕ) → Stands t i (s.FreeNumber n) → tree.free_number (the_name (slice_get t.pools.names n)) ≡ the_number (slice_get (nodes t) i)
  unfolding shape_tree the_number
  stands-FreeNumber n h = ap the_number (sym h.tree)

  pub sort-FreeNumber-n : (n : ℕ) → Stands t i (s.FreeNumber n) → is_some (slice_get t.pools.names n) ≡ true
  sort-FreeNumber-n n h = part-FreeNumber-n t.pools (nodes t) n h.fits

  pub stands-ReadNumber : (a : ℕ) (b : ℕ) → Stands t i (s.ReadNumber a b) → tree.read_number (the_field (slice_get (nodes t) a)) (the_object (slice_get (nodes t) b)) ≡ the_number (slice_get (nodes t) i)
  unfolding shape_tree the_number
  stands-ReadNumber a b h = ap the_number (sym h.tree)

  pub sort-ReadNumber-a : (a : ℕ) (b : ℕ) → Stands t i (s.ReadNumber a b) → is_field (slice_get (nodes t) a) ≡ true
  sort-ReadNumber-a a b h = part-ReadNumber-a t.pools (nodes t) a b h.fits

  pub below-ReadNumber-a : (a : ℕ) (b : ℕ) → Stands t i (s.ReadNumber a b) → a < i
  unfolding list_parts own_parts
  below-ReadNumber-a a b h = h.below.below 0 a refl

  pub sort-ReadNumber-b : (a : ℕ) (b : ℕ) → Stands t i (s.ReadNumber a b) → is_object (slice_get (nodes t) b) ≡ true
  sort-ReadNumber-b a b h = part-ReadNumber-b t.pools (nodes t) a b h.fits

  pub below-ReadNumber-b : (a : ℕ) (b : ℕ) → Stands t i (s.ReadNumber a b) → b < i
  unfolding list_parts own_parts
  below-ReadNumber-b a b h = h.below.below 1 b refl

  pub stands-Add : (a : ℕ) (b : ℕ) → Stands t i (s.Add a b) → tree.add (the_number (slice_get (nodes t) a)) (the_number (slice_get (nodes t) b)) ≡ the_number (slice_get (nodes t) i)
  unfolding shape_tree the_number
  stands-Add a b h = ap the_number (sym h.tree)

  pub sort-Add-a : (a : ℕ) (b : ℕ) → Stands t i (s.Add a b) → is_number (slice_get (nodes t) a) ≡ true
  sort-Add-a a b h = part-Add-a t.pools (nodes t) a b h.fits

  pub below-Add-a : (a : ℕ) (b : ℕ) → Stands t i (s.Add a b) → a < i
  unfolding list_parts own_parts
  below-Add-a a b h = h.below.below 0 a refl

  pub sort-Add-b : (a : ℕ) (b : ℕ) → Stands t i (s.Add a b) → is_number (slice_get (nodes t) b) ≡ true
  sort-Add-b a b h = part-Add-b t.pools (nodes t) a b h.fits

  pub below-Add-b : (a : ℕ) (b : ℕ) → Stands t i (s.Add a b) → b < i
  unfolding list_parts own_parts
  below-Add-b a b h = h.below.below 1 b refl

  pub stands-Sub : (a : ℕ) (b : ℕ) → Stands t i (s.Sub a b) → tree.sub (the_number (slice_get (nodes t) a)) (the_number (slice_get (nodes t) b)) ≡ the_number (slice_get (nodes t) i)
  unfolding shape_tree the_number
  stands-Sub a b h = ap the_number (sym h.tree)

  pub sort-Sub-a : (a : ℕ) (b : ℕ) → Stands t i (s.Sub a b) → is_number (slice_get (nodes t) a) ≡ true
  sort-Sub-a a b h = part-Sub-a t.pools (nodes t) a b h.fits

  pub below-Sub-a : (a : ℕ) (b : ℕ) → Stands t i (s.Sub a b) → a < i
  unfolding list_parts own_parts
  below-Sub-a a b h = h.below.below 0 a refl

  pub sort-Sub-b : (a : ℕ) (b : ℕ) → Stands t i (s.Sub a b) → is_number (slice_get (nodes t) b) ≡ true
  sort-Sub-b a b h = part-Sub-b t.pools (nodes t) a b h.fits

  pub below-Sub-b : (a : ℕ) (b : ℕ) → Stands t i (s.Sub a b) → b < i
  unfolding list_parts own_parts
  below-Sub-b a b h = h.below.below 1 b refl

  pub stands-Neg : (a : ℕ) → Stands t i (s.Neg a) → tree.neg (the_number (slice_get (nodes t) a)) ≡ the_number (slice_get (nodes t) i)
  unfolding shape_tree the_number
  stands-Neg a h = ap the_number (sym h.tree)

  pub sort-Neg-a : (a : ℕ) → Stands t i (s.Neg a) → is_number (slice_get (nodes t) a) ≡ true
  sort-Neg-a a h = part-Neg-a t.pools (nodes t) a h.fits

  pub below-Neg-a : (a : ℕ) → Stands t i (s.Neg a) → a < i
  unfolding list_parts own_parts
  below-Neg-a a h = h.below.below 0 a refl

  pub stands-Scale : (z : ℤ) (a : ℕ) → Stands t i (s.Scale z a) → tree.scale z (the_number (slice_get (nodes t) a)) ≡ the_number (slice_get (nodes t) i)
  unfolding shape_tree the_number
  stands-Scale z a h = ap the_number (sym h.tree)

  pub sort-Scale-a : (z : ℤ) (a : ℕ) → Stands t i (s.Scale z a) → is_number (slice_get (nodes t) a) ≡ true
  sort-Scale-a z a h = part-Scale-a t.pools (nodes t) z a h.fits

  pub below-Scale-a : (z : ℤ) (a : ℕ) → Stands t i (s.Scale z a) → a < i
  unfolding list_parts own_parts
  below-Scale-a z a h = h.below.below 0 a refl

  pub stands-Card : (a : ℕ) → Stands t i (s.Card a) → tree.card (the_set (slice_get (nodes t) a)) ≡ the_number (slice_get (nodes t) i)
  unfolding shape_tree the_number
  stands-Card a h = ap the_number (sym h.tree)

  pub sort-Card-a : (a : ℕ) → Stands t i (s.Card a) → is_set (slice_get (nodes t) a) ≡ true
  sort-Card-a a h = part-Card-a t.pools (nodes t) a h.fits

  pub below-Card-a : (a : ℕ) → Stands t i (s.Card a) → a < i
  unfolding list_parts own_parts
  below-Card-a a h = h.below.below 0 a refl

  pub stands-FreeSet : (n : ℕ) → Stands t i (s.FreeSet n) → tree.free_set (the_name (slice_get t.pools.names n)) ≡ the_set (slice_get (nodes t) i)
  unfolding shape_tree the_set
  stands-FreeSet n h = ap the_set (sym h.tree)

  pub sort-FreeSet-n : (n : ℕ) → Stands t i (s.FreeSet n) → is_some (slice_get t.pools.names n) ≡ true
  sort-FreeSet-n n h = part-FreeSet-n t.pools (nodes t) n h.fits

  pub stands-ReadSet : (a : ℕ) (b : ℕ) → Stands t i (s.ReadSet a b) → tree.read_set (the_field (slice_get (nodes t) a)) (the_object (slice_get (nodes t) b)) ≡ the_set (slice_get (nodes t) i)
  unfolding shape_tree the_set
  stands-ReadSet a b h = ap the_set (sym h.tree)

  pub sort-ReadSet-a : (a : ℕ) (b : ℕ) → Stands t i (s.ReadSet a b) → is_field (slice_get (nodes t) a) ≡ true
  sort-ReadSet-a a b h = part-ReadSet-a t.pools (nodes t) a b h.fits

  pub below-ReadSet-a : (a : ℕ) (b : ℕ) → Stands t i (s.ReadSet a b) → a < i
  unfolding list_parts own_parts
  below-ReadSet-a a b h = h.below.below 0 a refl

  pub sort-ReadSet-b : (a : ℕ) (b : ℕ) → Stands t i (s.ReadSet a b) → is_object (slice_get (nodes t) b) ≡ true
  sort-ReadSet-b a b h = part-ReadSet-b t.pools (nodes t) a b h.fits

  pub below-ReadSet-b : (a : ℕ) (b : ℕ) → Stands t i (s.ReadSet a b) → b < i
  unfolding list_parts own_parts
  below-ReadSet-b a b h = h.below.below 1 b refl

  pub stands-Empty : Stands t i s.Empty → tree.empty ≡ the_set (slice_get (nodes t) i)
  unfolding shape_tree the_set
  stands-Empty h = ap the_set (sym h.tree)

  pub stands-Univ : Stands t i s.Univ → tree.univ ≡ the_set (slice_get (nodes t) i)
  unfolding shape_tree the_set
  stands-Univ h = ap the_set (sym h.tree)

  pub stands-Single : (a : ℕ) → Stands t i (s.Single a) → tree.single (the_object (slice_get (nodes t) a)) ≡ the_set (slice_get (nodes t) i)
  unfolding shape_tree the_set
  stands-Single a h = ap the_set (sym h.tree)

  pub sort-Single-a : (a : ℕ) → Stands t i (s.Single a) → is_object (slice_get (nodes t) a) ≡ true
  sort-Single-a a h = part-Single-a t.pools (nodes t) a h.fits

  pub below-Single-a : (a : ℕ) → Stands t i (s.Single a) → a < i
  unfolding list_parts own_parts
  below-Single-a a h = h.below.below 0 a refl

  pub stands-Union : (a : ℕ) (b : ℕ) → Stands t i (s.Union a b) → tree.union (the_set (slice_get (nodes t) a)) (the_set (slice_get (nodes t) b)) ≡ the_set (slice_get (nodes t) i)
  unfolding shape_tree the_set
  stands-Union a b h = ap the_set (sym h.tree)

  pub sort-Union-a : (a : ℕ) (b : ℕ) → Stands t i (s.Union a b) → is_set (slice_get (nodes t) a) ≡ true
  sort-Union-a a b h = part-Union-a t.pools (nodes t) a b h.fits

  pub below-Union-a : (a : ℕ) (b : ℕ) → Stands t i (s.Union a b) → a < i
  unfolding list_parts own_parts
  below-Union-a a b h = h.below.below 0 a refl

  pub sort-Union-b : (a : ℕ) (b : ℕ) → Stands t i (s.Union a b) → is_set (slice_get (nodes t) b) ≡ true
  sort-Union-b a b h = part-Union-b t.pools (nodes t) a b h.fits

  pub below-Union-b : (a : ℕ) (b : ℕ) → Stands t i (s.Union a b) → b < i
  unfolding list_parts own_parts
  below-Union-b a b h = h.below.below 1 b refl

  pub stands-Inter : (a : ℕ) (b : ℕ) → Stands t i (s.Inter a b) → tree.inter (the_set (slice_get (nodes t) a)) (the_set (slice_get (nodes t) b)) ≡ the_set (slice_get (nodes t) i)
  unfolding shape_tree the_set
  stands-Inter a b h = ap the_set (sym h.tree)

  pub sort-Inter-a : (a : ℕ) (b : ℕ) → Stands t i (s.Inter a b) → is_set (slice_get (nodes t) a) ≡ true
  sort-Inter-a a b h = part-Inter-a t.pools (nodes t) a b h.fits

  pub below-Inter-a : (a : ℕ) (b : ℕ) → Stands t i (s.Inter a b) → a < i
  unfolding list_parts own_parts
  below-Inter-a a b h = h.below.below 0 a refl

  pub sort-Inter-b : (a : ℕ) (b : ℕ) → Stands t i (s.Inter a b) → is_set (slice_get (nodes t) b) ≡ true
  sort-Inter-b a b h = part-Inter-b t.pools (nodes t) a b h.fits

  pub below-Inter-b : (a : ℕ) (b : ℕ) → Stands t i (s.Inter a b) → b < i
  unfolding list_parts own_parts
  below-Inter-b a b h = h.below.below 1 b refl

  pub stands-Diff : (a : ℕ) (b : ℕ) → Stands t i (s.Diff a b) → tree.diff (the_set (slice_get (nodes t) a)) (the_set (slice_get (nodes t) b)) ≡ the_set (slice_get (nodes t) i)
  unfolding shape_tree the_set
  stands-Diff a b h = ap the_set (sym h.tree)

  pub sort-Diff-a : (a : ℕ) (b : ℕ) → Stands t i (s.Diff a b) → is_set (slice_get (nodes t) a) ≡ true
  sort-Diff-a a b h = part-Diff-a t.pools (nodes t) a b h.fits

  pub below-Diff-a : (a : ℕ) (b : ℕ) → Stands t i (s.Diff a b) → a < i
  unfolding list_parts own_parts
  below-Diff-a a b h = h.below.below 0 a refl

  pub sort-Diff-b : (a : ℕ) (b : ℕ) → Stands t i (s.Diff a b) → is_set (slice_get (nodes t) b) ≡ true
  sort-Diff-b a b h = part-Diff-b t.pools (nodes t) a b h.fits

  pub below-Diff-b : (a : ℕ) (b : ℕ) → Stands t i (s.Diff a b) → b < i
  unfolding list_parts own_parts
  below-Diff-b a b h = h.below.below 1 b refl

  pub stands-Compl : (a : ℕ) → Stands t i (s.Compl a) → tree.compl (the_set (slice_get (nodes t) a)) ≡ the_set (slice_get (nodes t) i)
  unfolding shape_tree the_set
  stands-Compl a h = ap the_set (sym h.tree)

  pub sort-Compl-a : (a : ℕ) → Stands t i (s.Compl a) → is_set (slice_get (nodes t) a) ≡ true
  sort-Compl-a a h = part-Compl-a t.pools (nodes t) a h.fits

  pub below-Compl-a : (a : ℕ) → Stands t i (s.Compl a) → a < i
  unfolding list_parts own_parts
  below-Compl-a a h = h.below.below 0 a refl

  pub stands-Compr : (a : ℕ) → Stands t i (s.Compr a) → tree.compr (the_truth (slice_get (nodes t) a)) ≡ the_set (slice_get (nodes t) i)
  unfolding shape_tree the_set
  stands-Compr a h = ap the_set (sym h.tree)

  pub sort-Compr-a : (a : ℕ) → Stands t i (s.Compr a) → is_truth (slice_get (nodes t) a) ≡ true
  sort-Compr-a a h = part-Compr-a t.pools (nodes t) a h.fits

  pub below-Compr-a : (a : ℕ) → Stands t i (s.Compr a) → a < i
  unfolding list_parts own_parts
  below-Compr-a a h = h.below.below 0 a refl

  pub stands-FreeField : (n : ℕ) → Stands t i (s.FreeField n) → tree.free_field (the_name (slice_get t.pools.names n)) ≡ the_field (slice_get (nodes t) i)
  unfolding shape_tree the_field
  stands-FreeField n h = ap the_field (sym h.tree)

  pub sort-FreeField-n : (n : ℕ) → Stands t i (s.FreeField n) → is_some (slice_get t.pools.names n) ≡ true
  sort-FreeField-n n h = part-FreeField-n t.pools (nodes t) n h.fits

  pub stands-Update : (a : ℕ) (b : ℕ) (c : ℕ) → Stands t i (s.Update a b c) → tree.update (the_field (slice_get (nodes t) a)) (the_object (slice_get (nodes t) b)) (the_value (slice_get (nodes t) c)) ≡ the_field (slice_get (nodes t) i)
  unfolding shape_tree the_field
  stands-Update a b c h = ap the_field (sym h.tree)

  pub sort-Update-a : (a : ℕ) (b : ℕ) (c : ℕ) → Stands t i (s.Update a b c) → is_field (slice_get (nodes t) a) ≡ true
  sort-Update-a a b c h = part-Update-a t.pools (nodes t) a b c h.fits

  pub below-Update-a : (a : ℕ) (b : ℕ) (c : ℕ) → Stands t i (s.Update a b c) → a < i
  unfolding list_parts own_parts
  below-Update-a a b c h = h.below.below 0 a refl

  pub sort-Update-b : (a : ℕ) (b : ℕ) (c : ℕ) → Stands t i (s.Update a b c) → is_object (slice_get (nodes t) b) ≡ true
  sort-Update-b a b c h = part-Update-b t.pools (nodes t) a b c h.fits

  pub below-Update-b : (a : ℕ) (b : ℕ) (c : ℕ) → Stands t i (s.Update a b c) → b < i
  unfolding list_parts own_parts
  below-Update-b a b c h = h.below.below 1 b refl

  pub sort-Update-c : (a : ℕ) (b : ℕ) (c : ℕ) → Stands t i (s.Update a b c) → c < length (nodes t)
  sort-Update-c a b c h = inside (nodes t) c (part-Update-c t.pools (nodes t) a b c h.fits)

  pub below-Update-c : (a : ℕ) (b : ℕ) (c : ℕ) → Stands t i (s.Update a b c) → c < i
  unfolding list_parts own_parts
  below-Update-c a b c h = h.below.below 2 c refl

  pub stands-True : Stands t i s.True → tree.true_formula ≡ the_truth (slice_get (nodes t) i)
  unfolding shape_tree the_truth
  stands-True h = ap the_truth (sym h.tree)

  pub stands-False : Stands t i s.False → tree.false_formula ≡ the_truth (slice_get (nodes t) i)
  unfolding shape_tree the_truth
  stands-False h = ap the_truth (sym h.tree)

  pub stands-FreeTruth : (n : ℕ) → Stands t i (s.FreeTruth n) → tree.free_truth (the_name (slice_get t.pools.names n)) ≡ the_truth (slice_get (nodes t) i)
  unfolding shape_tree the_truth
  stands-FreeTruth n h = ap the_truth (sym h.tree)

  pub sort-FreeTruth-n : (n : ℕ) → Stands t i (s.FreeTruth n) → is_some (slice_get t.pools.names n) ≡ true
  sort-FreeTruth-n n h = part-FreeTruth-n t.pools (nodes t) n h.fits

  pub stands-ReadTruth : (a : ℕ) (b : ℕ) → Stands t i (s.ReadTruth a b) → tree.read_truth (the_field (slice_get (nodes t) a)) (the_object (slice_get (nodes t) b)) ≡ the_truth (slice_get (nodes t) i)
  unfolding shape_tree the_truth
  stands-ReadTruth a b h = ap the_truth (sym h.tree)

  pub sort-ReadTruth-a : (a : ℕ) (b : ℕ) → Stands t i (s.ReadTruth a b) → is_field (slice_get (nodes t) a) ≡ true
  sort-ReadTruth-a a b h = part-ReadTruth-a t.pools (nodes t) a b h.fits

  pub below-ReadTruth-a : (a : ℕ) (b : ℕ) → Stands t i (s.ReadTruth a b) → a < i
  unfolding list_parts own_parts
  below-ReadTruth-a a b h = h.below.below 0 a refl

  pub sort-ReadTruth-b : (a : ℕ) (b : ℕ) → Stands t i (s.ReadTruth a b) → is_object (slice_get (nodes t) b) ≡ true
  sort-ReadTruth-b a b h = part-ReadTruth-b t.pools (nodes t) a b h.fits

  pub below-ReadTruth-b : (a : ℕ) (b : ℕ) → Stands t i (s.ReadTruth a b) → b < i
  unfolding list_parts own_parts
  below-ReadTruth-b a b h = h.below.below 1 b refl

  pub stands-Negation : (a : ℕ) → Stands t i (s.Negation a) → tree.negation (the_truth (slice_get (nodes t) a)) ≡ the_truth (slice_get (nodes t) i)
  unfolding shape_tree the_truth
  stands-Negation a h = ap the_truth (sym h.tree)

  pub sort-Negation-a : (a : ℕ) → Stands t i (s.Negation a) → is_truth (slice_get (nodes t) a) ≡ true
  sort-Negation-a a h = part-Negation-a t.pools (nodes t) a h.fits

  pub below-Negation-a : (a : ℕ) → Stands t i (s.Negation a) → a < i
  unfolding list_parts own_parts
  below-Negation-a a h = h.below.below 0 a refl

  pub stands-And : (a : ℕ) (b : ℕ) → Stands t i (s.And a b) → tree.and (the_truth (slice_get (nodes t) a)) (the_truth (slice_get (nodes t) b)) ≡ the_truth (slice_get (nodes t) i)
  unfolding shape_tree the_truth
  stands-And a b h = ap the_truth (sym h.tree)

  pub sort-And-a : (a : ℕ) (b : ℕ) → Stands t i (s.And a b) → is_truth (slice_get (nodes t) a) ≡ true
  sort-And-a a b h = part-And-a t.pools (nodes t) a b h.fits

  pub below-And-a : (a : ℕ) (b : ℕ) → Stands t i (s.And a b) → a < i
  unfolding list_parts own_parts
  below-And-a a b h = h.below.below 0 a refl

  pub sort-And-b : (a : ℕ) (b : ℕ) → Stands t i (s.And a b) → is_truth (slice_get (nodes t) b) ≡ true
  sort-And-b a b h = part-And-b t.pools (nodes t) a b h.fits

  pub below-And-b : (a : ℕ) (b : ℕ) → Stands t i (s.And a b) → b < i
  unfolding list_parts own_parts
  below-And-b a b h = h.below.below 1 b refl

  pub stands-Or : (a : ℕ) (b : ℕ) → Stands t i (s.Or a b) → tree.or (the_truth (slice_get (nodes t) a)) (the_truth (slice_get (nodes t) b)) ≡ the_truth (slice_get (nodes t) i)
  unfolding shape_tree the_truth
  stands-Or a b h = ap the_truth (sym h.tree)

  pub sort-Or-a : (a : ℕ) (b : ℕ) → Stands t i (s.Or a b) → is_truth (slice_get (nodes t) a) ≡ true
  sort-Or-a a b h = part-Or-a t.pools (nodes t) a b h.fits

  pub below-Or-a : (a : ℕ) (b : ℕ) → Stands t i (s.Or a b) → a < i
  unfolding list_parts own_parts
  below-Or-a a b h = h.below.below 0 a refl

  pub sort-Or-b : (a : ℕ) (b : ℕ) → Stands t i (s.Or a b) → is_truth (slice_get (nodes t) b) ≡ true
  sort-Or-b a b h = part-Or-b t.pools (nodes t) a b h.fits

  pub below-Or-b : (a : ℕ) (b : ℕ) → Stands t i (s.Or a b) → b < i
  unfolding list_parts own_parts
  below-Or-b a b h = h.below.below 1 b refl

  pub stands-Implies : (a : ℕ) (b : ℕ) → Stands t i (s.Implies a b) → tree.implies (the_truth (slice_get (nodes t) a)) (the_truth (slice_get (nodes t) b)) ≡ the_truth (slice_get (nodes t) i)
  unfolding shape_tree the_truth
  stands-Implies a b h = ap the_truth (sym h.tree)

  pub sort-Implies-a : (a : ℕ) (b : ℕ) → Stands t i (s.Implies a b) → is_truth (slice_get (nodes t) a) ≡ true
  sort-Implies-a a b h = part-Implies-a t.pools (nodes t) a b h.fits

  pub below-Implies-a : (a : ℕ) (b : ℕ) → Stands t i (s.Implies a b) → a < i
  unfolding list_parts own_parts
  below-Implies-a a b h = h.below.below 0 a refl

  pub sort-Implies-b : (a : ℕ) (b : ℕ) → Stands t i (s.Implies a b) → is_truth (slice_get (nodes t) b) ≡ true
  sort-Implies-b a b h = part-Implies-b t.pools (nodes t) a b h.fits

  pub below-Implies-b : (a : ℕ) (b : ℕ) → Stands t i (s.Implies a b) → b < i
  unfolding list_parts own_parts
  below-Implies-b a b h = h.below.below 1 b refl

  pub stands-Iff : (a : ℕ) (b : ℕ) → Stands t i (s.Iff a b) → tree.iff (the_truth (slice_get (nodes t) a)) (the_truth (slice_get (nodes t) b)) ≡ the_truth (slice_get (nodes t) i)
  unfolding shape_tree the_truth
  stands-Iff a b h = ap the_truth (sym h.tree)

  pub sort-Iff-a : (a : ℕ) (b : ℕ) → Stands t i (s.Iff a b) → is_truth (slice_get (nodes t) a) ≡ true
  sort-Iff-a a b h = part-Iff-a t.pools (nodes t) a b h.fits

  pub below-Iff-a : (a : ℕ) (b : ℕ) → Stands t i (s.Iff a b) → a < i
  unfolding list_parts own_parts
  below-Iff-a a b h = h.below.below 0 a refl

  pub sort-Iff-b : (a : ℕ) (b : ℕ) → Stands t i (s.Iff a b) → is_truth (slice_get (nodes t) b) ≡ true
  sort-Iff-b a b h = part-Iff-b t.pools (nodes t) a b h.fits

  pub below-Iff-b : (a : ℕ) (b : ℕ) → Stands t i (s.Iff a b) → b < i
  unfolding list_parts own_parts
  below-Iff-b a b h = h.below.below 1 b refl

  pub stands-All : (a : ℕ) → Stands t i (s.All a) → tree.all (the_truth (slice_get (nodes t) a)) ≡ the_truth (slice_get (nodes t) i)
  unfolding shape_tree the_truth
  stands-All a h = ap the_truth (sym h.tree)

  pub sort-All-a : (a : ℕ) → Stands t i (s.All a) → is_truth (slice_get (nodes t) a) ≡ true
  sort-All-a a h = part-All-a t.pools (nodes t) a h.fits

  pub below-All-a : (a : ℕ) → Stands t i (s.All a) → a < i
  unfolding list_parts own_parts
  below-All-a a h = h.below.below 0 a refl

  pub stands-Ex : (a : ℕ) → Stands t i (s.Ex a) → tree.ex (the_truth (slice_get (nodes t) a)) ≡ the_truth (slice_get (nodes t) i)
  unfolding shape_tree the_truth
  stands-Ex a h = ap the_truth (sym h.tree)

  pub sort-Ex-a : (a : ℕ) → Stands t i (s.Ex a) → is_truth (slice_get (nodes t) a) ≡ true
  sort-Ex-a a h = part-Ex-a t.pools (nodes t) a h.fits

  pub below-Ex-a : (a : ℕ) → Stands t i (s.Ex a) → a < i
  unfolding list_parts own_parts
  below-Ex-a a h = h.below.below 0 a refl

  pub stands-EqObject : (a : ℕ) (b : ℕ) → Stands t i (s.EqObject a b) → tree.eq_object (the_object (slice_get (nodes t) a)) (the_object (slice_get (nodes t) b)) ≡ the_truth (slice_get (nodes t) i)
  unfolding shape_tree the_truth
  stands-EqObject a b h = ap the_truth (sym h.tree)

  pub sort-EqObject-a : (a : ℕ) (b : ℕ) → Stands t i (s.EqObject a b) → is_object (slice_get (nodes t) a) ≡ true
  sort-EqObject-a a b h = part-EqObject-a t.pools (nodes t) a b h.fits

  pub below-EqObject-a : (a : ℕ) (b : ℕ) → Stands t i (s.EqObject a b) → a < i
  unfolding list_parts own_parts
  below-EqObject-a a b h = h.below.below 0 a refl

  pub sort-EqObject-b : (a : ℕ) (b : ℕ) → Stands t i (s.EqObject a b) → is_object (slice_get (nodes t) b) ≡ true
  sort-EqObject-b a b h = part-EqObject-b t.pools (nodes t) a b h.fits

  pub below-EqObject-b : (a : ℕ) (b : ℕ) → Stands t i (s.EqObject a b) → b < i
  unfolding list_parts own_parts
  below-EqObject-b a b h = h.below.below 1 b refl

  pub stands-EqNumber : (a : ℕ) (b : ℕ) → Stands t i (s.EqNumber a b) → tree.eq_number (the_number (slice_get (nodes t) a)) (the_number (slice_get (nodes t) b)) ≡ the_truth (slice_get (nodes t) i)
  unfolding shape_tree the_truth
  stands-EqNumber a b h = ap the_truth (sym h.tree)

  pub sort-EqNumber-a : (a : ℕ) (b : ℕ) → Stands t i (s.EqNumber a b) → is_number (slice_get (nodes t) a) ≡ true
  sort-EqNumber-a a b h = part-EqNumber-a t.pools (nodes t) a b h.fits

  pub below-EqNumber-a : (a : ℕ) (b : ℕ) → Stands t i (s.EqNumber a b) → a < i
  unfolding list_parts own_parts
  below-EqNumber-a a b h = h.below.below 0 a refl

  pub sort-EqNumber-b : (a : ℕ) (b : ℕ) → Stands t i (s.EqNumber a b) → is_number (slice_get (nodes t) b) ≡ true
  sort-EqNumber-b a b h = part-EqNumber-b t.pools (nodes t) a b h.fits

  pub below-EqNumber-b : (a : ℕ) (b : ℕ) → Stands t i (s.EqNumber a b) → b < i
  unfolding list_parts own_parts
  below-EqNumber-b a b h = h.below.below 1 b refl

  pub stands-EqSet : (a : ℕ) (b : ℕ) → Stands t i (s.EqSet a b) → tree.eq_set (the_set (slice_get (nodes t) a)) (the_set (slice_get (nodes t) b)) ≡ the_truth (slice_get (nodes t) i)
  unfolding shape_tree the_truth
  stands-EqSet a b h = ap the_truth (sym h.tree)

  pub sort-EqSet-a : (a : ℕ) (b : ℕ) → Stands t i (s.EqSet a b) → is_set (slice_get (nodes t) a) ≡ true
  sort-EqSet-a a b h = part-EqSet-a t.pools (nodes t) a b h.fits

  pub below-EqSet-a : (a : ℕ) (b : ℕ) → Stands t i (s.EqSet a b) → a < i
  unfolding list_parts own_parts
  below-EqSet-a a b h = h.below.below 0 a refl

  pub sort-EqSet-b : (a : ℕ) (b : ℕ) → Stands t i (s.EqSet a b) → is_set (slice_get (nodes t) b) ≡ true
  sort-EqSet-b a b h = part-EqSet-b t.pools (nodes t) a b h.fits

  pub below-EqSet-b : (a : ℕ) (b : ℕ) → Stands t i (s.EqSet a b) → b < i
  unfolding list_parts own_parts
  below-EqSet-b a b h = h.below.below 1 b refl

  pub stands-Less : (a : ℕ) (b : ℕ) → Stands t i (s.Less a b) → tree.less (the_number (slice_get (nodes t) a)) (the_number (slice_get (nodes t) b)) ≡ the_truth (slice_get (nodes t) i)
  unfolding shape_tree the_truth
  stands-Less a b h = ap the_truth (sym h.tree)

  pub sort-Less-a : (a : ℕ) (b : ℕ) → Stands t i (s.Less a b) → is_number (slice_get (nodes t) a) ≡ true
  sort-Less-a a b h = part-Less-a t.pools (nodes t) a b h.fits

  pub below-Less-a : (a : ℕ) (b : ℕ) → Stands t i (s.Less a b) → a < i
  unfolding list_parts own_parts
  below-Less-a a b h = h.below.below 0 a refl

  pub sort-Less-b : (a : ℕ) (b : ℕ) → Stands t i (s.Less a b) → is_number (slice_get (nodes t) b) ≡ true
  sort-Less-b a b h = part-Less-b t.pools (nodes t) a b h.fits

  pub below-Less-b : (a : ℕ) (b : ℕ) → Stands t i (s.Less a b) → b < i
  unfolding list_parts own_parts
  below-Less-b a b h = h.below.below 1 b refl

  pub stands-LessEqual : (a : ℕ) (b : ℕ) → Stands t i (s.LessEqual a b) → tree.less_equal (the_number (slice_get (nodes t) a)) (the_number (slice_get (nodes t) b)) ≡ the_truth (slice_get (nodes t) i)
  unfolding shape_tree the_truth
  stands-LessEqual a b h = ap the_truth (sym h.tree)

  pub sort-LessEqual-a : (a : ℕ) (b : ℕ) → Stands t i (s.LessEqual a b) → is_number (slice_get (nodes t) a) ≡ true
  sort-LessEqual-a a b h = part-LessEqual-a t.pools (nodes t) a b h.fits

  pub below-LessEqual-a : (a : ℕ) (b : ℕ) → Stands t i (s.LessEqual a b) → a < i
  unfolding list_parts own_parts
  below-LessEqual-a a b h = h.below.below 0 a refl

  pub sort-LessEqual-b : (a : ℕ) (b : ℕ) → Stands t i (s.LessEqual a b) → is_number (slice_get (nodes t) b) ≡ true
  sort-LessEqual-b a b h = part-LessEqual-b t.pools (nodes t) a b h.fits

  pub below-LessEqual-b : (a : ℕ) (b : ℕ) → Stands t i (s.LessEqual a b) → b < i
  unfolding list_parts own_parts
  below-LessEqual-b a b h = h.below.below 1 b refl

  pub stands-Divides : (z : ℤ) (a : ℕ) → Stands t i (s.Divides z a) → tree.divides z (the_number (slice_get (nodes t) a)) ≡ the_truth (slice_get (nodes t) i)
  unfolding shape_tree the_truth
  stands-Divides z a h = ap the_truth (sym h.tree)

  pub sort-Divides-a : (z : ℤ) (a : ℕ) → Stands t i (s.Divides z a) → is_number (slice_get (nodes t) a) ≡ true
  sort-Divides-a z a h = part-Divides-a t.pools (nodes t) z a h.fits

  pub below-Divides-a : (z : ℤ) (a : ℕ) → Stands t i (s.Divides z a) → a < i
  unfolding list_parts own_parts
  below-Divides-a z a h = h.below.below 0 a refl

  pub stands-Member : (a : ℕ) (b : ℕ) → Stands t i (s.Member a b) → tree.member (the_object (slice_get (nodes t) a)) (the_set (slice_get (nodes t) b)) ≡ the_truth (slice_get (nodes t) i)
  unfolding shape_tree the_truth
  stands-Member a b h = ap the_truth (sym h.tree)

  pub sort-Member-a : (a : ℕ) (b : ℕ) → Stands t i (s.Member a b) → is_object (slice_get (nodes t) a) ≡ true
  sort-Member-a a b h = part-Member-a t.pools (nodes t) a b h.fits

  pub below-Member-a : (a : ℕ) (b : ℕ) → Stands t i (s.Member a b) → a < i
  unfolding list_parts own_parts
  below-Member-a a b h = h.below.below 0 a refl

  pub sort-Member-b : (a : ℕ) (b : ℕ) → Stands t i (s.Member a b) → is_set (slice_get (nodes t) b) ≡ true
  sort-Member-b a b h = part-Member-b t.pools (nodes t) a b h.fits

  pub below-Member-b : (a : ℕ) (b : ℕ) → Stands t i (s.Member a b) → b < i
  unfolding list_parts own_parts
  below-Member-b a b h = h.below.below 1 b refl

  pub stands-Subset : (a : ℕ) (b : ℕ) → Stands t i (s.Subset a b) → tree.subset (the_set (slice_get (nodes t) a)) (the_set (slice_get (nodes t) b)) ≡ the_truth (slice_get (nodes t) i)
  unfolding shape_tree the_truth
  stands-Subset a b h = ap the_truth (sym h.tree)

  pub sort-Subset-a : (a : ℕ) (b : ℕ) → Stands t i (s.Subset a b) → is_set (slice_get (nodes t) a) ≡ true
  sort-Subset-a a b h = part-Subset-a t.pools (nodes t) a b h.fits

  pub below-Subset-a : (a : ℕ) (b : ℕ) → Stands t i (s.Subset a b) → a < i
  unfolding list_parts own_parts
  below-Subset-a a b h = h.below.below 0 a refl

  pub sort-Subset-b : (a : ℕ) (b : ℕ) → Stands t i (s.Subset a b) → is_set (slice_get (nodes t) b) ≡ true
  sort-Subset-b a b h = part-Subset-b t.pools (nodes t) a b h.fits

  pub below-Subset-b : (a : ℕ) (b : ℕ) → Stands t i (s.Subset a b) → b < i
  unfolding list_parts own_parts
  below-Subset-b a b h = h.below.below 1 b refl

  pub stands-Reach : (l : ℕ) (a : ℕ) (b : ℕ) → Stands t i (s.Reach l a b) → tree.reach (fields_at (nodes t) (the_list (slice_get t.pools.lists l))) (the_object (slice_get (nodes t) a)) (the_object (slice_get (nodes t) b)) ≡ the_truth (slice_get (nodes t) i)
  unfolding shape_tree the_truth
  stands-Reach l a b h = ap the_truth (sym h.tree)

  pub sort-Reach-l : (l : ℕ) (a : ℕ) (b : ℕ) → Stands t i (s.Reach l a b) → is_some (slice_get t.pools.lists l) ≡ true
  sort-Reach-l l a b h = part-Reach-l t.pools (nodes t) l a b h.fits

  pub fields-Reach : (l : ℕ) (a : ℕ) (b : ℕ) → Stands t i (s.Reach l a b) → are_fields (nodes t) (the_list (slice_get t.pools.lists l)) ≡ true
  fields-Reach l a b h = part-Reach-fields t.pools (nodes t) l a b h.fits

  pub below-Reach-l : (l : ℕ) (a : ℕ) (b : ℕ) → Stands t i (s.Reach l a b) → AreBelow i (the_list (slice_get t.pools.lists l))
  unfolding list_parts own_parts
  below-Reach-l l a b h = fields-below i (the_list (slice_get t.pools.lists l)) (a ∷ b ∷ []) h.below.below

  pub sort-Reach-a : (l : ℕ) (a : ℕ) (b : ℕ) → Stands t i (s.Reach l a b) → is_object (slice_get (nodes t) a) ≡ true
  sort-Reach-a l a b h = part-Reach-a t.pools (nodes t) l a b h.fits

  pub below-Reach-a : (l : ℕ) (a : ℕ) (b : ℕ) → Stands t i (s.Reach l a b) → a < i
  unfolding list_parts own_parts
  below-Reach-a l a b h = own-below i (the_list (slice_get t.pools.lists l)) (a ∷ b ∷ []) 0 a h.below.below refl

  pub sort-Reach-b : (l : ℕ) (a : ℕ) (b : ℕ) → Stands t i (s.Reach l a b) → is_object (slice_get (nodes t) b) ≡ true
  sort-Reach-b l a b h = part-Reach-b t.pools (nodes t) l a b h.fits

  pub below-Reach-b : (l : ℕ) (a : ℕ) (b : ℕ) → Stands t i (s.Reach l a b) → b < i
  unfolding list_parts own_parts
  below-Reach-b l a b h = own-below i (the_list (slice_get t.pools.lists l)) (a ∷ b ∷ []) 1 b h.below.below refl

  pub stands-Tree : (l : ℕ) → Stands t i (s.Tree l) → tree.tree (fields_at (nodes t) (the_list (slice_get t.pools.lists l))) ≡ the_truth (slice_get (nodes t) i)
  unfolding shape_tree the_truth
  stands-Tree l h = ap the_truth (sym h.tree)

  pub sort-Tree-l : (l : ℕ) → Stands t i (s.Tree l) → is_some (slice_get t.pools.lists l) ≡ true
  sort-Tree-l l h = part-Tree-l t.pools (nodes t) l h.fits

  pub fields-Tree : (l : ℕ) → Stands t i (s.Tree l) → are_fields (nodes t) (the_list (slice_get t.pools.lists l)) ≡ true
  fields-Tree l h = part-Tree-fields t.pools (nodes t) l h.fits

  pub below-Tree-l : (l : ℕ) → Stands t i (s.Tree l) → AreBelow i (the_list (slice_get t.pools.lists l))
  unfolding list_parts own_parts
  below-Tree-l l h = fields-below i (the_list (slice_get t.pools.lists l)) ([]) h.below.below

  pub stands-Mark : (m : ℕ) (a : ℕ) → Stands t i (s.Mark m a) → tree.mark (the_mark (slice_get t.pools.marks m)) (the_truth (slice_get (nodes t) a)) ≡ the_truth (slice_get (nodes t) i)
  unfolding shape_tree the_truth
  stands-Mark m a h = ap the_truth (sym h.tree)

  pub sort-Mark-m : (m : ℕ) (a : ℕ) → Stands t i (s.Mark m a) → is_some (slice_get t.pools.marks m) ≡ true
  sort-Mark-m m a h = part-Mark-m t.pools (nodes t) m a h.fits

  pub sort-Mark-a : (m : ℕ) (a : ℕ) → Stands t i (s.Mark m a) → is_truth (slice_get (nodes t) a) ≡ true
  sort-Mark-a m a h = part-Mark-a t.pools (nodes t) m a h.fits

  pub below-Mark-a : (m : ℕ) (a : ℕ) → Stands t i (s.Mark m a) → a < i
  unfolding list_parts own_parts
  below-Mark-a m a h = h.below.below 0 a refl

-- a node at this sort is of one of the sort's shapes
pub term-else : (t : Listing) (i : ℕ) (y : Shape) → Stands t i y → is_object (slice_get (nodes t) i) ≡ true → ((k : ℕ) → y ≡ s.Bound k → ⊥) → ((n : ℕ) → y ≡ s.FreeObject n → ⊥) → (y ≡ s.Null → ⊥) → ((a : ℕ) (b : ℕ) → y ≡ s.ReadObject a b → ⊥) → ⊥
unfolding shape_tree is_object
term-else t i (s.Bound k) h is h0 h1 h2 h3 = h0 k refl
term-else t i (s.FreeObject n) h is h0 h1 h2 h3 = h1 n refl
term-else t i s.Null h is h0 h1 h2 h3 = h2 refl
term-else t i (s.ReadObject a b) h is h0 h1 h2 h3 = h3 a b refl
term-else t i (s.Const z) h is h0 h1 h2 h3 = true≢false (sym is ∙ ap is_object h.tree)
term-else t i (s.FreeNumber n) h is h0 h1 h2 h3 = true≢false (sym is ∙ ap is_object h.tree)
term-else t i (s.ReadNumber a b) h is h0 h1 h2 h3 = true≢false (sym is ∙ ap is_object h.tree)
term-else t i (s.Add a b) h is h0 h1 h2 h3 = true≢false (sym is ∙ ap is_object h.tree)
term-else t i (s.Sub a b) h is h0 h1 h2 h3 = true≢false (sym is ∙ ap is_object h.tree)
term-else t i (s.Neg a) h is h0 h1 h2 h3 = true≢false (sym is ∙ ap is_object h.tree)
term-else t i (s.Scale z a) h is h0 h1 h2 h3 = true≢false (sym is ∙ ap is_object h.tree)
term-else t i (s.Card a) h is h0 h1 h2 h3 = true≢false (sym is ∙ ap is_object h.tree)
term-else t i (s.FreeSet n) h is h0 h1 h2 h3 = true≢false (sym is ∙ ap is_object h.tree)
term-else t i (s.ReadSet a b) h is h0 h1 h2 h3 = true≢false (sym is ∙ ap is_object h.tree)
term-else t i s.Empty h is h0 h1 h2 h3 = true≢false (sym is ∙ ap is_object h.tree)
term-else t i s.Univ h is h0 h1 h2 h3 = true≢false (sym is ∙ ap is_object h.tree)
term-else t i (s.Single a) h is h0 h1 h2 h3 = true≢false (sym is ∙ ap is_object h.tree)
term-else t i (s.Union a b) h is h0 h1 h2 h3 = true≢false (sym is ∙ ap is_object h.tree)
term-else t i (s.Inter a b) h is h0 h1 h2 h3 = true≢false (sym is ∙ ap is_object h.tree)
term-else t i (s.Diff a b) h is h0 h1 h2 h3 = true≢false (sym is ∙ ap is_object h.tree)
term-else t i (s.Compl a) h is h0 h1 h2 h3 = true≢false (sym is ∙ ap is_object h.tree)
term-else t i (s.Compr a) h is h0 h1 h2 h3 = true≢false (sym is ∙ ap is_object h.tree)
term-else t i (s.FreeField n) h is h0 h1 h2 h3 = true≢false (sym is ∙ ap is_object h.tree)
term-else t i (s.Update a b c) h is h0 h1 h2 h3 = true≢false (sym is ∙ ap is_object h.tree)
term-else t i s.True h is h0 h1 h2 h3 = true≢false (sym is ∙ ap is_object h.tree)
term-else t i s.False h is h0 h1 h2 h3 = true≢false (sym is ∙ ap is_object h.tree)
term-else t i (s.FreeTruth n) h is h0 h1 h2 h3 = true≢false (sym is ∙ ap is_object h.tree)
term-else t i (s.ReadTruth a b) h is h0 h1 h2 h3 = true≢false (sym is ∙ ap is_object h.tree)
term-else t i (s.Negation a) h is h0 h1 h2 h3 = true≢false (sym is ∙ ap is_object h.tree)
term-else t i (s.And a b) h is h0 h1 h2 h3 = true≢false (sym is ∙ ap is_object h.tree)
term-else t i (s.Or a b) h is h0 h1 h2 h3 = true≢false (sym is ∙ ap is_object h.tree)
term-else t i (s.Implies a b) h is h0 h1 h2 h3 = true≢false (sym is ∙ ap is_object h.tree)
term-else t i (s.Iff a b) h is h0 h1 h2 h3 = true≢false (sym is ∙ ap is_object h.tree)
term-else t i (s.All a) h is h0 h1 h2 h3 = true≢false (sym is ∙ ap is_object h.tree)
term-else t i (s.Ex a) h is h0 h1 h2 h3 = true≢false (sym is ∙ ap is_object h.tree)
term-else t i (s.EqObject a b) h is h0 h1 h2 h3 = true≢false (sym is ∙ ap is_object h.tree)
term-else t i (s.EqNumber a b) h is h0 h1 h2 h3 = true≢false (sym is ∙ ap is_object h.tree)
term-else t i (s.EqSet a b) h is h0 h1 h2 h3 = true≢false (sym is ∙ ap is_object h.tree)
term-else t i (s.Less a b) h is h0 h1 h2 h3 = true≢false (sym is ∙ ap is_object h.tree)
term-else t i (s.LessEqual a b) h is h0 h1 h2 h3 = true≢false (sym is ∙ ap is_object h.tree)
term-else t i (s.Divides z a) h is h0 h1 h2 h3 = true≢false (sym is ∙ ap is_object h.tree)
term-else t i (s.Member a b) h is h0 h1 h2 h3 = true≢false (sym is ∙ ap is_object h.tree)
term-else t i (s.Subset a b) h is h0 h1 h2 h3 = true≢false (sym is ∙ ap is_object h.tree)
term-else t i (s.Reach l a b) h is h0 h1 h2 h3 = true≢false (sym is ∙ ap is_object h.tree)
term-else t i (s.Tree l) h is h0 h1 h2 h3 = true≢false (sym is ∙ ap is_object h.tree)
term-else t i (s.Mark m a) h is h0 h1 h2 h3 = true≢false (sym is ∙ ap is_object h.tree)

-- a node at this sort is of one of the sort's shapes
pub int-else : (t : Listing) (i : ℕ) (y : Shape) → Stands t i y → is_number (slice_get (nodes t) i) ≡ true → ((z : ℤ) → y ≡ s.Const z → ⊥) → ((n : ℕ) → y ≡ s.FreeNumber n → ⊥) → ((a : ℕ) (b : ℕ) → y ≡ s.ReadNumber a b → ⊥) → ((a : ℕ) (b : ℕ) → y ≡ s.Add a b → ⊥) → ((a : ℕ) (b : ℕ) → y ≡ s.Sub a b → ⊥) → ((a : ℕ) → y ≡ s.Neg a → ⊥) → ((z : ℤ) (a : ℕ) → y ≡ s.Scale z a → ⊥) → ((a : ℕ) → y ≡ s.Card a → ⊥) → ⊥
unfolding shape_tree is_number
int-else t i (s.Bound k) h is h0 h1 h2 h3 h4 h5 h6 h7 = true≢false (sym is ∙ ap is_number h.tree)
int-else t i (s.FreeObject n) h is h0 h1 h2 h3 h4 h5 h6 h7 = true≢false (sym is ∙ ap is_number h.tree)
int-else t i s.Null h is h0 h1 h2 h3 h4 h5 h6 h7 = true≢false (sym is ∙ ap is_number h.tree)
int-else t i (s.ReadObject a b) h is h0 h1 h2 h3 h4 h5 h6 h7 = true≢false (sym is ∙ ap is_number h.tree)
int-else t i (s.Const z) h is h0 h1 h2 h3 h4 h5 h6 h7 = h0 z refl
int-else t i (s.FreeNumber n) h is h0 h1 h2 h3 h4 h5 h6 h7 = h1 n refl
int-else t i (s.ReadNumber a b) h is h0 h1 h2 h3 h4 h5 h6 h7 = h2 a b refl
int-else t i (s.Add a b) h is h0 h1 h2 h3 h4 h5 h6 h7 = h3 a b refl
int-else t i (s.Sub a b) h is h0 h1 h2 h3 h4 h5 h6 h7 = h4 a b refl
int-else t i (s.Neg a) h is h0 h1 h2 h3 h4 h5 h6 h7 = h5 a refl
int-else t i (s.Scale z a) h is h0 h1 h2 h3 h4 h5 h6 h7 = h6 z a refl
int-else t i (s.Card a) h is h0 h1 h2 h3 h4 h5 h6 h7 = h7 a refl
int-else t i (s.FreeSet n) h is h0 h1 h2 h3 h4 h5 h6 h7 = true≢false (sym is ∙ ap is_number h.tree)
int-else t i (s.ReadSet a b) h is h0 h1 h2 h3 h4 h5 h6 h7 = true≢false (sym is ∙ ap is_number h.tree)
int-else t i s.Empty h is h0 h1 h2 h3 h4 h5 h6 h7 = true≢false (sym is ∙ ap is_number h.tree)
int-else t i s.Univ h is h0 h1 h2 h3 h4 h5 h6 h7 = true≢false (sym is ∙ ap is_number h.tree)
int-else t i (s.Single a) h is h0 h1 h2 h3 h4 h5 h6 h7 = true≢false (sym is ∙ ap is_number h.tree)
int-else t i (s.Union a b) h is h0 h1 h2 h3 h4 h5 h6 h7 = true≢false (sym is ∙ ap is_number h.tree)
int-else t i (s.Inter a b) h is h0 h1 h2 h3 h4 h5 h6 h7 = true≢false (sym is ∙ ap is_number h.tree)
int-else t i (s.Diff a b) h is h0 h1 h2 h3 h4 h5 h6 h7 = true≢false (sym is ∙ ap is_number h.tree)
int-else t i (s.Compl a) h is h0 h1 h2 h3 h4 h5 h6 h7 = true≢false (sym is ∙ ap is_number h.tree)
int-else t i (s.Compr a) h is h0 h1 h2 h3 h4 h5 h6 h7 = true≢false (sym is ∙ ap is_number h.tree)
int-else t i (s.FreeField n) h is h0 h1 h2 h3 h4 h5 h6 h7 = true≢false (sym is ∙ ap is_number h.tree)
int-else t i (s.Update a b c) h is h0 h1 h2 h3 h4 h5 h6 h7 = true≢false (sym is ∙ ap is_number h.tree)
int-else t i s.True h is h0 h1 h2 h3 h4 h5 h6 h7 = true≢false (sym is ∙ ap is_number h.tree)
int-else t i s.False h is h0 h1 h2 h3 h4 h5 h6 h7 = true≢false (sym is ∙ ap is_number h.tree)
int-else t i (s.FreeTruth n) h is h0 h1 h2 h3 h4 h5 h6 h7 = true≢false (sym is ∙ ap is_number h.tree)
int-else t i (s.ReadTruth a b) h is h0 h1 h2 h3 h4 h5 h6 h7 = true≢false (sym is ∙ ap is_number h.tree)
int-else t i (s.Negation a) h is h0 h1 h2 h3 h4 h5 h6 h7 = true≢false (sym is ∙ ap is_number h.tree)
int-else t i (s.And a b) h is h0 h1 h2 h3 h4 h5 h6 h7 = true≢false (sym is ∙ ap is_number h.tree)
int-else t i (s.Or a b) h is h0 h1 h2 h3 h4 h5 h6 h7 = true≢false (sym is ∙ ap is_number h.tree)
int-else t i (s.Implies a b) h is h0 h1 h2 h3 h4 h5 h6 h7 = true≢false (sym is ∙ ap is_number h.tree)
int-else t i (s.Iff a b) h is h0 h1 h2 h3 h4 h5 h6 h7 = true≢false (sym is ∙ ap is_number h.tree)
int-else t i (s.All a) h is h0 h1 h2 h3 h4 h5 h6 h7 = true≢false (sym is ∙ ap is_number h.tree)
int-else t i (s.Ex a) h is h0 h1 h2 h3 h4 h5 h6 h7 = true≢false (sym is ∙ ap is_number h.tree)
int-else t i (s.EqObject a b) h is h0 h1 h2 h3 h4 h5 h6 h7 = true≢false (sym is ∙ ap is_number h.tree)
int-else t i (s.EqNumber a b) h is h0 h1 h2 h3 h4 h5 h6 h7 = true≢false (sym is ∙ ap is_number h.tree)
int-else t i (s.EqSet a b) h is h0 h1 h2 h3 h4 h5 h6 h7 = true≢false (sym is ∙ ap is_number h.tree)
int-else t i (s.Less a b) h is h0 h1 h2 h3 h4 h5 h6 h7 = true≢false (sym is ∙ ap is_number h.tree)
int-else t i (s.LessEqual a b) h is h0 h1 h2 h3 h4 h5 h6 h7 = true≢false (sym is ∙ ap is_number h.tree)
int-else t i (s.Divides z a) h is h0 h1 h2 h3 h4 h5 h6 h7 = true≢false (sym is ∙ ap is_number h.tree)
int-else t i (s.Member a b) h is h0 h1 h2 h3 h4 h5 h6 h7 = true≢false (sym is ∙ ap is_number h.tree)
int-else t i (s.Subset a b) h is h0 h1 h2 h3 h4 h5 h6 h7 = true≢false (sym is ∙ ap is_number h.tree)
int-else t i (s.Reach l a b) h is h0 h1 h2 h3 h4 h5 h6 h7 = true≢false (sym is ∙ ap is_number h.tree)
int-else t i (s.Tree l) h is h0 h1 h2 h3 h4 h5 h6 h7 = true≢false (sym is ∙ ap is_number h.tree)
int-else t i (s.Mark m a) h is h0 h1 h2 h3 h4 h5 h6 h7 = true≢false (sym is ∙ ap is_number h.tree)

-- a node at this sort is of one of the sort's shapes
pub set-else : (t : Listing) (i : ℕ) (y : Shape) → Stands t i y → is_set (slice_get (nodes t) i) ≡ true → ((n : ℕ) → y ≡ s.FreeSet n → ⊥) → ((a : ℕ) (b : ℕ) → y ≡ s.ReadSet a b → ⊥) → (y ≡ s.Empty → ⊥) → (y ≡ s.Univ → ⊥) → ((a : ℕ) → y ≡ s.Single a → ⊥) → ((a : ℕ) (b : ℕ) → y ≡ s.Union a b → ⊥) → ((a : ℕ) (b : ℕ) → y ≡ s.Inter a b → ⊥) → ((a : ℕ) (b : ℕ) → y ≡ s.Diff a b → ⊥) → ((a : ℕ) → y ≡ s.Compl a → ⊥) → ((a : ℕ) → y ≡ s.Compr a → ⊥) → ⊥
unfolding shape_tree is_set
set-else t i (s.Bound k) h is h0 h1 h2 h3 h4 h5 h6 h7 h8 h9 = true≢false (sym is ∙ ap is_set h.tree)
set-else t i (s.FreeObject n) h is h0 h1 h2 h3 h4 h5 h6 h7 h8 h9 = true≢false (sym is ∙ ap is_set h.tree)
set-else t i s.Null h is h0 h1 h2 h3 h4 h5 h6 h7 h8 h9 = true≢false (sym is ∙ ap is_set h.tree)
set-else t i (s.ReadObject a b) h is h0 h1 h2 h3 h4 h5 h6 h7 h8 h9 = true≢false (sym is ∙ ap is_set h.tree)
set-else t i (s.Const z) h is h0 h1 h2 h3 h4 h5 h6 h7 h8 h9 = true≢false (sym is ∙ ap is_set h.tree)
set-else t i (s.FreeNumber n) h is h0 h1 h2 h3 h4 h5 h6 h7 h8 h9 = true≢false (sym is ∙ ap is_set h.tree)
set-else t i (s.ReadNumber a b) h is h0 h1 h2 h3 h4 h5 h6 h7 h8 h9 = true≢false (sym is ∙ ap is_set h.tree)
set-else t i (s.Add a b) h is h0 h1 h2 h3 h4 h5 h6 h7 h8 h9 = true≢false (sym is ∙ ap is_set h.tree)
set-else t i (s.Sub a b) h is h0 h1 h2 h3 h4 h5 h6 h7 h8 h9 = true≢false (sym is ∙ ap is_set h.tree)
set-else t i (s.Neg a) h is h0 h1 h2 h3 h4 h5 h6 h7 h8 h9 = true≢false (sym is ∙ ap is_set h.tree)
set-else t i (s.Scale z a) h is h0 h1 h2 h3 h4 h5 h6 h7 h8 h9 = true≢false (sym is ∙ ap is_set h.tree)
set-else t i (s.Card a) h is h0 h1 h2 h3 h4 h5 h6 h7 h8 h9 = true≢false (sym is ∙ ap is_set h.tree)
set-else t i (s.FreeSet n) h is h0 h1 h2 h3 h4 h5 h6 h7 h8 h9 = h0 n refl
set-else t i (s.ReadSet a b) h is h0 h1 h2 h3 h4 h5 h6 h7 h8 h9 = h1 a b refl
set-else t i s.Empty h is h0 h1 h2 h3 h4 h5 h6 h7 h8 h9 = h2 refl
set-else t i s.Univ h is h0 h1 h2 h3 h4 h5 h6 h7 h8 h9 = h3 refl
set-else t i (s.Single a) h is h0 h1 h2 h3 h4 h5 h6 h7 h8 h9 = h4 a refl
set-else t i (s.Union a b) h is h0 h1 h2 h3 h4 h5 h6 h7 h8 h9 = h5 a b refl
set-else t i (s.Inter a b) h is h0 h1 h2 h3 h4 h5 h6 h7 h8 h9 = h6 a b refl
set-else t i (s.Diff a b) h is h0 h1 h2 h3 h4 h5 h6 h7 h8 h9 = h7 a b refl
set-else t i (s.Compl a) h is h0 h1 h2 h3 h4 h5 h6 h7 h8 h9 = h8 a refl
set-else t i (s.Compr a) h is h0 h1 h2 h3 h4 h5 h6 h7 h8 h9 = h9 a refl
set-else t i (s.FreeField n) h is h0 h1 h2 h3 h4 h5 h6 h7 h8 h9 = true≢false (sym is ∙ ap is_set h.tree)
set-else t i (s.Update a b c) h is h0 h1 h2 h3 h4 h5 h6 h7 h8 h9 = true≢false (sym is ∙ ap is_set h.tree)
set-else t i s.True h is h0 h1 h2 h3 h4 h5 h6 h7 h8 h9 = true≢false (sym is ∙ ap is_set h.tree)
set-else t i s.False h is h0 h1 h2 h3 h4 h5 h6 h7 h8 h9 = true≢false (sym is ∙ ap is_set h.tree)
set-else t i (s.FreeTruth n) h is h0 h1 h2 h3 h4 h5 h6 h7 h8 h9 = true≢false (sym is ∙ ap is_set h.tree)
set-else t i (s.ReadTruth a b) h is h0 h1 h2 h3 h4 h5 h6 h7 h8 h9 = true≢false (sym is ∙ ap is_set h.tree)
set-else t i (s.Negation a) h is h0 h1 h2 h3 h4 h5 h6 h7 h8 h9 = true≢false (sym is ∙ ap is_set h.tree)
set-else t i (s.And a b) h is h0 h1 h2 h3 h4 h5 h6 h7 h8 h9 = true≢false (sym is ∙ ap is_set h.tree)
set-else t i (s.Or a b) h is h0 h1 h2 h3 h4 h5 h6 h7 h8 h9 = true≢false (sym is ∙ ap is_set h.tree)
set-else t i (s.Implies a b) h is h0 h1 h2 h3 h4 h5 h6 h7 h8 h9 = true≢false (sym is ∙ ap is_set h.tree)
set-else t i (s.Iff a b) h is h0 h1 h2 h3 h4 h5 h6 h7 h8 h9 = true≢false (sym is ∙ ap is_set h.tree)
set-else t i (s.All a) h is h0 h1 h2 h3 h4 h5 h6 h7 h8 h9 = true≢false (sym is ∙ ap is_set h.tree)
set-else t i (s.Ex a) h is h0 h1 h2 h3 h4 h5 h6 h7 h8 h9 = true≢false (sym is ∙ ap is_set h.tree)
set-else t i (s.EqObject a b) h is h0 h1 h2 h3 h4 h5 h6 h7 h8 h9 = true≢false (sym is ∙ ap is_set h.tree)
set-else t i (s.EqNumber a b) h is h0 h1 h2 h3 h4 h5 h6 h7 h8 h9 = true≢false (sym is ∙ ap is_set h.tree)
set-else t i (s.EqSet a b) h is h0 h1 h2 h3 h4 h5 h6 h7 h8 h9 = true≢false (sym is ∙ ap is_set h.tree)
set-else t i (s.Less a b) h is h0 h1 h2 h3 h4 h5 h6 h7 h8 h9 = true≢false (sym is ∙ ap is_set h.tree)
set-else t i (s.LessEqual a b) h is h0 h1 h2 h3 h4 h5 h6 h7 h8 h9 = true≢false (sym is ∙ ap is_set h.tree)
set-else t i (s.Divides z a) h is h0 h1 h2 h3 h4 h5 h6 h7 h8 h9 = true≢false (sym is ∙ ap is_set h.tree)
set-else t i (s.Member a b) h is h0 h1 h2 h3 h4 h5 h6 h7 h8 h9 = true≢false (sym is ∙ ap is_set h.tree)
set-else t i (s.Subset a b) h is h0 h1 h2 h3 h4 h5 h6 h7 h8 h9 = true≢false (sym is ∙ ap is_set h.tree)
set-else t i (s.Reach l a b) h is h0 h1 h2 h3 h4 h5 h6 h7 h8 h9 = true≢false (sym is ∙ ap is_set h.tree)
set-else t i (s.Tree l) h is h0 h1 h2 h3 h4 h5 h6 h7 h8 h9 = true≢false (sym is ∙ ap is_set h.tree)
set-else t i (s.Mark m a) h is h0 h1 h2 h3 h4 h5 h6 h7 h8 h9 = true≢false (sym is ∙ ap is_set h.tree)

-- a node at this sort is of one of the sort's shapes
pub field-else : (t : Listing) (i : ℕ) (y : Shape) → Stands t i y → is_field (slice_get (nodes t) i) ≡ true → ((n : ℕ) → y ≡ s.FreeField n → ⊥) → ((a : ℕ) (b : ℕ) (c : ℕ) → y ≡ s.Update a b c → ⊥) → ⊥
unfolding shape_tree is_field
field-else t i (s.Bound k) h is h0 h1 = true≢false (sym is ∙ ap is_field h.tree)
field-else t i (s.FreeObject n) h is h0 h1 = true≢false (sym is ∙ ap is_field h.tree)
field-else t i s.Null h is h0 h1 = true≢false (sym is ∙ ap is_field h.tree)
field-else t i (s.ReadObject a b) h is h0 h1 = true≢false (sym is ∙ ap is_field h.tree)
field-else t i (s.Const z) h is h0 h1 = true≢false (sym is ∙ ap is_field h.tree)
field-else t i (s.FreeNumber n) h is h0 h1 = true≢false (sym is ∙ ap is_field h.tree)
field-else t i (s.ReadNumber a b) h is h0 h1 = true≢false (sym is ∙ ap is_field h.tree)
field-else t i (s.Add a b) h is h0 h1 = true≢false (sym is ∙ ap is_field h.tree)
field-else t i (s.Sub a b) h is h0 h1 = true≢false (sym is ∙ ap is_field h.tree)
field-else t i (s.Neg a) h is h0 h1 = true≢false (sym is ∙ ap is_field h.tree)
field-else t i (s.Scale z a) h is h0 h1 = true≢false (sym is ∙ ap is_field h.tree)
field-else t i (s.Card a) h is h0 h1 = true≢false (sym is ∙ ap is_field h.tree)
field-else t i (s.FreeSet n) h is h0 h1 = true≢false (sym is ∙ ap is_field h.tree)
field-else t i (s.ReadSet a b) h is h0 h1 = true≢false (sym is ∙ ap is_field h.tree)
field-else t i s.Empty h is h0 h1 = true≢false (sym is ∙ ap is_field h.tree)
field-else t i s.Univ h is h0 h1 = true≢false (sym is ∙ ap is_field h.tree)
field-else t i (s.Single a) h is h0 h1 = true≢false (sym is ∙ ap is_field h.tree)
field-else t i (s.Union a b) h is h0 h1 = true≢false (sym is ∙ ap is_field h.tree)
field-else t i (s.Inter a b) h is h0 h1 = true≢false (sym is ∙ ap is_field h.tree)
field-else t i (s.Diff a b) h is h0 h1 = true≢false (sym is ∙ ap is_field h.tree)
field-else t i (s.Compl a) h is h0 h1 = true≢false (sym is ∙ ap is_field h.tree)
field-else t i (s.Compr a) h is h0 h1 = true≢false (sym is ∙ ap is_field h.tree)
field-else t i (s.FreeField n) h is h0 h1 = h0 n refl
field-else t i (s.Update a b c) h is h0 h1 = h1 a b c refl
field-else t i s.True h is h0 h1 = true≢false (sym is ∙ ap is_field h.tree)
field-else t i s.False h is h0 h1 = true≢false (sym is ∙ ap is_field h.tree)
field-else t i (s.FreeTruth n) h is h0 h1 = true≢false (sym is ∙ ap is_field h.tree)
field-else t i (s.ReadTruth a b) h is h0 h1 = true≢false (sym is ∙ ap is_field h.tree)
field-else t i (s.Negation a) h is h0 h1 = true≢false (sym is ∙ ap is_field h.tree)
field-else t i (s.And a b) h is h0 h1 = true≢false (sym is ∙ ap is_field h.tree)
field-else t i (s.Or a b) h is h0 h1 = true≢false (sym is ∙ ap is_field h.tree)
field-else t i (s.Implies a b) h is h0 h1 = true≢false (sym is ∙ ap is_field h.tree)
field-else t i (s.Iff a b) h is h0 h1 = true≢false (sym is ∙ ap is_field h.tree)
field-else t i (s.All a) h is h0 h1 = true≢false (sym is ∙ ap is_field h.tree)
field-else t i (s.Ex a) h is h0 h1 = true≢false (sym is ∙ ap is_field h.tree)
field-else t i (s.EqObject a b) h is h0 h1 = true≢false (sym is ∙ ap is_field h.tree)
field-else t i (s.EqNumber a b) h is h0 h1 = true≢false (sym is ∙ ap is_field h.tree)
field-else t i (s.EqSet a b) h is h0 h1 = true≢false (sym is ∙ ap is_field h.tree)
field-else t i (s.Less a b) h is h0 h1 = true≢false (sym is ∙ ap is_field h.tree)
field-else t i (s.LessEqual a b) h is h0 h1 = true≢false (sym is ∙ ap is_field h.tree)
field-else t i (s.Divides z a) h is h0 h1 = true≢false (sym is ∙ ap is_field h.tree)
field-else t i (s.Member a b) h is h0 h1 = true≢false (sym is ∙ ap is_field h.tree)
field-else t i (s.Subset a b) h is h0 h1 = true≢false (sym is ∙ ap is_field h.tree)
field-else t i (s.Reach l a b) h is h0 h1 = true≢false (sym is ∙ ap is_field h.tree)
field-else t i (s.Tree l) h is h0 h1 = true≢false (sym is ∙ ap is_field h.tree)
field-else t i (s.Mark m a) h is h0 h1 = true≢false (sym is ∙ ap is_field h.tree)

-- a node at this sort is of one of the sort's shapes
pub formula-else : (t : Listing) (i : ℕ) (y : Shape) → Stands t i y → is_truth (slice_get (nodes t) i) ≡ true → (y ≡ s.True → ⊥) → (y ≡ s.False → ⊥) → ((n : ℕ) → y ≡ s.FreeTruth n → ⊥) → ((a : ℕ) (b : ℕ) → y ≡ s.ReadTruth a b → ⊥) → ((a : ℕ) → y ≡ s.Negation a → ⊥) → ((a : ℕ) (b : ℕ) → y ≡ s.And a b → ⊥) → ((a : ℕ) (b : ℕ) → y ≡ s.Or a b → ⊥) → ((a : ℕ) (b : ℕ) → y ≡ s.Implies a b → ⊥) → ((a : ℕ) (b : ℕ) → y ≡ s.Iff a b → ⊥) → ((a : ℕ) → y ≡ s.All a → ⊥) → ((a : ℕ) → y ≡ s.Ex a → ⊥) → ((a : ℕ) (b : ℕ) → y ≡ s.EqObject a b → ⊥) → ((a : ℕ) (b : ℕ) → y ≡ s.EqNumber a b → ⊥) → ((a : ℕ) (b : ℕ) → y ≡ s.EqSet a b → ⊥) → ((a : ℕ) (b : ℕ) → y ≡ s.Less a b → ⊥) → ((a : ℕ) (b : ℕ) → y ≡ s.LessEqual a b → ⊥) → ((z : ℤ) (a : ℕ) → y ≡ s.Divides z a → ⊥) → ((a : ℕ) (b : ℕ) → y ≡ s.Member a b → ⊥) → ((a : ℕ) (b : ℕ) → y ≡ s.Subset a b → ⊥) → ((l : ℕ) (a : ℕ) (b : ℕ) → y ≡ s.Reach l a b → ⊥) → ((l : ℕ) → y ≡ s.Tree l → ⊥) → ((m : ℕ) (a : ℕ) → y ≡ s.Mark m a → ⊥) → ⊥
unfolding shape_tree is_truth
formula-else t i (s.Bound k) h is h0 h1 h2 h3 h4 h5 h6 h7 h8 h9 h10 h11 h12 h13 h14 h15 h16 h17 h18 h19 h20 h21 = true≢false (sym is ∙ ap is_truth h.tree)
formula-else t i (s.FreeObject n) h is h0 h1 h2 h3 h4 h5 h6 h7 h8 h9 h10 h11 h12 h13 h14 h15 h16 h17 h18 h19 h20 h21 = true≢false (sym is ∙ ap is_truth h.tree)
formula-else t i s.Null h is h0 h1 h2 h3 h4 h5 h6 h7 h8 h9 h10 h11 h12 h13 h14 h15 h16 h17 h18 h19 h20 h21 = true≢false (sym is ∙ ap is_truth h.tree)
formula-else t i (s.ReadObject a b) h is h0 h1 h2 h3 h4 h5 h6 h7 h8 h9 h10 h11 h12 h13 h14 h15 h16 h17 h18 h19 h20 h21 = true≢false (sym is ∙ ap is_truth h.tree)
formula-else t i (s.Const z) h is h0 h1 h2 h3 h4 h5 h6 h7 h8 h9 h10 h11 h12 h13 h14 h15 h16 h17 h18 h19 h20 h21 = true≢false (sym is ∙ ap is_truth h.tree)
formula-else t i (s.FreeNumber n) h is h0 h1 h2 h3 h4 h5 h6 h7 h8 h9 h10 h11 h12 h13 h14 h15 h16 h17 h18 h19 h20 h21 = true≢false (sym is ∙ ap is_truth h.tree)
formula-else t i (s.ReadNumber a b) h is h0 h1 h2 h3 h4 h5 h6 h7 h8 h9 h10 h11 h12 h13 h14 h15 h16 h17 h18 h19 h20 h21 = true≢false (sym is ∙ ap is_truth h.tree)
formula-else t i (s.Add a b) h is h0 h1 h2 h3 h4 h5 h6 h7 h8 h9 h10 h11 h12 h13 h14 h15 h16 h17 h18 h19 h20 h21 = true≢false (sym is ∙ ap is_truth h.tree)
formula-else t i (s.Sub a b) h is h0 h1 h2 h3 h4 h5 h6 h7 h8 h9 h10 h11 h12 h13 h14 h15 h16 h17 h18 h19 h20 h21 = true≢false (sym is ∙ ap is_truth h.tree)
formula-else t i (s.Neg a) h is h0 h1 h2 h3 h4 h5 h6 h7 h8 h9 h10 h11 h12 h13 h14 h15 h16 h17 h18 h19 h20 h21 = true≢false (sym is ∙ ap is_truth h.tree)
formula-else t i (s.Scale z a) h is h0 h1 h2 h3 h4 h5 h6 h7 h8 h9 h10 h11 h12 h13 h14 h15 h16 h17 h18 h19 h20 h21 = true≢false (sym is ∙ ap is_truth h.tree)
formula-else t i (s.Card a) h is h0 h1 h2 h3 h4 h5 h6 h7 h8 h9 h10 h11 h12 h13 h14 h15 h16 h17 h18 h19 h20 h21 = true≢false (sym is ∙ ap is_truth h.tree)
formula-else t i (s.FreeSet n) h is h0 h1 h2 h3 h4 h5 h6 h7 h8 h9 h10 h11 h12 h13 h14 h15 h16 h17 h18 h19 h20 h21 = true≢false (sym is ∙ ap is_truth h.tree)
formula-else t i (s.ReadSet a b) h is h0 h1 h2 h3 h4 h5 h6 h7 h8 h9 h10 h11 h12 h13 h14 h15 h16 h17 h18 h19 h20 h21 = true≢false (sym is ∙ ap is_truth h.tree)
formula-else t i s.Empty h is h0 h1 h2 h3 h4 h5 h6 h7 h8 h9 h10 h11 h12 h13 h14 h15 h16 h17 h18 h19 h20 h21 = true≢false (sym is ∙ ap is_truth h.tree)
formula-else t i s.Univ h is h0 h1 h2 h3 h4 h5 h6 h7 h8 h9 h10 h11 h12 h13 h14 h15 h16 h17 h18 h19 h20 h21 = true≢false (sym is ∙ ap is_truth h.tree)
formula-else t i (s.Single a) h is h0 h1 h2 h3 h4 h5 h6 h7 h8 h9 h10 h11 h12 h13 h14 h15 h16 h17 h18 h19 h20 h21 = true≢false (sym is ∙ ap is_truth h.tree)
formula-else t i (s.Union a b) h is h0 h1 h2 h3 h4 h5 h6 h7 h8 h9 h10 h11 h12 h13 h14 h15 h16 h17 h18 h19 h20 h21 = true≢false (sym is ∙ ap is_truth h.tree)
formula-else t i (s.Inter a b) h is h0 h1 h2 h3 h4 h5 h6 h7 h8 h9 h10 h11 h12 h13 h14 h15 h16 h17 h18 h19 h20 h21 = true≢false (sym is ∙ ap is_truth h.tree)
formula-else t i (s.Diff a b) h is h0 h1 h2 h3 h4 h5 h6 h7 h8 h9 h10 h11 h12 h13 h14 h15 h16 h17 h18 h19 h20 h21 = true≢false (sym is ∙ ap is_truth h.tree)
formula-else t i (s.Compl a) h is h0 h1 h2 h3 h4 h5 h6 h7 h8 h9 h10 h11 h12 h13 h14 h15 h16 h17 h18 h19 h20 h21 = true≢false (sym is ∙ ap is_truth h.tree)
formula-else t i (s.Compr a) h is h0 h1 h2 h3 h4 h5 h6 h7 h8 h9 h10 h11 h12 h13 h14 h15 h16 h17 h18 h19 h20 h21 = true≢false (sym is ∙ ap is_truth h.tree)
formula-else t i (s.FreeField n) h is h0 h1 h2 h3 h4 h5 h6 h7 h8 h9 h10 h11 h12 h13 h14 h15 h16 h17 h18 h19 h20 h21 = true≢false (sym is ∙ ap is_truth h.tree)
formula-else t i (s.Update a b c) h is h0 h1 h2 h3 h4 h5 h6 h7 h8 h9 h10 h11 h12 h13 h14 h15 h16 h17 h18 h19 h20 h21 = true≢false (sym is ∙ ap is_truth h.tree)
formula-else t i s.True h is h0 h1 h2 h3 h4 h5 h6 h7 h8 h9 h10 h11 h12 h13 h14 h15 h16 h17 h18 h19 h20 h21 = h0 refl
formula-else t i s.False h is h0 h1 h2 h3 h4 h5 h6 h7 h8 h9 h10 h11 h12 h13 h14 h15 h16 h17 h18 h19 h20 h21 = h1 refl
formula-else t i (s.FreeTruth n) h is h0 h1 h2 h3 h4 h5 h6 h7 h8 h9 h10 h11 h12 h13 h14 h15 h16 h17 h18 h19 h20 h21 = h2 n refl
formula-else t i (s.ReadTruth a b) h is h0 h1 h2 h3 h4 h5 h6 h7 h8 h9 h10 h11 h12 h13 h14 h15 h16 h17 h18 h19 h20 h21 = h3 a b refl
formula-else t i (s.Negation a) h is h0 h1 h2 h3 h4 h5 h6 h7 h8 h9 h10 h11 h12 h13 h14 h15 h16 h17 h18 h19 h20 h21 = h4 a refl
formula-else t i (s.And a b) h is h0 h1 h2 h3 h4 h5 h6 h7 h8 h9 h10 h11 h12 h13 h14 h15 h16 h17 h18 h19 h20 h21 = h5 a b refl
formula-else t i (s.Or a b) h is h0 h1 h2 h3 h4 h5 h6 h7 h8 h9 h10 h11 h12 h13 h14 h15 h16 h17 h18 h19 h20 h21 = h6 a b refl
formula-else t i (s.Implies a b) h is h0 h1 h2 h3 h4 h5 h6 h7 h8 h9 h10 h11 h12 h13 h14 h15 h16 h17 h18 h19 h20 h21 = h7 a b refl
formula-else t i (s.Iff a b) h is h0 h1 h2 h3 h4 h5 h6 h7 h8 h9 h10 h11 h12 h13 h14 h15 h16 h17 h18 h19 h20 h21 = h8 a b refl
formula-else t i (s.All a) h is h0 h1 h2 h3 h4 h5 h6 h7 h8 h9 h10 h11 h12 h13 h14 h15 h16 h17 h18 h19 h20 h21 = h9 a refl
formula-else t i (s.Ex a) h is h0 h1 h2 h3 h4 h5 h6 h7 h8 h9 h10 h11 h12 h13 h14 h15 h16 h17 h18 h19 h20 h21 = h10 a refl
formula-else t i (s.EqObject a b) h is h0 h1 h2 h3 h4 h5 h6 h7 h8 h9 h10 h11 h12 h13 h14 h15 h16 h17 h18 h19 h20 h21 = h11 a b refl
formula-else t i (s.EqNumber a b) h is h0 h1 h2 h3 h4 h5 h6 h7 h8 h9 h10 h11 h12 h13 h14 h15 h16 h17 h18 h19 h20 h21 = h12 a b refl
formula-else t i (s.EqSet a b) h is h0 h1 h2 h3 h4 h5 h6 h7 h8 h9 h10 h11 h12 h13 h14 h15 h16 h17 h18 h19 h20 h21 = h13 a b refl
formula-else t i (s.Less a b) h is h0 h1 h2 h3 h4 h5 h6 h7 h8 h9 h10 h11 h12 h13 h14 h15 h16 h17 h18 h19 h20 h21 = h14 a b refl
formula-else t i (s.LessEqual a b) h is h0 h1 h2 h3 h4 h5 h6 h7 h8 h9 h10 h11 h12 h13 h14 h15 h16 h17 h18 h19 h20 h21 = h15 a b refl
formula-else t i (s.Divides z a) h is h0 h1 h2 h3 h4 h5 h6 h7 h8 h9 h10 h11 h12 h13 h14 h15 h16 h17 h18 h19 h20 h21 = h16 z a refl
formula-else t i (s.Member a b) h is h0 h1 h2 h3 h4 h5 h6 h7 h8 h9 h10 h11 h12 h13 h14 h15 h16 h17 h18 h19 h20 h21 = h17 a b refl
formula-else t i (s.Subset a b) h is h0 h1 h2 h3 h4 h5 h6 h7 h8 h9 h10 h11 h12 h13 h14 h15 h16 h17 h18 h19 h20 h21 = h18 a b refl
formula-else t i (s.Reach l a b) h is h0 h1 h2 h3 h4 h5 h6 h7 h8 h9 h10 h11 h12 h13 h14 h15 h16 h17 h18 h19 h20 h21 = h19 l a b refl
formula-else t i (s.Tree l) h is h0 h1 h2 h3 h4 h5 h6 h7 h8 h9 h10 h11 h12 h13 h14 h15 h16 h17 h18 h19 h20 h21 = h20 l refl
formula-else t i (s.Mark m a) h is h0 h1 h2 h3 h4 h5 h6 h7 h8 h9 h10 h11 h12 h13 h14 h15 h16 h17 h18 h19 h20 h21 = h21 m a refl

pub ruleset free_object_steps = (term_tree-Free, stands-FreeObject, sort-FreeObject-n)

pub ruleset read_object_steps = (term_tree-Read, stands-ReadObject, sort-ReadObject-a, below-ReadObject-a, sort-ReadObject-b, below-ReadObject-b)

pub ruleset term_steps = (term-inside, term_tree-Bound, stands-Bound, term_tree-Null, stands-Null)

pub ruleset free_number_steps = (int_tree-Free, stands-FreeNumber, sort-FreeNumber-n)

pub ruleset read_number_steps = (int_tree-Read, stands-ReadNumber, sort-ReadNumber-a, below-ReadNumber-a, sort-ReadNumber-b, below-ReadNumber-b)

pub ruleset add_steps = (int_tree-Add, stands-Add, sort-Add-a, below-Add-a, sort-Add-b, below-Add-b)

pub ruleset sub_steps = (int_tree-Sub, stands-Sub, sort-Sub-a, below-Sub-a, sort-Sub-b, below-Sub-b)

pub ruleset neg_steps = (int_tree-Neg, stands-Neg, sort-Neg-a, below-Neg-a)

pub ruleset scale_steps = (int_tree-Scale, stands-Scale, sort-Scale-a, below-Scale-a)

pub ruleset card_steps = (int_tree-Card, stands-Card, sort-Card-a, below-Card-a)

pub ruleset int_steps = (int-inside, int_tree-Const, stands-Const)

pub ruleset free_set_steps = (set_tree-Free, stands-FreeSet, sort-FreeSet-n)

pub ruleset read_set_steps = (set_tree-Read, stands-ReadSet, sort-ReadSet-a, below-ReadSet-a, sort-ReadSet-b, below-ReadSet-b)

pub ruleset single_steps = (set_tree-Single, stands-Single, sort-Single-a, below-Single-a)

pub ruleset union_steps = (set_tree-Union, stands-Union, sort-Union-a, below-Union-a, sort-Union-b, below-Union-b)

pub ruleset inter_steps = (set_tree-Inter, stands-Inter, sort-Inter-a, below-Inter-a, sort-Inter-b, below-Inter-b)

pub ruleset diff_steps = (set_tree-Diff, stands-Diff, sort-Diff-a, below-Diff-a, sort-Diff-b, below-Diff-b)

pub ruleset compl_steps = (set_tree-Compl, stands-Compl, sort-Compl-a, below-Compl-a)

pub ruleset compr_steps = (set_tree-Compr, stands-Compr, sort-Compr-a, below-Compr-a)

pub ruleset set_steps = (set-inside, set_tree-Empty, stands-Empty, set_tree-Univ, stands-Univ)

pub ruleset free_field_steps = (field_tree-Free, stands-FreeField, sort-FreeField-n)

pub ruleset update_steps = (field_tree-Update, stands-Update, sort-Update-a, below-Update-a, sort-Update-b, below-Update-b, sort-Update-c, below-Update-c)

pub ruleset field_steps = (field-inside)

pub ruleset true_steps = (formula_tree-True, stands-True)

pub ruleset false_steps = (formula_tree-False, stands-False)

pub ruleset free_truth_steps = (formula_tree-Free, stands-FreeTruth, sort-FreeTruth-n)

pub ruleset read_truth_steps = (formula_tree-Read, stands-ReadTruth, sort-ReadTruth-a, below-ReadTruth-a, sort-ReadTruth-b, below-ReadTruth-b)

pub ruleset negation_steps = (formula_tree-Not, stands-Negation, sort-Negation-a, below-Negation-a)

pub ruleset and_steps = (formula_tree-And, stands-And, sort-And-a, below-And-a, sort-And-b, below-And-b)

pub ruleset or_steps = (formula_tree-Or, stands-Or, sort-Or-a, below-Or-a, sort-Or-b, below-Or-b)

pub ruleset implies_steps = (formula_tree-Implies, stands-Implies, sort-Implies-a, below-Implies-a, sort-Implies-b, below-Implies-b)

pub ruleset iff_steps = (formula_tree-Iff, stands-Iff, sort-Iff-a, below-Iff-a, sort-Iff-b, below-Iff-b)

pub ruleset all_steps = (formula_tree-All, stands-All, sort-All-a, below-All-a)

pub ruleset ex_steps = (formula_tree-Ex, stands-Ex, sort-Ex-a, below-Ex-a)

pub ruleset eq_object_steps = (formula_tree-EqObj, stands-EqObject, sort-EqObject-a, below-EqObject-a, sort-EqObject-b, below-EqObject-b)

pub ruleset eq_number_steps = (formula_tree-EqInt, stands-EqNumber, sort-EqNumber-a, below-EqNumber-a, sort-EqNumber-b, below-EqNumber-b)

pub ruleset eq_set_steps = (formula_tree-EqSet, stands-EqSet, sort-EqSet-a, below-EqSet-a, sort-EqSet-b, below-EqSet-b)

pub ruleset less_steps = (formula_tree-Less, stands-Less, sort-Less-a, below-Less-a, sort-Less-b, below-Less-b)

pub ruleset less_equal_steps = (formula_tree-LessEq, stands-LessEqual, sort-LessEqual-a, below-LessEqual-a, sort-LessEqual-b, below-LessEqual-b)

pub ruleset divides_steps = (formula_tree-Divides, stands-Divides, sort-Divides-a, below-Divides-a)

pub ruleset member_steps = (formula_tree-Member, stands-Member, sort-Member-a, below-Member-a, sort-Member-b, below-Member-b)

pub ruleset subset_steps = (formula_tree-Subset, stands-Subset, sort-Subset-a, below-Subset-a, sort-Subset-b, below-Subset-b)

pub ruleset reach_steps = (formula_tree-Reach, stands-Reach, sort-Reach-l, fields-Reach, below-Reach-l, sort-Reach-a, below-Reach-a, sort-Reach-b, below-Reach-b)

pub ruleset tree_steps = (formula_tree-Tree, stands-Tree, sort-Tree-l, fields-Tree, below-Tree-l)

pub ruleset mark_steps = (formula_tree-Mark, stands-Mark, sort-Mark-m, sort-Mark-a, below-Mark-a)

pub ruleset formula_steps = (formula-inside)
