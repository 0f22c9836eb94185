-- Written by tools/table.py.
-- The tree of a shape whose parts are known, and that it fits.
use Rattle.std.proofs.Common.{◌≡◌, refl, ap, ◌∙◌, ℕ, ℤ, true, ◌&&◌, List, slice_get, Some, is_some}
use Rattle.jh_boxed.specs.jh_name.declared.naming.Name.{Name}
use Rattle.jh_form.specs.declared.mark.Mark.{Mark}
use Rattle.jh_form.specs.Tree.{TermTree, IntTree, SetTree, FieldTree, ValueTree, FormulaTree, FieldTrees, of_object, of_number, of_truth, of_set, of_field, none, more}
use Rattle.jh_form.specs.Tree as t
use Rattle.jh_arena.specs.table.Entries.{Pools, the_name, the_mark, the_list, is_object, is_number, is_set, is_field, is_truth, the_object, the_number, the_set, the_field, the_truth, the_value, are_fields, fields_at}
use Rattle.jh_arena.specs.declared.table.shapes.Shape.TheVariants as s
use Rattle.jh_arena.specs.table.Nodes.{fits, shape_tree}

module _ (p : Pools) (ts : List ValueTree) where
  pub fits-Bound : (k : ℕ) → fits p ts (s.Bound k) ≡ true
  unfolding fits the_name the_mark the_list is_object is_number is_set is_field is_truth the_object the_number the_set the_field the_truth the_value
  fits-Bound k = refl

  pub tree-Bound : (k : ℕ) → shape_tree p ts (s.Bound k) ≡ of_object (t.bound k)
  unfolding shape_tree the_name the_mark the_list is_object is_number is_set is_field is_truth the_object the_number the_set the_field the_truth the_value
  tree-Bound k = refl

  pub fits-FreeObject : (n : ℕ) (x : Name) → slice_get p.names n ≡ Some x → fits p ts (s.FreeObject n) ≡ true
  unfolding fits the_name the_mark the_list is_object is_number is_set is_field is_truth the_object the_number the_set the_field the_truth the_value
  fits-FreeObject n x hn = λ i. is_some (hn i)

  pub tree-FreeObject : (n : ℕ) (x : Name) → slice_get p.names n ≡ Some x → shape_tree p ts (s.FreeObject n) ≡ of_object (t.free_object x)
  unfolding shape_tree the_name the_mark the_list is_object is_number is_set is_field is_truth the_object the_number the_set the_field the_truth the_value
  tree-FreeObject n x hn = λ i. of_object (t.free_object (the_name (hn i)))

  pub fits-Null : fits p ts s.Null ≡ true
  unfolding fits the_name the_mark the_list is_object is_number is_set is_field is_truth the_object the_number the_set the_field the_truth the_value
  fits-Null = refl

  pub tree-Null : shape_tree p ts s.Null ≡ of_object t.null
  unfolding shape_tree the_name the_mark the_list is_object is_number is_set is_field is_truth the_object the_number the_set the_field the_truth the_value
  tree-Null = refl

  pub fits-ReadObject : (a : ℕ) (b : ℕ) (u : FieldTree) (v : TermTree) → slice_get ts a ≡ Some (of_field u) → slice_get ts b ≡ Some (of_object v) → fits p ts (s.ReadObject a b) ≡ true
  unfolding fits the_name the_mark the_list is_object is_number is_set is_field is_truth the_object the_number the_set the_field the_truth the_value
  fits-ReadObject a b u v ha hb = λ i. is_field (ha i) && is_object (hb i)

  pub tree-ReadObject : (a : ℕ) (b : ℕ) (u : FieldTree) (v : TermTree) → slice_get ts a ≡ Some (of_field u) → slice_get ts b ≡ Some (of_object v) → shape_tree p ts (s.ReadObject a b) ≡ of_object (t.read_object u v)
  unfolding shape_tree the_name the_mark the_list is_object is_number is_set is_field is_truth the_object the_number the_set the_field the_truth the_value
  tree-ReadObject a b u v ha hb = λ i. of_object (t.read_object (the_field (ha i)) (the_object (hb i)))

  pub fits-Const : (z : ℤ) → fits p ts (s.Const z) ≡ true
  unfolding fits the_name the_mark the_list is_object is_number is_set is_field is_truth the_object the_number the_set the_field the_truth the_value
  fits-Const z = refl

  pub tree-Const : (z : ℤ) → shape_tree p ts (s.Const z) ≡ of_number (t.const z)
  unfolding shape_tree the_name the_mark the_list is_object is_number is_set is_field is_truth the_object the_number the_set the_field the_truth the_value
  tree-Const z = refl

  pub fits-FreeNumber : (n : ℕ) (x : Name) → slice_get p.names n ≡ Some x → fits p ts (s.FreeNumber n) ≡ true
  unfolding fits the_name the_mark the_list is_object is_number is_set is_field is_truth the_object the_number the_set the_field the_truth the_value
  fits-FreeNumber n x hn = λ i. is_some (hn i)

  pub tree-FreeNumber : (n : ℕ) (x : Name) → slice_get p.names n ≡ Some x → shape_tree p ts (s.FreeNumber n) ≡ of_number (t.free_number x)
  unfolding shape_tree the_name the_mark the_list is_object is_number is_set is_field is_truth the_object the_number the_set the_field the_truth the_value
  tree-FreeNumber n x hn = λ i. of_number (t.free_number (the_name (hn i)))

  pub fits-ReadNumber : (a : ℕ) (b : ℕ) (u : FieldTree) (v : TermTree) → slice_get ts a ≡ Some (of_field u) → slice_get ts b ≡ Some (of_object v) → fits p ts (s.ReadNumber a b) ≡ true
  unfolding fits the_name the_mark the_list is_object is_number is_set is_field is_truth the_object the_number the_set the_field the_truth the_value
  fits-ReadNumber a b u v ha hb = λ i. is_field (ha i) && is_object (hb i)

  pub tree-ReadNumber : (a : ℕ) (b : ℕ) (u : FieldTree) (v : TermTree) → slice_get ts a ≡ Some (of_field u) → slice_get ts b ≡ Some (of_object v) → shape_tree p ts (s.ReadNumber a b) ≡ of_number (t.read_number u v)
  unfolding shape_tree the_name the_mark the_list is_object is_number is_set is_field is_truth the_object the_number the_set the_field the_truth the_value
  tree-ReadNumber a b u v ha hb = λ i. of_number (t.read_number (the_field (ha i)) (the_object (hb i)))

  pub fits-Add : (a : ℕ) (b : ℕ) (u : IntTree) (v : IntTree) → slice_get ts a ≡ Some (of_number u) → slice_get ts b ≡ Some (of_number v) → fits p ts (s.Add a b) ≡ true
  unfolding fits the_name the_mark the_list is_object is_number is_set is_field is_truth the_object the_number the_set the_field the_truth the_value
  fits-Add a b u v ha hb = λ i. is_number (ha i) && is_number (hb i)

  pub tree-Add : (a : ℕ) (b : ℕ) (u : IntTree) (v : IntTree) → slice_get ts a ≡ Some (of_number u) → slice_get ts b ≡ Some (of_number v) → shape_tree p ts (s.Add a b) ≡ of_number (t.add u v)
  unfolding shape_tree the_name the_mark the_list is_object is_number is_set is_field is_truth the_object the_number the_set the_field the_truth the_value
  tree-Add a b u v ha hb = λ i. of_number (t.add (the_number (ha i)) (the_number (hb i)))

  pub fits-Sub : (a : ℕ) (b : ℕ) (u : IntTree) (v : IntTree) → slice_get ts a ≡ Some (of_number u) → slice_get ts b ≡ Some (of_number v) → fits p ts (s.Sub a b) ≡ true
  unfolding fits the_name the_mark the_list is_object is_number is_set is_field is_truth the_object the_number the_set the_field the_truth the_value
  fits-Sub a b u v ha hb = λ i. is_number (ha i) && is_number (hb i)

  pub tree-Sub : (a : ℕ) (b : ℕ) (u : IntTree) (v : IntTree) → slice_get ts a ≡ Some (of_number u) → slice_get ts b ≡ Some (of_number v) → shape_tree p ts (s.Sub a b) ≡ of_number (t.sub u v)
  unfolding shape_tree the_name the_mark the_list is_object is_number is_set is_field is_truth the_object the_number the_set the_field the_truth the_value
  tree-Sub a b u v ha hb = λ i. of_number (t.sub (the_number (ha i)) (the_number (hb i)))

  pub fits-Neg : (a : ℕ) (u : IntTree) → slice_get ts a ≡ Some (of_number u) → fits p ts (s.Neg a) ≡ true
  unfolding fits the_name the_mark the_list is_object is_number is_set is_field is_truth the_object the_number the_set the_field the_truth the_value
  fits-Neg a u ha = λ i. is_number (ha i)

  pub tree-Neg : (a : ℕ) (u : IntTree) → slice_get ts a ≡ Some (of_number u) → shape_tree p ts (s.Neg a) ≡ of_number (t.neg u)
  unfolding shape_tree the_name the_mark the_list is_object is_number is_set is_field is_truth the_object the_number the_set the_field the_truth the_value
  tree-Neg a u ha = λ i. of_number (t.neg (the_number (ha i)))

  pub fits-Scale : (z : ℤ) (a : ℕ) (u : IntTree) → slice_get ts a ≡ Some (of_number u) → fits p ts (s.Scale z a) ≡ true
  unfolding fits the_name the_mark the_list is_object is_number is_set is_field is_truth the_object the_number the_set the_field the_truth the_value
  fits-Scale z a u ha = λ i. is_number (ha i)

  pub tree-Scale : (z : ℤ) (a : ℕ) (u : IntTree) → slice_get ts a ≡ Some (of_number u) → shape_tree p ts (s.Scale z a) ≡ of_number (t.scale z u)
  unfolding shape_tree the_name the_mark the_list is_object is_number is_set is_field is_truth the_object the_number the_set the_field the_truth the_value
  tree-Scale z a u ha = λ i. of_number (t.scale z (the_number (ha i)))

  pub fits-Card : (a : ℕ) (u : SetTree) → slice_get ts a ≡ Some (of_set u) → fits p ts (s.Card a) ≡ true
  unfolding fits the_name the_mark the_list is_object is_number is_set is_field is_truth the_object the_number the_set the_field the_truth the_value
  fits-Card a u ha = λ i. is_set (ha i)

  pub tree-Card : (a : ℕ) (u : SetTree) → slice_get ts a ≡ Some (of_set u) → shape_tree p ts (s.Card a) ≡ of_number (t.card u)
  unfolding shape_tree the_name the_mark the_list is_object is_number is_set is_field is_truth the_object the_number the_set the_field the_truth the_value
  tree-Card a u ha = λ i. of_number (t.card (the_set (ha i)))

  pub fits-FreeSet : (n : ℕ) (x : Name) → slice_get p.names n ≡ Some x → fits p ts (s.FreeSet n) ≡ true
  unfolding fits the_name the_mark the_list is_object is_number is_set is_field is_truth the_object the_number the_set the_field the_truth the_value
  fits-FreeSet n x hn = λ i. is_some (hn i)

  pub tree-FreeSet : (n : ℕ) (x : Name) → slice_get p.names n ≡ Some x → shape_tree p ts (s.FreeSet n) ≡ of_set (t.free_set x)
  unfolding shape_tree the_name the_mark the_list is_object is_number is_set is_field is_truth the_object the_number the_set the_field the_truth the_value
  tree-FreeSet n x hn = λ i. of_set (t.free_set (the_name (hn i)))

  pub fits-ReadSet : (a : ℕ) (b : ℕ) (u : FieldTree) (v : TermTree) → slice_get ts a ≡ Some (of_field u) → slice_get ts b ≡ Some (of_object v) → fits p ts (s.ReadSet a b) ≡ true
  unfolding fits the_name the_mark the_list is_object is_number is_set is_field is_truth the_object the_number the_set the_field the_truth the_value
  fits-ReadSet a b u v ha hb = λ i. is_field (ha i) && is_object (hb i)

  pub tree-ReadSet : (a : ℕ) (b : ℕ) (u : FieldTree) (v : TermTree) → slice_get ts a ≡ Some (of_field u) → slice_get ts b ≡ Some (of_object v) → shape_tree p ts (s.ReadSet a b) ≡ of_set (t.read_set u v)
  unfolding shape_tree the_name the_mark the_list is_object is_number is_set is_field is_truth the_object the_number the_set the_field the_truth the_value
  tree-ReadSet a b u v ha hb = λ i. of_set (t.read_set (the_field (ha i)) (the_object (hb i)))

  pub fits-Empty : fits p ts s.Empty ≡ true
  unfolding fits the_name the_mark the_list is_object is_number is_set is_field is_truth the_object the_number the_set the_field the_truth the_value
  fits-Empty = refl

  pub tree-Empty : shape_tree p ts s.Empty ≡ of_set t.empty
  unfolding shape_tree the_name the_mark the_list is_object is_number is_set is_field is_truth the_object the_number the_set the_field the_truth the_value
  tree-Empty = refl

  pub fits-Univ : fits p ts s.Univ ≡ true
  unfolding fits the_name the_mark the_list is_object is_number is_set is_field is_truth the_object the_number the_set the_field the_truth the_value
  fits-Univ = refl

  pub tree-Univ : shape_tree p ts s.Univ ≡ of_set t.univ
  unfolding shape_tree the_name the_mark the_list is_object is_number is_set is_field is_truth the_object the_number the_set the_field the_truth the_value
  tree-Univ = refl

  pub fits-Single : (a : ℕ) (u : TermTree) → slice_get ts a ≡ Some (of_object u) → fits p ts (s.Single a) ≡ true
  unfolding fits the_name the_mark the_list is_object is_number is_set is_field is_truth the_object the_number the_set the_field the_truth the_value
  fits-Single a u ha = λ i. is_object (ha i)

  pub tree-Single : (a : ℕ) (u : TermTree) → slice_get ts a ≡ Some (of_object u) → shape_tree p ts (s.Single a) ≡ of_set (t.single u)
  unfolding shape_tree the_name the_mark the_list is_object is_number is_set is_field is_truth the_object the_number the_set the_field the_truth the_value
  tree-Single a u ha = λ i. of_set (t.single (the_object (ha i)))

  pub fits-Union : (a : ℕ) (b : ℕ) (u : SetTree) (v : SetTree) → slice_get ts a ≡ Some (of_set u) → slice_get ts b ≡ Some (of_set v) → fits p ts (s.Union a b) ≡ true
  unfolding fits the_name the_mark the_list is_object is_number is_set is_field is_truth the_object the_number the_set the_field the_truth the_value
  fits-Union a b u v ha hb = λ i. is_set (ha i) && is_set (hb i)

  pub tree-Union : (a : ℕ) (b : ℕ) (u : SetTree) (v : SetTree) → slice_get ts a ≡ Some (of_set u) → slice_get ts b ≡ Some (of_set v) → shape_tree p ts (s.Union a b) ≡ of_set (t.union u v)
  unfolding shape_tree the_name the_mark the_list is_object is_number is_set is_field is_truth the_object the_number the_set the_field the_truth the_value
  tree-Union a b u v ha hb = λ i. of_set (t.union (the_set (ha i)) (the_set (hb i)))

  pub fits-Inter : (a : ℕ) (b : ℕ) (u : SetTree) (v : SetTree) → slice_get ts a ≡ Some (of_set u) → slice_get ts b ≡ Some (of_set v) → fits p ts (s.Inter a b) ≡ true
  unfolding fits the_name the_mark the_list is_object is_number is_set is_field is_truth the_object the_number the_set the_field the_truth the_value
  fits-Inter a b u v ha hb = λ i. is_set (ha i) && is_set (hb i)

  pub tree-Inter : (a : ℕ) (b : ℕ) (u : SetTree) (v : SetTree) → slice_get ts a ≡ Some (of_set u) → slice_get ts b ≡ Some (of_set v) → shape_tree p ts (s.Inter a b) ≡ of_set (t.inter u v)
  unfolding shape_tree the_name the_mark the_list is_object is_number is_set is_field is_truth the_object the_number the_set the_field the_truth the_value
  tree-Inter a b u v ha hb = λ i. of_set (t.inter (the_set (ha i)) (the_set (hb i)))

  pub fits-Diff : (a : ℕ) (b : ℕ) (u : SetTree) (v : SetTree) → slice_get ts a ≡ Some (of_set u) → slice_get ts b ≡ Some (of_set v) → fits p ts (s.Diff a b) ≡ true
  unfolding fits the_name the_mark the_list is_object is_number is_set is_field is_truth the_object the_number the_set the_field the_truth the_value
  fits-Diff a b u v ha hb = λ i. is_set (ha i) && is_set (hb i)

  pub tree-Diff : (a : ℕ) (b : ℕ) (u : SetTree) (v : SetTree) → slice_get ts a ≡ Some (of_set u) → slice_get ts b ≡ Some (of_set v) → shape_tree p ts (s.Diff a b) ≡ of_set (t.diff u v)
  unfolding shape_tree the_name the_mark the_list is_object is_number is_set is_field is_truth the_object the_number the_set the_field the_truth the_value
  tree-Diff a b u v ha hb = λ i. of_set (t.diff (the_set (ha i)) (the_set (hb i)))

  pub fits-Compl : (a : ℕ) (u : SetTree) → slice_get ts a ≡ Some (of_set u) → fits p ts (s.Compl a) ≡ true
  unfolding fits the_name the_mark the_list is_object is_number is_set is_field is_truth the_object the_number the_set the_field the_truth the_value
  fits-Compl a u ha = λ i. is_set (ha i)

  pub tree-Compl : (a : ℕ) (u : SetTree) → slice_get ts a ≡ Some (of_set u) → shape_tree p ts (s.Compl a) ≡ of_set (t.compl u)
  unfolding shape_tree the_name the_mark the_list is_object is_number is_set is_field is_truth the_object the_number the_set the_field the_truth the_value
  tree-Compl a u ha = λ i. of_set (t.compl (the_set (ha i)))

  pub fits-Compr : (a : ℕ) (u : FormulaTree) → slice_get ts a ≡ Some (of_truth u) → fits p ts (s.Compr a) ≡ true
  unfolding fits the_name the_mark the_list is_object is_number is_set is_field is_truth the_object the_number the_set the_field the_truth the_value
  fits-Compr a u ha = λ i. is_truth (ha i)

  pub tree-Compr : (a : ℕ) (u : FormulaTree) → slice_get ts a ≡ Some (of_truth u) → shape_tree p ts (s.Compr a) ≡ of_set (t.compr u)
  unfolding shape_tree the_name the_mark the_list is_object is_number is_set is_field is_truth the_object the_number the_set the_field the_truth the_value
  tree-Compr a u ha = λ i. of_set (t.compr (the_truth (ha i)))

  pub fits-FreeField : (n : ℕ) (x : Name) → slice_get p.names n ≡ Some x → fits p ts (s.FreeField n) ≡ true
  unfolding fits the_name the_mark the_list is_object is_number is_set is_field is_truth the_object the_number the_set the_field the_truth the_value
  fits-FreeField n x hn = λ i. is_some (hn i)

  pub tree-FreeField : (n : ℕ) (x : Name) → slice_get p.names n ≡ Some x → shape_tree p ts (s.FreeField n) ≡ of_field (t.free_field x)
  unfolding shape_tree the_name the_mark the_list is_object is_number is_set is_field is_truth the_object the_number the_set the_field the_truth the_value
  tree-FreeField n x hn = λ i. of_field (t.free_field (the_name (hn i)))

  pub fits-Update : (a : ℕ) (b : ℕ) (c : ℕ) (u : FieldTree) (v : TermTree) (w : ValueTree) → slice_get ts a ≡ Some (of_field u) → slice_get ts b ≡ Some (of_object v) → slice_get ts c ≡ Some w → fits p ts (s.Update a b c) ≡ true
  unfolding fits the_name the_mark the_list is_object is_number is_set is_field is_truth the_object the_number the_set the_field the_truth the_value
  fits-Update a b c u v w ha hb hc = λ i. is_field (ha i) && is_object (hb i) && is_some (hc i)

  pub tree-Update : (a : ℕ) (b : ℕ) (c : ℕ) (u : FieldTree) (v : TermTree) (w : ValueTree) → slice_get ts a ≡ Some (of_field u) → slice_get ts b ≡ Some (of_object v) → slice_get ts c ≡ Some w → shape_tree p ts (s.Update a b c) ≡ of_field (t.update u v w)
  unfolding shape_tree the_name the_mark the_list is_object is_number is_set is_field is_truth the_object the_number the_set the_field the_truth the_value
  tree-Update a b c u v w ha hb hc = λ i. of_field (t.update (the_field (ha i)) (the_object (hb i)) (the_value (hc i)))

  pub fits-True : fits p ts s.True ≡ true
  unfolding fits the_name the_mark the_list is_object is_number is_set is_field is_truth the_object the_number the_set the_field the_truth the_value
  fits-True = refl

  pub tree-True : shape_tree p ts s.True ≡ of_truth t.true_formula
  unfolding shape_tree the_name the_mark the_list is_object is_number is_set is_field is_truth the_object the_number the_set the_field the_truth the_value
  tree-True = refl

  pub fits-False : fits p ts s.False ≡ true
  unfolding fits the_name the_mark the_list is_object is_number is_set is_field is_truth the_object the_number the_set the_field the_truth the_value
  fits-False = refl

  pub tree-False : shape_tree p ts s.False ≡ of_truth t.false_formula
  unfolding shape_tree the_name the_mark the_list is_object is_number is_set is_field is_truth the_object the_number the_set the_field the_truth the_value
  tree-False = refl

  pub fits-FreeTruth : (n : ℕ) (x : Name) → slice_get p.names n ≡ Some x → fits p ts (s.FreeTruth n) ≡ true
  unfolding fits the_name the_mark the_list is_object is_number is_set is_field is_truth the_object the_number the_set the_field the_truth the_value
  fits-FreeTruth n x hn = λ i. is_some (hn i)

  pub tree-FreeTruth : (n : ℕ) (x : Name) → slice_get p.names n ≡ Some x → shape_tree p ts (s.FreeTruth n) ≡ of_truth (t.free_truth x)
  unfolding shape_tree the_name the_mark the_list is_object is_number is_set is_field is_truth the_object the_number the_set the_field the_truth the_value
  tree-FreeTruth n x hn = λ i. of_truth (t.free_truth (the_name (hn i)))

  pub fits-ReadTruth : (a : ℕ) (b : ℕ) (u : FieldTree) (v : TermTree) → slice_get ts a ≡ Some (of_field u) → slice_get ts b ≡ Some (of_object v) → fits p ts (s.ReadTruth a b) ≡ true
  unfolding fits the_name the_mark the_list is_object is_number is_set is_field is_truth the_object the_number the_set the_field the_truth the_value
  fits-ReadTruth a b u v ha hb = λ i. is_field (ha i) && is_object (hb i)

  pub tree-ReadTruth : (a : ℕ) (b : ℕ) (u : FieldTree) (v : TermTree) → slice_get ts a ≡ Some (of_field u) → slice_get ts b ≡ Some (of_object v) → shape_tree p ts (s.ReadTruth a b) ≡ of_truth (t.read_truth u v)
  unfolding shape_tree the_name the_mark the_list is_object is_number is_set is_field is_truth the_object the_number the_set the_field the_truth the_value
  tree-ReadTruth a b u v ha hb = λ i. of_truth (t.read_truth (the_field (ha i)) (the_object (hb i)))

  pub fits-Negation : (a : ℕ) (u : FormulaTree) → slice_get ts a ≡ Some (of_truth u) → fits p ts (s.Negation a) ≡ true
  unfolding fits the_name the_mark the_list is_object is_number is_set is_field is_truth the_object the_number the_set the_field the_truth the_value
  fits-Negation a u ha = λ i. is_truth (ha i)

  pub tree-Negation : (a : ℕ) (u : FormulaTree) → slice_get ts a ≡ Some (of_truth u) → shape_tree p ts (s.Negation a) ≡ of_truth (t.negation u)
  unfolding shape_tree the_name the_mark the_list is_object is_number is_set is_field is_truth the_object the_number the_set the_field the_truth the_value
  tree-Negation a u ha = λ i. of_truth (t.negation (the_truth (ha i)))

  pub fits-And : (a : ℕ) (b : ℕ) (u : FormulaTree) (v : FormulaTree) → slice_get ts a ≡ Some (of_truth u) → slice_get ts b ≡ Some (of_truth v) → fits p ts (s.And a b) ≡ true
  unfolding fits the_name the_mark the_list is_object is_number is_set is_field is_truth the_object the_number the_set the_field the_truth the_value
  fits-And a b u v ha hb = λ i. is_truth (ha i) && is_truth (hb i)

  pub tree-And : (a : ℕ) (b : ℕ) (u : FormulaTree) (v : FormulaTree) → slice_get ts a ≡ Some (of_truth u) → slice_get ts b ≡ Some (of_truth v) → shape_tree p ts (s.And a b) ≡ of_truth (t.and u v)
  unfolding shape_tree the_name the_mark the_list is_object is_number is_set is_field is_truth the_object the_number the_set the_field the_truth the_value
  tree-And a b u v ha hb = λ i. of_truth (t.and (the_truth (ha i)) (the_truth (hb i)))

  pub fits-Or : (a : ℕ) (b : ℕ) (u : FormulaTree) (v : FormulaTree) → slice_get ts a ≡ Some (of_truth u) → slice_get ts b ≡ Some (of_truth v) → fits p ts (s.Or a b) ≡ true
  unfolding fits the_name the_mark the_list is_object is_number is_set is_field is_truth the_object the_number the_set the_field the_truth the_value
  fits-Or a b u v ha hb = λ i. is_truth (ha i) && is_truth (hb i)

  pub tree-Or : (a : ℕ) (b : ℕ) (u : FormulaTree) (v : FormulaTree) → slice_get ts a ≡ Some (of_truth u) → slice_get ts b ≡ Some (of_truth v) → shape_tree p ts (s.Or a b) ≡ of_truth (t.or u v)
  unfolding shape_tree the_name the_mark the_list is_object is_number is_set is_field is_truth the_object the_number the_set the_field the_truth the_value
  tree-Or a b u v ha hb = λ i. of_truth (t.or (the_truth (ha i)) (the_truth (hb i)))

  pub fits-Implies : (a : ℕ) (b : ℕ) (u : FormulaTree) (v : FormulaTree) → slice_get ts a ≡ Some (of_truth u) → slice_get ts b ≡ Some (of_truth v) → fits p ts (s.Implies a b) ≡ true
  unfolding fits the_name the_mark the_list is_object is_number is_set is_field is_truth the_object the_number the_set the_field the_truth the_value
  fits-Implies a b u v ha hb = λ i. is_truth (ha i) && is_truth (hb i)

  pub tree-Implies : (a : ℕ) (b : ℕ) (u : FormulaTree) (v : FormulaTree) → slice_get ts a ≡ Some (of_truth u) → slice_get ts b ≡ Some (of_truth v) → shape_tree p ts (s.Implies a b) ≡ of_truth (t.implies u v)
  unfolding shape_tree the_name the_mark the_list is_object is_number is_set is_field is_truth the_object the_number the_set the_field the_truth the_value
  tree-Implies a b u v ha hb = λ i. of_truth (t.implies (the_truth (ha i)) (the_truth (hb i)))

  pub fits-Iff : (a : ℕ) (b : ℕ) (u : FormulaTree) (v : FormulaTree) → slice_get ts a ≡ Some (of_truth u) → slice_get ts b ≡ Some (of_truth v) → fits p ts (s.Iff a b) ≡ true
  unfolding fits the_name the_mark the_list is_object is_number is_set is_field is_truth the_object the_number the_set the_field the_truth the_value
  fits-Iff a b u v ha hb = λ i. is_truth (ha i) && is_truth (hb i)

  pub tree-Iff : (a : ℕ) (b : ℕ) (u : FormulaTree) (v : FormulaTree) → slice_get ts a ≡ Some (of_truth u) → slice_get ts b ≡ Some (of_truth v) → shape_tree p ts (s.Iff a b) ≡ of_truth (t.iff u v)
  unfolding shape_tree the_name the_mark the_list is_object is_number is_set is_field is_truth the_object the_number the_set the_field the_truth the_value
  tree-Iff a b u v ha hb = λ i. of_truth (t.iff (the_truth (ha i)) (the_truth (hb i)))

  pub fits-All : (a : ℕ) (u : FormulaTree) → slice_get ts a ≡ Some (of_truth u) → fits p ts (s.All a) ≡ true
  unfolding fits the_name the_mark the_list is_object is_number is_set is_field is_truth the_object the_number the_set the_field the_truth the_value
  fits-All a u ha = λ i. is_truth (ha i)

  pub tree-All : (a : ℕ) (u : FormulaTree) → slice_get ts a ≡ Some (of_truth u) → shape_tree p ts (s.All a) ≡ of_truth (t.all u)
  unfolding shape_tree the_name the_mark the_list is_object is_number is_set is_field is_truth the_object the_number the_set the_field the_truth the_value
  tree-All a u ha = λ i. of_truth (t.all (the_truth (ha i)))

  pub fits-Ex : (a : ℕ) (u : FormulaTree) → slice_get ts a ≡ Some (of_truth u) → fits p ts (s.Ex a) ≡ true
  unfolding fits the_name the_mark the_list is_object is_number is_set is_field is_truth the_object the_number the_set the_field the_truth the_value
  fits-Ex a u ha = λ i. is_truth (ha i)

  pub tree-Ex : (a : ℕ) (u : FormulaTree) → slice_get ts a ≡ Some (of_truth u) → shape_tree p ts (s.Ex a) ≡ of_truth (t.ex u)
  unfolding shape_tree the_name the_mark the_list is_object is_number is_set is_field is_truth the_object the_number the_set the_field the_truth the_value
  tree-Ex a u ha = λ i. of_truth (t.ex (the_truth (ha i)))

  pub fits-EqObject : (a : ℕ) (b : ℕ) (u : TermTree) (v : TermTree) → slice_get ts a ≡ Some (of_object u) → slice_get ts b ≡ Some (of_object v) → fits p ts (s.EqObject a b) ≡ true
  unfolding fits the_name the_mark the_list is_object is_number is_set is_field is_truth the_object the_number the_set the_field the_truth the_value
  fits-EqObject a b u v ha hb = λ i. is_object (ha i) && is_object (hb i)

  pub tree-EqObject : (a : ℕ) (b : ℕ) (u : TermTree) (v : TermTree) → slice_get ts a ≡ Some (of_object u) → slice_get ts b ≡ Some (of_object v) → shape_tree p ts (s.EqObject a b) ≡ of_truth (t.eq_object u v)
  unfolding shape_tree the_name the_mark the_list is_object is_number is_set is_field is_truth the_object the_number the_set the_field the_truth the_value
  tree-EqObject a b u v ha hb = λ i. of_truth (t.eq_object (the_object (ha i)) (the_object (hb i)))

  pub fits-EqNumber : (a : ℕ) (b : ℕ) (u : IntTree) (v : IntTree) → slice_get ts a ≡ Some (of_number u) → slice_get ts b ≡ Some (of_number v) → fits p ts (s.EqNumber a b) ≡ true
  unfolding fits the_name the_mark the_list is_object is_number is_set is_field is_truth the_object the_number the_set the_field the_truth the_value
  fits-EqNumber a b u v ha hb = λ i. is_number (ha i) && is_number (hb i)

  pub tree-EqNumber : (a : ℕ) (b : ℕ) (u : IntTree) (v : IntTree) → slice_get ts a ≡ Some (of_number u) → slice_get ts b ≡ Some (of_number v) → shape_tree p ts (s.EqNumber a b) ≡ of_truth (t.eq_number u v)
  unfolding shape_tree the_name the_mark the_list is_object is_number is_set is_field is_truth the_object the_number the_set the_field the_truth the_value
  tree-EqNumber a b u v ha hb = λ i. of_truth (t.eq_number (the_number (ha i)) (the_number (hb i)))

  pub fits-EqSet : (a : ℕ) (b : ℕ) (u : SetTree) (v : SetTree) → slice_get ts a ≡ Some (of_set u) → slice_get ts b ≡ Some (of_set v) → fits p ts (s.EqSet a b) ≡ true
  unfolding fits the_name the_mark the_list is_object is_number is_set is_field is_truth the_object the_number the_set the_field the_truth the_value
  fits-EqSet a b u v ha hb = λ i. is_set (ha i) && is_set (hb i)

  pub tree-EqSet : (a : ℕ) (b : ℕ) (u : SetTree) (v : SetTree) → slice_get ts a ≡ Some (of_set u) → slice_get ts b ≡ Some (of_set v) → shape_tree p ts (s.EqSet a b) ≡ of_truth (t.eq_set u v)
  unfolding shape_tree the_name the_mark the_list is_object is_number is_set is_field is_truth the_object the_number the_set the_field the_truth the_value
  tree-EqSet a b u v ha hb = λ i. of_truth (t.eq_set (the_set (ha i)) (the_set (hb i)))

  pub fits-Less : (a : ℕ) (b : ℕ) (u : IntTree) (v : IntTree) → slice_get ts a ≡ Some (of_number u) → slice_get ts b ≡ Some (of_number v) → fits p ts (s.Less a b) ≡ true
  unfolding fits the_name the_mark the_list is_object is_number is_set is_field is_truth the_object the_number the_set the_field the_truth the_value
  fits-Less a b u v ha hb = λ i. is_number (ha i) && is_number (hb i)

  pub tree-Less : (a : ℕ) (b : ℕ) (u : IntTree) (v : IntTree) → slice_get ts a ≡ Some (of_number u) → slice_get ts b ≡ Some (of_number v) → shape_tree p ts (s.Less a b) ≡ of_truth (t.less u v)
  unfolding shape_tree the_name the_mark the_list is_object is_number is_set is_field is_truth the_object the_number the_set the_field the_truth the_value
  tree-Less a b u v ha hb = λ i. of_truth (t.less (the_number (ha i)) (the_number (hb i)))

  pub fits-LessEqual : (a : ℕ) (b : ℕ) (u : IntTree) (v : IntTree) → slice_get ts a ≡ Some (of_number u) → slice_get ts b ≡ Some (of_number v) → fits p ts (s.LessEqual a b) ≡ true
  unfolding fits the_name the_mark the_list is_object is_number is_set is_field is_truth the_object the_number the_set the_field the_truth the_value
  fits-LessEqual a b u v ha hb = λ i. is_number (ha i) && is_number (hb i)

  pub tree-LessEqual : (a : ℕ) (b : ℕ) (u : IntTree) (v : IntTree) → slice_get ts a ≡ Some (of_number u) → slice_get ts b ≡ Some (of_number v) → shape_tree p ts (s.LessEqual a b) ≡ of_truth (t.less_equal u v)
  unfolding shape_tree the_name the_mark the_list is_object is_number is_set is_field is_truth the_object the_number the_set the_field the_truth the_value
  tree-LessEqual a b u v ha hb = λ i. of_truth (t.less_equal (the_number (ha i)) (the_number (hb i)))

  pub fits-Divides : (z : ℤ) (a : ℕ) (u : IntTree) → slice_get ts a ≡ Some (of_number u) → fits p ts (s.Divides z a) ≡ true
  unfolding fits the_name the_mark the_list is_object is_number is_set is_field is_truth the_object the_number the_set the_field the_truth the_value
  fits-Divides z a u ha = λ i. is_number (ha i)

  pub tree-Divides : (z : ℤ) (a : ℕ) (u : IntTree) → slice_get ts a ≡ Some (of_number u) → shape_tree p ts (s.Divides z a) ≡ of_truth (t.divides z u)
  unfolding shape_tree the_name the_mark the_list is_object is_number is_set is_field is_truth the_object the_number the_set the_field the_truth the_value
  tree-Divides z a u ha = λ i. of_truth (t.divides z (the_number (ha i)))

  pub fits-Member : (a : ℕ) (b : ℕ) (u : TermTree) (v : SetTree) → slice_get ts a ≡ Some (of_object u) → slice_get ts b ≡ Some (of_set v) → fits p ts (s.Member a b) ≡ true
  unfolding fits the_name the_mark the_list is_object is_number is_set is_field is_truth the_object the_number the_set the_field the_truth the_value
  fits-Member a b u v ha hb = λ i. is_object (ha i) && is_set (hb i)

  pub tree-Member : (a : ℕ) (b : ℕ) (u : TermTree) (v : SetTree) → slice_get ts a ≡ Some (of_object u) → slice_get ts b ≡ Some (of_set v) → shape_tree p ts (s.Member a b) ≡ of_truth (t.member u v)
  unfolding shape_tree the_name the_mark the_list is_object is_number is_set is_field is_truth the_object the_number the_set the_field the_truth the_value
  tree-Member a b u v ha hb = λ i. of_truth (t.member (the_object (ha i)) (the_set (hb i)))

  pub fits-Subset : (a : ℕ) (b : ℕ) (u : SetTree) (v : SetTree) → slice_get ts a ≡ Some (of_set u) → slice_get ts b ≡ Some (of_set v) → fits p ts (s.Subset a b) ≡ true
  unfolding fits the_name the_mark the_list is_object is_number is_set is_field is_truth the_object the_number the_set the_field the_truth the_value
  fits-Subset a b u v ha hb = λ i. is_set (ha i) && is_set (hb i)

  pub tree-Subset : (a : ℕ) (b : ℕ) (u : SetTree) (v : SetTree) → slice_get ts a ≡ Some (of_set u) → slice_get ts b ≡ Some (of_set v) → shape_tree p ts (s.Subset a b) ≡ of_truth (t.subset u v)
  unfolding shape_tree the_name the_mark the_list is_object is_number is_set is_field is_truth the_object the_number the_set the_field the_truth the_value
  tree-Subset a b u v ha hb = λ i. of_truth (t.subset (the_set (ha i)) (the_set (hb i)))

  pub fits-Reach : (l : ℕ) (a : ℕ) (b : ℕ) (ns : List ℕ) (fs : FieldTrees) (u : TermTree) (v : TermTree) → slice_get p.lists l ≡ Some ns → are_fields ts ns ≡ true → fields_at ts ns ≡ fs → slice_get ts a ≡ Some (of_object u) → slice_get ts b ≡ Some (of_object v) → fits p ts (s.Reach l a b) ≡ true
  unfolding fits the_name the_mark the_list is_object is_number is_set is_field is_truth the_object the_number the_set the_field the_truth the_value
  fits-Reach l a b ns fs u v hl hf hs ha hb = λ i. is_some (hl i) && (ap (are_fields ts) (ap the_list hl) ∙ hf) i && is_object (ha i) && is_object (hb i)

  pub tree-Reach : (l : ℕ) (a : ℕ) (b : ℕ) (ns : List ℕ) (fs : FieldTrees) (u : TermTree) (v : TermTree) → slice_get p.lists l ≡ Some ns → are_fields ts ns ≡ true → fields_at ts ns ≡ fs → slice_get ts a ≡ Some (of_object u) → slice_get ts b ≡ Some (of_object v) → shape_tree p ts (s.Reach l a b) ≡ of_truth (t.reach fs u v)
  unfolding shape_tree the_name the_mark the_list is_object is_number is_set is_field is_truth the_object the_number the_set the_field the_truth the_value
  tree-Reach l a b ns fs u v hl hf hs ha hb = λ i. of_truth (t.reach ((ap (fields_at ts) (ap the_list hl) ∙ hs) i) (the_object (ha i)) (the_object (hb i)))

  pub fits-Tree : (l : ℕ) (ns : List ℕ) (fs : FieldTrees) → slice_get p.lists l ≡ Some ns → are_fields ts ns ≡ true → fields_at ts ns ≡ fs → fits p ts (s.Tree l) ≡ true
  unfolding fits the_name the_mark the_list is_object is_number is_set is_field is_truth the_object the_number the_set the_field the_truth the_value
  fits-Tree l ns fs hl hf hs = λ i. is_some (hl i) && (ap (are_fields ts) (ap the_list hl) ∙ hf) i

  pub tree-Tree : (l : ℕ) (ns : List ℕ) (fs : FieldTrees) → slice_get p.lists l ≡ Some ns → are_fields ts ns ≡ true → fields_at ts ns ≡ fs → shape_tree p ts (s.Tree l) ≡ of_truth (t.tree fs)
  unfolding shape_tree the_name the_mark the_list is_object is_number is_set is_field is_truth the_object the_number the_set the_field the_truth the_value
  tree-Tree l ns fs hl hf hs = λ i. of_truth (t.tree ((ap (fields_at ts) (ap the_list hl) ∙ hs) i))

  pub fits-Mark : (m : ℕ) (a : ℕ) (x : Mark) (u : FormulaTree) → slice_get p.marks m ≡ Some x → slice_get ts a ≡ Some (of_truth u) → fits p ts (s.Mark m a) ≡ true
  unfolding fits the_name the_mark the_list is_object is_number is_set is_field is_truth the_object the_number the_set the_field the_truth the_value
  fits-Mark m a x u hm ha = λ i. is_some (hm i) && is_truth (ha i)

  pub tree-Mark : (m : ℕ) (a : ℕ) (x : Mark) (u : FormulaTree) → slice_get p.marks m ≡ Some x → slice_get ts a ≡ Some (of_truth u) → shape_tree p ts (s.Mark m a) ≡ of_truth (t.mark x u)
  unfolding shape_tree the_name the_mark the_list is_object is_number is_set is_field is_truth the_object the_number the_set the_field the_truth the_value
  tree-Mark m a x u hm ha = λ i. of_truth (t.mark (the_mark (hm i)) (the_truth (ha i)))

pub ruleset node_steps = (fits-Bound, tree-Bound, fits-FreeObject, tree-FreeObject, fits-Null, tree-Null, fits-ReadObject, tree-ReadObject, fits-Const, tree-Const, fits-FreeNumber, tree-FreeNumber, fits-ReadNumber, tree-ReadNumber, fits-Add, tree-Add, fits-Sub, tree-Sub, fits-Neg, tree-Neg, fits-Scale, tree-Scale, fits-Card, tree-Card, fits-FreeSet, tree-FreeSet, fits-ReadSet, tree-ReadSet, fits-Empty, tree-Empty, fits-Univ, tree-Univ, fits-Single, tree-Single, fits-Union, tree-Union, fits-Inter, tree-Inter, fits-Diff, tree-Diff, fits-Compl, tree-Compl, fits-Compr, tree-Compr, fits-FreeField, tree-FreeField, fits-Update, tree-Update, fits-True, tree-True, fits-False, tree-False, fits-FreeTruth, tree-FreeTruth, fits-ReadTruth, tree-ReadTruth, fits-Negation, tree-Negation, fits-And, tree-And, fits-Or, tree-Or, fits-Implies, tree-Implies, fits-Iff, tree-Iff, fits-All, tree-All, fits-Ex, tree-Ex, fits-EqObject, tree-EqObject, fits-EqNumber, tree-EqNumber, fits-EqSet, tree-EqSet, fits-Less, tree-Less, fits-LessEqual, tree-LessEqual, fits-Divides, tree-Divides, fits-Member, tree-Member, fits-Subset, tree-Subset, fits-Reach, tree-Reach, fits-Tree, tree-Tree, fits-Mark, tree-Mark)
