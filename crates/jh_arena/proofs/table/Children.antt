-- Written by tools/table.py.
-- The parts of a node are nodes of the table, also as parts of a tree.
use Rattle.std.proofs.Common.{◌≡◌, refl, sym, ℕ, true, List, [], ◌∷◌, slice_get, Some, None, is_some}
use Rattle.std.specs.Prelude.{Option}
use Rattle.std.proofs.lemmas.Bool.{true≢false}
use Rattle.jh_form.specs.Tree.{TermTree, IntTree, SetTree, FieldTree, ValueTree, FormulaTree, FieldTrees, of_object, of_number, of_truth, of_set, of_field, none, more}
use Rattle.jh_form.specs.Tree as t
use Rattle.jh_form.proofs.ClosedLemmas.{both-left, both-right}
use Rattle.jh_boxed.specs.Parts.{Among, first, later, IsChild}
use Rattle.jh_boxed.specs.Parts as c
use Rattle.jh_arena.specs.table.Entries.{Pools, the_list, is_object, is_number, is_set, is_field, is_truth, the_object, the_number, the_set, the_field, the_truth, the_value, are_fields, fields_at}
use Rattle.jh_arena.specs.declared.table.shapes.Shape.{Shape}
use Rattle.jh_arena.specs.declared.table.shapes.Shape.TheVariants as s
use Rattle.jh_arena.specs.table.Nodes.{fits, shape_tree}
use Rattle.jh_arena.proofs.table.PartSteps.{part-Add-a, part-Add-b, part-All-a, part-And-a, part-And-b, part-Card-a, part-Compl-a, part-Compr-a, part-Diff-a, part-Diff-b, part-Divides-a, part-EqNumber-a, part-EqNumber-b, part-EqObject-a, part-EqObject-b, part-EqSet-a, part-EqSet-b, part-Ex-a, part-Iff-a, part-Iff-b, part-Implies-a, part-Implies-b, part-Inter-a, part-Inter-b, part-Less-a, part-Less-b, part-LessEqual-a, part-LessEqual-b, part-Mark-a, part-Member-a, part-Member-b, part-Neg-a, part-Negation-a, part-Or-a, part-Or-b, part-Reach-a, part-Reach-b, part-Reach-fields, part-ReadNumber-a, part-ReadNumber-b, part-ReadObject-a, part-ReadObject-b, part-ReadSet-a, part-ReadSet-b, part-ReadTruth-a, part-ReadTruth-b, part-Scale-a, part-Single-a, part-Sub-a, part-Sub-b, part-Subset-a, part-Subset-b, part-Tree-fields, part-Union-a, part-Union-b, part-Update-a, part-Update-b, part-Update-c}

-- each field of a list
unfoldable pub EachField : (ValueTree → Type 0) → FieldTrees → Type 0
EachField P t.none = Unit {0}
EachField P (t.more f fs) = P (of_field f) × EachField P fs

-- each part that stands directly under a node
unfoldable pub EachPart : (ValueTree → Type 0) → ValueTree → Type 0
EachPart P (of_object (t.bound k)) = Unit {0}
EachPart P (of_object (t.free_object x)) = Unit {0}
EachPart P (of_object t.null) = Unit {0}
EachPart P (of_object (t.read_object a b)) = P (of_field a) × P (of_object b)
EachPart P (of_number (t.const z)) = Unit {0}
EachPart P (of_number (t.free_number x)) = Unit {0}
EachPart P (of_number (t.read_number a b)) = P (of_field a) × P (of_object b)
EachPart P (of_number (t.add a b)) = P (of_number a) × P (of_number b)
EachPart P (of_number (t.sub a b)) = P (of_number a) × P (of_number b)
EachPart P (of_number (t.neg a)) = P (of_number a)
EachPart P (of_number (t.scale z a)) = P (of_number a)
EachPart P (of_number (t.card a)) = P (of_set a)
EachPart P (of_set (t.free_set x)) = Unit {0}
EachPart P (of_set (t.read_set a b)) = P (of_field a) × P (of_object b)
EachPart P (of_set t.empty) = Unit {0}
EachPart P (of_set t.univ) = Unit {0}
EachPart P (of_set (t.single a)) = P (of_object a)
EachPart P (of_set (t.union a b)) = P (of_set a) × P (of_set b)
EachPart P (of_set (t.inter a b)) = P (of_set a) × P (of_set b)
EachPart P (of_set (t.diff a b)) = P (of_set a) × P (of_set b)
EachPart P (of_set (t.compl a)) = P (of_set a)
EachPart P (of_set (t.compr a)) = P (of_truth a)
EachPart P (of_field (t.free_field x)) = Unit {0}
EachPart P (of_field (t.update a b c)) = P (of_field a) × P (of_object b) × P c
EachPart P (of_truth t.true_formula) = Unit {0}
EachPart P (of_truth t.false_formula) = Unit {0}
EachPart P (of_truth (t.free_truth x)) = Unit {0}
EachPart P (of_truth (t.read_truth a b)) = P (of_field a) × P (of_object b)
EachPart P (of_truth (t.negation a)) = P (of_truth a)
EachPart P (of_truth (t.and a b)) = P (of_truth a) × P (of_truth b)
EachPart P (of_truth (t.or a b)) = P (of_truth a) × P (of_truth b)
EachPart P (of_truth (t.implies a b)) = P (of_truth a) × P (of_truth b)
EachPart P (of_truth (t.iff a b)) = P (of_truth a) × P (of_truth b)
EachPart P (of_truth (t.all a)) = P (of_truth a)
EachPart P (of_truth (t.ex a)) = P (of_truth a)
EachPart P (of_truth (t.eq_object a b)) = P (of_object a) × P (of_object b)
EachPart P (of_truth (t.eq_number a b)) = P (of_number a) × P (of_number b)
EachPart P (of_truth (t.eq_set a b)) = P (of_set a) × P (of_set b)
EachPart P (of_truth (t.less a b)) = P (of_number a) × P (of_number b)
EachPart P (of_truth (t.less_equal a b)) = P (of_number a) × P (of_number b)
EachPart P (of_truth (t.divides z a)) = P (of_number a)
EachPart P (of_truth (t.member a b)) = P (of_object a) × P (of_set b)
EachPart P (of_truth (t.subset a b)) = P (of_set a) × P (of_set b)
EachPart P (of_truth (t.reach fs a b)) = EachField P fs × P (of_object a) × P (of_object b)
EachPart P (of_truth (t.tree fs)) = EachField P fs
EachPart P (of_truth (t.mark k a)) = P (of_truth a)

field-of : (P : ValueTree → Type 0) (f : FieldTree) (fs : FieldTrees) → Among f fs → EachField P fs → P (of_field f)
unfolding EachField
field-of P _ _ (first f fs) h = h.0
field-of P _ _ (later f g fs m) h = field-of P f fs m h.1

pub part-of : (P : ValueTree → Type 0) (w v : ValueTree) → IsChild w v → EachPart P v → P w
unfolding EachPart
part-of P _ _ (c.read_object-a a b) h = h.0
part-of P _ _ (c.read_object-b a b) h = h.1
part-of P _ _ (c.read_number-a a b) h = h.0
part-of P _ _ (c.read_number-b a b) h = h.1
part-of P _ _ (c.add-a a b) h = h.0
part-of P _ _ (c.add-b a b) h = h.1
part-of P _ _ (c.sub-a a b) h = h.0
part-of P _ _ (c.sub-b a b) h = h.1
part-of P _ _ (c.neg a) h = h
part-of P _ _ (c.scale z a) h = h
part-of P _ _ (c.card a) h = h
part-of P _ _ (c.read_set-a a b) h = h.0
part-of P _ _ (c.read_set-b a b) h = h.1
part-of P _ _ (c.single a) h = h
part-of P _ _ (c.union-a a b) h = h.0
part-of P _ _ (c.union-b a b) h = h.1
part-of P _ _ (c.inter-a a b) h = h.0
part-of P _ _ (c.inter-b a b) h = h.1
part-of P _ _ (c.diff-a a b) h = h.0
part-of P _ _ (c.diff-b a b) h = h.1
part-of P _ _ (c.compl a) h = h
part-of P _ _ (c.compr a) h = h
part-of P _ _ (c.update-a a b c) h = h.0
part-of P _ _ (c.update-b a b c) h = h.1
part-of P _ _ (c.update-c a b c) h = h.2
part-of P _ _ (c.read_truth-a a b) h = h.0
part-of P _ _ (c.read_truth-b a b) h = h.1
part-of P _ _ (c.negation a) h = h
part-of P _ _ (c.and-a a b) h = h.0
part-of P _ _ (c.and-b a b) h = h.1
part-of P _ _ (c.or-a a b) h = h.0
part-of P _ _ (c.or-b a b) h = h.1
part-of P _ _ (c.implies-a a b) h = h.0
part-of P _ _ (c.implies-b a b) h = h.1
part-of P _ _ (c.iff-a a b) h = h.0
part-of P _ _ (c.iff-b a b) h = h.1
part-of P _ _ (c.all a) h = h
part-of P _ _ (c.ex a) h = h
part-of P _ _ (c.eq_object-a a b) h = h.0
part-of P _ _ (c.eq_object-b a b) h = h.1
part-of P _ _ (c.eq_number-a a b) h = h.0
part-of P _ _ (c.eq_number-b a b) h = h.1
part-of P _ _ (c.eq_set-a a b) h = h.0
part-of P _ _ (c.eq_set-b a b) h = h.1
part-of P _ _ (c.less-a a b) h = h.0
part-of P _ _ (c.less-b a b) h = h.1
part-of P _ _ (c.less_equal-a a b) h = h.0
part-of P _ _ (c.less_equal-b a b) h = h.1
part-of P _ _ (c.divides z a) h = h
part-of P _ _ (c.member-a a b) h = h.0
part-of P _ _ (c.member-b a b) h = h.1
part-of P _ _ (c.subset-a a b) h = h.0
part-of P _ _ (c.subset-b a b) h = h.1
part-of P _ _ (c.reach-field f fs a b m) h = field-of P f fs m h.0
part-of P _ _ (c.reach-a fs a b) h = h.1
part-of P _ _ (c.reach-b fs a b) h = h.2
part-of P _ _ (c.tree-field f fs m) h = field-of P f fs m h
part-of P _ _ (c.mark k a) h = h

pub it-is-object : (o : Option ValueTree) → is_object o ≡ true → o ≡ Some (of_object (the_object o))
unfolding is_object the_object
it-is-object None h = absurd (true≢false (sym h))
it-is-object (Some (of_object v)) h = refl
it-is-object (Some (of_number v)) h = absurd (true≢false (sym h))
it-is-object (Some (of_set v)) h = absurd (true≢false (sym h))
it-is-object (Some (of_field v)) h = absurd (true≢false (sym h))
it-is-object (Some (of_truth v)) h = absurd (true≢false (sym h))

pub it-is-number : (o : Option ValueTree) → is_number o ≡ true → o ≡ Some (of_number (the_number o))
unfolding is_number the_number
it-is-number None h = absurd (true≢false (sym h))
it-is-number (Some (of_object v)) h = absurd (true≢false (sym h))
it-is-number (Some (of_number v)) h = refl
it-is-number (Some (of_set v)) h = absurd (true≢false (sym h))
it-is-number (Some (of_field v)) h = absurd (true≢false (sym h))
it-is-number (Some (of_truth v)) h = absurd (true≢false (sym h))

pub it-is-set : (o : Option ValueTree) → is_set o ≡ true → o ≡ Some (of_set (the_set o))
unfolding is_set the_set
it-is-set None h = absurd (true≢false (sym h))
it-is-set (Some (of_object v)) h = absurd (true≢false (sym h))
it-is-set (Some (of_number v)) h = absurd (true≢false (sym h))
it-is-set (Some (of_set v)) h = refl
it-is-set (Some (of_field v)) h = absurd (true≢false (sym h))
it-is-set (Some (of_truth v)) h = absurd (true≢false (sym h))

pub it-is-field : (o : Option ValueTree) → is_field o ≡ true → o ≡ Some (of_field (the_field o))
unfolding is_field the_field
it-is-field None h = absurd (true≢false (sym h))
it-is-field (Some (of_object v)) h = absurd (true≢false (sym h))
it-is-field (Some (of_number v)) h = absurd (true≢false (sym h))
it-is-field (Some (of_set v)) h = absurd (true≢false (sym h))
it-is-field (Some (of_field v)) h = refl
it-is-field (Some (of_truth v)) h = absurd (true≢false (sym h))

pub it-is-truth : (o : Option ValueTree) → is_truth o ≡ true → o ≡ Some (of_truth (the_truth o))
unfolding is_truth the_truth
it-is-truth None h = absurd (true≢false (sym h))
it-is-truth (Some (of_object v)) h = absurd (true≢false (sym h))
it-is-truth (Some (of_number v)) h = absurd (true≢false (sym h))
it-is-truth (Some (of_set v)) h = absurd (true≢false (sym h))
it-is-truth (Some (of_field v)) h = absurd (true≢false (sym h))
it-is-truth (Some (of_truth v)) h = refl

pub it-is-value : (o : Option ValueTree) → is_some o ≡ true → o ≡ Some (the_value o)
unfolding the_value
it-is-value None h = absurd (true≢false (sym h))
it-is-value (Some v) h = refl

-- a tree that stands in the list
abbrev pub Stands : List ValueTree → ValueTree → Type 0
Stands ts v = (n : ℕ) × (slice_get ts n ≡ Some v)

module _ (p : Pools) (ts : List ValueTree) where
  each-field : (ns : List ℕ) → are_fields ts ns ≡ true → EachField (Stands ts) (fields_at ts ns)
  unfolding EachField are_fields fields_at
  each-field [] h = tt
  each-field (n ∷ ns) h = ((n, it-is-field (slice_get ts n) (both-left (is_field (slice_get ts n)) (are_fields ts ns) h)), each-field ns (both-right (is_field (slice_get ts n)) (are_fields ts ns) h))

  pub each-part : (x : Shape) → fits p ts x ≡ true → EachPart (Stands ts) (shape_tree p ts x)
  unfolding EachPart shape_tree
  each-part (s.Bound k) h = tt
  each-part (s.FreeObject n) h = tt
  each-part s.Null h = tt
  each-part (s.ReadObject a b) h = ((a, it-is-field (slice_get ts a) (part-ReadObject-a p ts a b h)), (b, it-is-object (slice_get ts b) (part-ReadObject-b p ts a b h)))
  each-part (s.Const z) h = tt
  each-part (s.FreeNumber n) h = tt
  each-part (s.ReadNumber a b) h = ((a, it-is-field (slice_get ts a) (part-ReadNumber-a p ts a b h)), (b, it-is-object (slice_get ts b) (part-ReadNumber-b p ts a b h)))
  each-part (s.Add a b) h = ((a, it-is-number (slice_get ts a) (part-Add-a p ts a b h)), (b, it-is-number (slice_get ts b) (part-Add-b p ts a b h)))
  each-part (s.Sub a b) h = ((a, it-is-number (slice_get ts a) (part-Sub-a p ts a b h)), (b, it-is-number (slice_get ts b) (part-Sub-b p ts a b h)))
  each-part (s.Neg a) h = (a, it-is-number (slice_get ts a) (part-Neg-a p ts a h))
  each-part (s.Scale z a) h = (a, it-is-number (slice_get ts a) (part-Scale-a p ts z a h))
  each-part (s.Card a) h = (a, it-is-set (slice_get ts a) (part-Card-a p ts a h))
  each-part (s.FreeSet n) h = tt
  each-part (s.ReadSet a b) h = ((a, it-is-field (slice_get ts a) (part-ReadSet-a p ts a b h)), (b, it-is-object (slice_get ts b) (part-ReadSet-b p ts a b h)))
  each-part s.Empty h = tt
  each-part s.Univ h = tt
  each-part (s.Single a) h = (a, it-is-object (slice_get ts a) (part-Single-a p ts a h))
  each-part (s.Union a b) h = ((a, it-is-set (slice_get ts a) (part-Union-a p ts a b h)), (b, it-is-set (slice_get ts b) (part-Union-b p ts a b h)))
  each-part (s.Inter a b) h = ((a, it-is-set (slice_get ts a) (part-Inter-a p ts a b h)), (b, it-is-set (slice_get ts b) (part-Inter-b p ts a b h)))
  each-part (s.Diff a b) h = ((a, it-is-set (slice_get ts a) (part-Diff-a p ts a b h)), (b, it-is-set (slice_get ts b) (part-Diff-b p ts a b h)))
  each-part (s.Compl a) h = (a, it-is-set (slice_get ts a) (part-Compl-a p ts a h))
  each-part (s.Compr a) h = (a, it-is-truth (slice_get ts a) (part-Compr-a p ts a h))
  each-part (s.FreeField n) h = tt
  each-part (s.Update a b c) h = ((a, it-is-field (slice_get ts a) (part-Update-a p ts a b c h)), (b, it-is-object (slice_get ts b) (part-Update-b p ts a b c h)), (c, it-is-value (slice_get ts c) (part-Update-c p ts a b c h)))
  each-part s.True h = tt
  each-part s.False h = tt
  each-part (s.FreeTruth n) h = tt
  each-part (s.ReadTruth a b) h = ((a, it-is-field (slice_get ts a) (part-ReadTruth-a p ts a b h)), (b, it-is-object (slice_get ts b) (part-ReadTruth-b p ts a b h)))
  each-part (s.Negation a) h = (a, it-is-truth (slice_get ts a) (part-Negation-a p ts a h))
  each-part (s.And a b) h = ((a, it-is-truth (slice_get ts a) (part-And-a p ts a b h)), (b, it-is-truth (slice_get ts b) (part-And-b p ts a b h)))
  each-part (s.Or a b) h = ((a, it-is-truth (slice_get ts a) (part-Or-a p ts a b h)), (b, it-is-truth (slice_get ts b) (part-Or-b p ts a b h)))
  each-part (s.Implies a b) h = ((a, it-is-truth (slice_get ts a) (part-Implies-a p ts a b h)), (b, it-is-truth (slice_get ts b) (part-Implies-b p ts a b h)))
  each-part (s.Iff a b) h = ((a, it-is-truth (slice_get ts a) (part-Iff-a p ts a b h)), (b, it-is-truth (slice_get ts b) (part-Iff-b p ts a b h)))
  each-part (s.All a) h = (a, it-is-truth (slice_get ts a) (part-All-a p ts a h))
  each-part (s.Ex a) h = (a, it-is-truth (slice_get ts a) (part-Ex-a p ts a h))
  each-part (s.EqObject a b) h = ((a, it-is-object (slice_get ts a) (part-EqObject-a p ts a b h)), (b, it-is-object (slice_get ts b) (part-EqObject-b p ts a b h)))
  each-part (s.EqNumber a b) h = ((a, it-is-number (slice_get ts a) (part-EqNumber-a p ts a b h)), (b, it-is-number (slice_get ts b) (part-EqNumber-b p ts a b h)))
  each-part (s.EqSet a b) h = ((a, it-is-set (slice_get ts a) (part-EqSet-a p ts a b h)), (b, it-is-set (slice_get ts b) (part-EqSet-b p ts a b h)))
  each-part (s.Less a b) h = ((a, it-is-number (slice_get ts a) (part-Less-a p ts a b h)), (b, it-is-number (slice_get ts b) (part-Less-b p ts a b h)))
  each-part (s.LessEqual a b) h = ((a, it-is-number (slice_get ts a) (part-LessEqual-a p ts a b h)), (b, it-is-number (slice_get ts b) (part-LessEqual-b p ts a b h)))
  each-part (s.Divides z a) h = (a, it-is-number (slice_get ts a) (part-Divides-a p ts z a h))
  each-part (s.Member a b) h = ((a, it-is-object (slice_get ts a) (part-Member-a p ts a b h)), (b, it-is-set (slice_get ts b) (part-Member-b p ts a b h)))
  each-part (s.Subset a b) h = ((a, it-is-set (slice_get ts a) (part-Subset-a p ts a b h)), (b, it-is-set (slice_get ts b) (part-Subset-b p ts a b h)))
  each-part (s.Reach l a b) h = (each-field (the_list (slice_get p.lists l)) (part-Reach-fields p ts l a b h), (a, it-is-object (slice_get ts a) (part-Reach-a p ts l a b h)), (b, it-is-object (slice_get ts b) (part-Reach-b p ts l a b h)))
  each-part (s.Tree l) h = each-field (the_list (slice_get p.lists l)) (part-Tree-fields p ts l h)
  each-part (s.Mark m a) h = (a, it-is-truth (slice_get ts a) (part-Mark-a p ts m a h))
