-- Written by tools/table.py.
-- A shape that fits keeps its tree, its parts and that it fits, where the table grows.
use Rattle.std.proofs.Common.{◌≡◌, refl, sym, ap, ◌∙◌, ℕ, true, ◌&&◌, List, [], ◌∷◌, ◌++◌, slice_get, Some, None, is_some}
use Rattle.std.specs.Prelude.{Option}
use Rattle.jh_form.specs.Tree.{TermTree, IntTree, SetTree, FieldTree, ValueTree, FormulaTree, FieldTrees, of_object, of_number, of_truth, of_set, of_field, none, more}
use Rattle.jh_form.specs.Tree as t
use Rattle.std.proofs.lemmas.Bool.{true≢false}
use Rattle.jh_form.proofs.ClosedLemmas.{both-left, both-right}
use Rattle.jh_arena.specs.table.Entries.{Pools, the_name, the_mark, the_list, is_object, is_number, is_set, is_field, is_truth, the_object, the_number, the_set, the_field, the_truth, the_value, are_fields, fields_at}
use Rattle.jh_arena.specs.declared.table.shapes.Shape.{Shape}
use Rattle.jh_arena.specs.declared.table.shapes.Shape.TheVariants as s
use Rattle.jh_arena.specs.table.Nodes.{fits, shape_tree}
use Rattle.jh_arena.specs.table.Growth.{Grows}
use Rattle.jh_arena.specs.table.Parts.{list_parts, own_parts, parts}
use Rattle.jh_arena.proofs.table.PartSteps.{part-Add-a, part-Add-b, part-All-a, part-And-a, part-And-b, part-Card-a, part-Compl-a, part-Compr-a, part-Diff-a, part-Diff-b, part-Divides-a, part-EqNumber-a, part-EqNumber-b, part-EqObject-a, part-EqObject-b, part-EqSet-a, part-EqSet-b, part-Ex-a, part-FreeField-n, part-FreeNumber-n, part-FreeObject-n, part-FreeSet-n, part-FreeTruth-n, part-Iff-a, part-Iff-b, part-Implies-a, part-Implies-b, part-Inter-a, part-Inter-b, part-Less-a, part-Less-b, part-LessEqual-a, part-LessEqual-b, part-Mark-a, part-Mark-m, part-Member-a, part-Member-b, part-Neg-a, part-Negation-a, part-Or-a, part-Or-b, part-Reach-a, part-Reach-b, part-Reach-fields, part-Reach-l, part-ReadNumber-a, part-ReadNumber-b, part-ReadObject-a, part-ReadObject-b, part-ReadSet-a, part-ReadSet-b, part-ReadTruth-a, part-ReadTruth-b, part-Scale-a, part-Single-a, part-Sub-a, part-Sub-b, part-Subset-a, part-Subset-b, part-Tree-fields, part-Tree-l, part-Union-a, part-Union-b, part-Update-a, part-Update-b, part-Update-c}

pub some-stays : {X : Type 0} (old new : List X) → Grows old new → (n : ℕ) → is_some (slice_get old n) ≡ true → slice_get new n ≡ slice_get old n
some-stays {X} old new g n h = by (slice_get old n) refl h
  where
    by : (o : Option X) → slice_get old n ≡ o → is_some o ≡ true → slice_get new n ≡ slice_get old n
    by (Some v) e k = g.keeps n v e ∙ sym e
    by None e k = absurd (true≢false (sym k))

pub object-some : (o : Option ValueTree) → is_object o ≡ true → is_some o ≡ true
unfolding is_object
object-some None h = absurd (true≢false (sym h))
object-some (Some v) h = refl

pub number-some : (o : Option ValueTree) → is_number o ≡ true → is_some o ≡ true
unfolding is_number
number-some None h = absurd (true≢false (sym h))
number-some (Some v) h = refl

pub set-some : (o : Option ValueTree) → is_set o ≡ true → is_some o ≡ true
unfolding is_set
set-some None h = absurd (true≢false (sym h))
set-some (Some v) h = refl

pub field-some : (o : Option ValueTree) → is_field o ≡ true → is_some o ≡ true
unfolding is_field
field-some None h = absurd (true≢false (sym h))
field-some (Some v) h = refl

pub truth-some : (o : Option ValueTree) → is_truth o ≡ true → is_some o ≡ true
unfolding is_truth
truth-some None h = absurd (true≢false (sym h))
truth-some (Some v) h = refl

module _ (p q : Pools) (ts us : List ValueTree) (names : Grows p.names q.names) (marks : Grows p.marks q.marks) (lists : Grows p.lists q.lists) (trees : Grows ts us) where
  name-stays : (n : ℕ) → is_some (slice_get p.names n) ≡ true → slice_get q.names n ≡ slice_get p.names n
  name-stays n h = some-stays p.names q.names names n h

  mark-stays : (n : ℕ) → is_some (slice_get p.marks n) ≡ true → slice_get q.marks n ≡ slice_get p.marks n
  mark-stays n h = some-stays p.marks q.marks marks n h

  list-stays : (n : ℕ) → is_some (slice_get p.lists n) ≡ true → slice_get q.lists n ≡ slice_get p.lists n
  list-stays n h = some-stays p.lists q.lists lists n h

  value-stays : (n : ℕ) → is_some (slice_get ts n) ≡ true → slice_get us n ≡ slice_get ts n
  value-stays n h = some-stays ts us trees n h

  object-stays : (n : ℕ) → is_object (slice_get ts n) ≡ true → slice_get us n ≡ slice_get ts n
  object-stays n h = value-stays n (object-some (slice_get ts n) h)

  number-stays : (n : ℕ) → is_number (slice_get ts n) ≡ true → slice_get us n ≡ slice_get ts n
  number-stays n h = value-stays n (number-some (slice_get ts n) h)

  set-stays : (n : ℕ) → is_set (slice_get ts n) ≡ true → slice_get us n ≡ slice_get ts n
  set-stays n h = value-stays n (set-some (slice_get ts n) h)

  field-stays : (n : ℕ) → is_field (slice_get ts n) ≡ true → slice_get us n ≡ slice_get ts n
  field-stays n h = value-stays n (field-some (slice_get ts n) h)

  truth-stays : (n : ℕ) → is_truth (slice_get ts n) ≡ true → slice_get us n ≡ slice_get ts n
  truth-stays n h = value-stays n (truth-some (slice_get ts n) h)

  pub fields-stay : (ns : List ℕ) → are_fields ts ns ≡ true → fields_at us ns ≡ fields_at ts ns
  unfolding are_fields fields_at
  fields-stay [] h = refl
  fields-stay (n ∷ ns) h = λ i. more (the_field (field-stays n (both-left (is_field (slice_get ts n)) (are_fields ts ns) h) i)) (fields-stay ns (both-right (is_field (slice_get ts n)) (are_fields ts ns) h) i)

  pub are_fields-stay : (ns : List ℕ) → are_fields ts ns ≡ true → are_fields us ns ≡ are_fields ts ns
  unfolding are_fields
  are_fields-stay [] h = refl
  are_fields-stay (n ∷ ns) h = λ i. is_field (field-stays n (both-left (is_field (slice_get ts n)) (are_fields ts ns) h) i) && are_fields-stay ns (both-right (is_field (slice_get ts n)) (are_fields ts ns) h) i

  pub shape_tree-stays : (x : Shape) → fits p ts x ≡ true → shape_tree q us x ≡ shape_tree p ts x
  unfolding shape_tree
  shape_tree-stays (s.Bound k) h = refl
  shape_tree-stays (s.FreeObject n) h = λ i. of_object (t.free_object (the_name (name-stays n (part-FreeObject-n p ts n h) i)))
  shape_tree-stays s.Null h = refl
  shape_tree-stays (s.ReadObject a b) h = λ i. of_object (t.read_object (the_field (field-stays a (part-ReadObject-a p ts a b h) i)) (the_object (object-stays b (part-ReadObject-b p ts a b h) i)))
  shape_tree-stays (s.Const z) h = refl
  shape_tree-stays (s.FreeNumber n) h = λ i. of_number (t.free_number (the_name (name-stays n (part-FreeNumber-n p ts n h) i)))
  shape_tree-stays (s.ReadNumber a b) h = λ i. of_number (t.read_number (the_field (field-stays a (part-ReadNumber-a p ts a b h) i)) (the_object (object-stays b (part-ReadNumber-b p ts a b h) i)))
  shape_tree-stays (s.Add a b) h = λ i. of_number (t.add (the_number (number-stays a (part-Add-a p ts a b h) i)) (the_number (number-stays b (part-Add-b p ts a b h) i)))
  shape_tree-stays (s.Sub a b) h = λ i. of_number (t.sub (the_number (number-stays a (part-Sub-a p ts a b h) i)) (the_number (number-stays b (part-Sub-b p ts a b h) i)))
  shape_tree-stays (s.Neg a) h = λ i. of_number (t.neg (the_number (number-stays a (part-Neg-a p ts a h) i)))
  shape_tree-stays (s.Scale z a) h = λ i. of_number (t.scale z (the_number (number-stays a (part-Scale-a p ts z a h) i)))
  shape_tree-stays (s.Card a) h = λ i. of_number (t.card (the_set (set-stays a (part-Card-a p ts a h) i)))
  shape_tree-stays (s.FreeSet n) h = λ i. of_set (t.free_set (the_name (name-stays n (part-FreeSet-n p ts n h) i)))
  shape_tree-stays (s.ReadSet a b) h = λ i. of_set (t.read_set (the_field (field-stays a (part-ReadSet-a p ts a b h) i)) (the_object (object-stays b (part-ReadSet-b p ts a b h) i)))
  shape_tree-stays s.Empty h = refl
  shape_tree-stays s.Univ h = refl
  shape_tree-stays (s.Single a) h = λ i. of_set (t.single (the_object (object-stays a (part-Single-a p ts a h) i)))
  shape_tree-stays (s.Union a b) h = λ i. of_set (t.union (the_set (set-stays a (part-Union-a p ts a b h) i)) (the_set (set-stays b (part-Union-b p ts a b h) i)))
  shape_tree-stays (s.Inter a b) h = λ i. of_set (t.inter (the_set (set-stays a (part-Inter-a p ts a b h) i)) (the_set (set-stays b (part-Inter-b p ts a b h) i)))
  shape_tree-stays (s.Diff a b) h = λ i. of_set (t.diff (the_set (set-stays a (part-Diff-a p ts a b h) i)) (the_set (set-stays b (part-Diff-b p ts a b h) i)))
  shape_tree-stays (s.Compl a) h = λ i. of_set (t.compl (the_set (set-stays a (part-Compl-a p ts a h) i)))
  shape_tree-stays (s.Compr a) h = λ i. of_set (t.compr (the_truth (truth-stays a (part-Compr-a p ts a h) i)))
  shape_tree-stays (s.FreeField n) h = λ i. of_field (t.free_field (the_name (name-stays n (part-FreeField-n p ts n h) i)))
  shape_tree-stays (s.Update a b c) h = λ i. of_field (t.update (the_field (field-stays a (part-Update-a p ts a b c h) i)) (the_object (object-stays b (part-Update-b p ts a b c h) i)) (the_value (value-stays c (part-Update-c p ts a b c h) i)))
  shape_tree-stays s.True h = refl
  shape_tree-stays s.False h = refl
  shape_tree-stays (s.FreeTruth n) h = λ i. of_truth (t.free_truth (the_name (name-stays n (part-FreeTruth-n p ts n h) i)))
  shape_tree-stays (s.ReadTruth a b) h = λ i. of_truth (t.read_truth (the_field (field-stays a (part-ReadTruth-a p ts a b h) i)) (the_object (object-stays b (part-ReadTruth-b p ts a b h) i)))
  shape_tree-stays (s.Negation a) h = λ i. of_truth (t.negation (the_truth (truth-stays a (part-Negation-a p ts a h) i)))
  shape_tree-stays (s.And a b) h = λ i. of_truth (t.and (the_truth (truth-stays a (part-And-a p ts a b h) i)) (the_truth (truth-stays b (part-And-b p ts a b h) i)))
  shape_tree-stays (s.Or a b) h = λ i. of_truth (t.or (the_truth (truth-stays a (part-Or-a p ts a b h) i)) (the_truth (truth-stays b (part-Or-b p ts a b h) i)))
  shape_tree-stays (s.Implies a b) h = λ i. of_truth (t.implies (the_truth (truth-stays a (part-Implies-a p ts a b h) i)) (the_truth (truth-stays b (part-Implies-b p ts a b h) i)))
  shape_tree-stays (s.Iff a b) h = λ i. of_truth (t.iff (the_truth (truth-stays a (part-Iff-a p ts a b h) i)) (the_truth (truth-stays b (part-Iff-b p ts a b h) i)))
  shape_tree-stays (s.All a) h = λ i. of_truth (t.all (the_truth (truth-stays a (part-All-a p ts a h) i)))
  shape_tree-stays (s.Ex a) h = λ i. of_truth (t.ex (the_truth (truth-stays a (part-Ex-a p ts a h) i)))
  shape_tree-stays (s.EqObject a b) h = λ i. of_truth (t.eq_object (the_object (object-stays a (part-EqObject-a p ts a b h) i)) (the_object (object-stays b (part-EqObject-b p ts a b h) i)))
  shape_tree-stays (s.EqNumber a b) h = λ i. of_truth (t.eq_number (the_number (number-stays a (part-EqNumber-a p ts a b h) i)) (the_number (number-stays b (part-EqNumber-b p ts a b h) i)))
  shape_tree-stays (s.EqSet a b) h = λ i. of_truth (t.eq_set (the_set (set-stays a (part-EqSet-a p ts a b h) i)) (the_set (set-stays b (part-EqSet-b p ts a b h) i)))
  shape_tree-stays (s.Less a b) h = λ i. of_truth (t.less (the_number (number-stays a (part-Less-a p ts a b h) i)) (the_number (number-stays b (part-Less-b p ts a b h) i)))
  shape_tree-stays (s.LessEqual a b) h = λ i. of_truth (t.less_equal (the_number (number-stays a (part-LessEqual-a p ts a b h) i)) (the_number (number-stays b (part-LessEqual-b p ts a b h) i)))
  shape_tree-stays (s.Divides z a) h = λ i. of_truth (t.divides z (the_number (number-stays a (part-Divides-a p ts z a h) i)))
  shape_tree-stays (s.Member a b) h = λ i. of_truth (t.member (the_object (object-stays a (part-Member-a p ts a b h) i)) (the_set (set-stays b (part-Member-b p ts a b h) i)))
  shape_tree-stays (s.Subset a b) h = λ i. of_truth (t.subset (the_set (set-stays a (part-Subset-a p ts a b h) i)) (the_set (set-stays b (part-Subset-b p ts a b h) i)))
  shape_tree-stays (s.Reach l a b) h = λ i. of_truth (t.reach ((ap (λ o. fields_at us (the_list o)) (list-stays l (part-Reach-l p ts l a b h)) ∙ fields-stay (the_list (slice_get p.lists l)) (part-Reach-fields p ts l a b h)) i) (the_object (object-stays a (part-Reach-a p ts l a b h) i)) (the_object (object-stays b (part-Reach-b p ts l a b h) i)))
  shape_tree-stays (s.Tree l) h = λ i. of_truth (t.tree ((ap (λ o. fields_at us (the_list o)) (list-stays l (part-Tree-l p ts l h)) ∙ fields-stay (the_list (slice_get p.lists l)) (part-Tree-fields p ts l h)) i))
  shape_tree-stays (s.Mark m a) h = λ i. of_truth (t.mark (the_mark (mark-stays m (part-Mark-m p ts m a h) i)) (the_truth (truth-stays a (part-Mark-a p ts m a h) i)))

  pub fits-stays : (x : Shape) → fits p ts x ≡ true → fits q us x ≡ true
  unfolding fits
  fits-stays (s.Bound k) h = refl
  fits-stays (s.FreeObject n) h = (λ i. is_some (name-stays n (part-FreeObject-n p ts n h) i)) ∙ h
  fits-stays s.Null h = refl
  fits-stays (s.ReadObject a b) h = (λ i. is_field (field-stays a (part-ReadObject-a p ts a b h) i) && is_object (object-stays b (part-ReadObject-b p ts a b h) i)) ∙ h
  fits-stays (s.Const z) h = refl
  fits-stays (s.FreeNumber n) h = (λ i. is_some (name-stays n (part-FreeNumber-n p ts n h) i)) ∙ h
  fits-stays (s.ReadNumber a b) h = (λ i. is_field (field-stays a (part-ReadNumber-a p ts a b h) i) && is_object (object-stays b (part-ReadNumber-b p ts a b h) i)) ∙ h
  fits-stays (s.Add a b) h = (λ i. is_number (number-stays a (part-Add-a p ts a b h) i) && is_number (number-stays b (part-Add-b p ts a b h) i)) ∙ h
  fits-stays (s.Sub a b) h = (λ i. is_number (number-stays a (part-Sub-a p ts a b h) i) && is_number (number-stays b (part-Sub-b p ts a b h) i)) ∙ h
  fits-stays (s.Neg a) h = (λ i. is_number (number-stays a (part-Neg-a p ts a h) i)) ∙ h
  fits-stays (s.Scale z a) h = (λ i. is_number (number-stays a (part-Scale-a p ts z a h) i)) ∙ h
  fits-stays (s.Card a) h = (λ i. is_set (set-stays a (part-Card-a p ts a h) i)) ∙ h
  fits-stays (s.FreeSet n) h = (λ i. is_some (name-stays n (part-FreeSet-n p ts n h) i)) ∙ h
  fits-stays (s.ReadSet a b) h = (λ i. is_field (field-stays a (part-ReadSet-a p ts a b h) i) && is_object (object-stays b (part-ReadSet-b p ts a b h) i)) ∙ h
  fits-stays s.Empty h = refl
  fits-stays s.Univ h = refl
  fits-stays (s.Single a) h = (λ i. is_object (object-stays a (part-Single-a p ts a h) i)) ∙ h
  fits-stays (s.Union a b) h = (λ i. is_set (set-stays a (part-Union-a p ts a b h) i) && is_set (set-stays b (part-Union-b p ts a b h) i)) ∙ h
  fits-stays (s.Inter a b) h = (λ i. is_set (set-stays a (part-Inter-a p ts a b h) i) && is_set (set-stays b (part-Inter-b p ts a b h) i)) ∙ h
  fits-stays (s.Diff a b) h = (λ i. is_set (set-stays a (part-Diff-a p ts a b h) i) && is_set (set-stays b (part-Diff-b p ts a b h) i)) ∙ h
  fits-stays (s.Compl a) h = (λ i. is_set (set-stays a (part-Compl-a p ts a h) i)) ∙ h
  fits-stays (s.Compr a) h = (λ i. is_truth (truth-stays a (part-Compr-a p ts a h) i)) ∙ h
  fits-stays (s.FreeField n) h = (λ i. is_some (name-stays n (part-FreeField-n p ts n h) i)) ∙ h
  fits-stays (s.Update a b c) h = (λ i. is_field (field-stays a (part-Update-a p ts a b c h) i) && is_object (object-stays b (part-Update-b p ts a b c h) i) && is_some (value-stays c (part-Update-c p ts a b c h) i)) ∙ h
  fits-stays s.True h = refl
  fits-stays s.False h = refl
  fits-stays (s.FreeTruth n) h = (λ i. is_some (name-stays n (part-FreeTruth-n p ts n h) i)) ∙ h
  fits-stays (s.ReadTruth a b) h = (λ i. is_field (field-stays a (part-ReadTruth-a p ts a b h) i) && is_object (object-stays b (part-ReadTruth-b p ts a b h) i)) ∙ h
  fits-stays (s.Negation a) h = (λ i. is_truth (truth-stays a (part-Negation-a p ts a h) i)) ∙ h
  fits-stays (s.And a b) h = (λ i. is_truth (truth-stays a (part-And-a p ts a b h) i) && is_truth (truth-stays b (part-And-b p ts a b h) i)) ∙ h
  fits-stays (s.Or a b) h = (λ i. is_truth (truth-stays a (part-Or-a p ts a b h) i) && is_truth (truth-stays b (part-Or-b p ts a b h) i)) ∙ h
  fits-stays (s.Implies a b) h = (λ i. is_truth (truth-stays a (part-Implies-a p ts a b h) i) && is_truth (truth-stays b (part-Implies-b p ts a b h) i)) ∙ h
  fits-stays (s.Iff a b) h = (λ i. is_truth (truth-stays a (part-Iff-a p ts a b h) i) && is_truth (truth-stays b (part-Iff-b p ts a b h) i)) ∙ h
  fits-stays (s.All a) h = (λ i. is_truth (truth-stays a (part-All-a p ts a h) i)) ∙ h
  fits-stays (s.Ex a) h = (λ i. is_truth (truth-stays a (part-Ex-a p ts a h) i)) ∙ h
  fits-stays (s.EqObject a b) h = (λ i. is_object (object-stays a (part-EqObject-a p ts a b h) i) && is_object (object-stays b (part-EqObject-b p ts a b h) i)) ∙ h
  fits-stays (s.EqNumber a b) h = (λ i. is_number (number-stays a (part-EqNumber-a p ts a b h) i) && is_number (number-stays b (part-EqNumber-b p ts a b h) i)) ∙ h
  fits-stays (s.EqSet a b) h = (λ i. is_set (set-stays a (part-EqSet-a p ts a b h) i) && is_set (set-stays b (part-EqSet-b p ts a b h) i)) ∙ h
  fits-stays (s.Less a b) h = (λ i. is_number (number-stays a (part-Less-a p ts a b h) i) && is_number (number-stays b (part-Less-b p ts a b h) i)) ∙ h
  fits-stays (s.LessEqual a b) h = (λ i. is_number (number-stays a (part-LessEqual-a p ts a b h) i) && is_number (number-stays b (part-LessEqual-b p ts a b h) i)) ∙ h
  fits-stays (s.Divides z a) h = (λ i. is_number (number-stays a (part-Divides-a p ts z a h) i)) ∙ h
  fits-stays (s.Member a b) h = (λ i. is_object (object-stays a (part-Member-a p ts a b h) i) && is_set (set-stays b (part-Member-b p ts a b h) i)) ∙ h
  fits-stays (s.Subset a b) h = (λ i. is_set (set-stays a (part-Subset-a p ts a b h) i) && is_set (set-stays b (part-Subset-b p ts a b h) i)) ∙ h
  fits-stays (s.Reach l a b) h = (λ i. is_some (list-stays l (part-Reach-l p ts l a b h) i) && (ap (λ o. are_fields us (the_list o)) (list-stays l (part-Reach-l p ts l a b h)) ∙ are_fields-stay (the_list (slice_get p.lists l)) (part-Reach-fields p ts l a b h)) i && is_object (object-stays a (part-Reach-a p ts l a b h) i) && is_object (object-stays b (part-Reach-b p ts l a b h) i)) ∙ h
  fits-stays (s.Tree l) h = (λ i. is_some (list-stays l (part-Tree-l p ts l h) i) && (ap (λ o. are_fields us (the_list o)) (list-stays l (part-Tree-l p ts l h)) ∙ are_fields-stay (the_list (slice_get p.lists l)) (part-Tree-fields p ts l h)) i) ∙ h
  fits-stays (s.Mark m a) h = (λ i. is_some (mark-stays m (part-Mark-m p ts m a h) i) && is_truth (truth-stays a (part-Mark-a p ts m a h) i)) ∙ h

  pub list_parts-stay : (x : Shape) → fits p ts x ≡ true → list_parts q.lists x ≡ list_parts p.lists x
  unfolding list_parts
  list_parts-stay (s.Bound k) h = refl
  list_parts-stay (s.FreeObject n) h = refl
  list_parts-stay s.Null h = refl
  list_parts-stay (s.ReadObject a b) h = refl
  list_parts-stay (s.Const z) h = refl
  list_parts-stay (s.FreeNumber n) h = refl
  list_parts-stay (s.ReadNumber a b) h = refl
  list_parts-stay (s.Add a b) h = refl
  list_parts-stay (s.Sub a b) h = refl
  list_parts-stay (s.Neg a) h = refl
  list_parts-stay (s.Scale z a) h = refl
  list_parts-stay (s.Card a) h = refl
  list_parts-stay (s.FreeSet n) h = refl
  list_parts-stay (s.ReadSet a b) h = refl
  list_parts-stay s.Empty h = refl
  list_parts-stay s.Univ h = refl
  list_parts-stay (s.Single a) h = refl
  list_parts-stay (s.Union a b) h = refl
  list_parts-stay (s.Inter a b) h = refl
  list_parts-stay (s.Diff a b) h = refl
  list_parts-stay (s.Compl a) h = refl
  list_parts-stay (s.Compr a) h = refl
  list_parts-stay (s.FreeField n) h = refl
  list_parts-stay (s.Update a b c) h = refl
  list_parts-stay s.True h = refl
  list_parts-stay s.False h = refl
  list_parts-stay (s.FreeTruth n) h = refl
  list_parts-stay (s.ReadTruth a b) h = refl
  list_parts-stay (s.Negation a) h = refl
  list_parts-stay (s.And a b) h = refl
  list_parts-stay (s.Or a b) h = refl
  list_parts-stay (s.Implies a b) h = refl
  list_parts-stay (s.Iff a b) h = refl
  list_parts-stay (s.All a) h = refl
  list_parts-stay (s.Ex a) h = refl
  list_parts-stay (s.EqObject a b) h = refl
  list_parts-stay (s.EqNumber a b) h = refl
  list_parts-stay (s.EqSet a b) h = refl
  list_parts-stay (s.Less a b) h = refl
  list_parts-stay (s.LessEqual a b) h = refl
  list_parts-stay (s.Divides z a) h = refl
  list_parts-stay (s.Member a b) h = refl
  list_parts-stay (s.Subset a b) h = refl
  list_parts-stay (s.Reach l a b) h = ap the_list (list-stays l (part-Reach-l p ts l a b h))
  list_parts-stay (s.Tree l) h = ap the_list (list-stays l (part-Tree-l p ts l h))
  list_parts-stay (s.Mark m a) h = refl

  pub parts-stay : (x : Shape) → fits p ts x ≡ true → parts q.lists x ≡ parts p.lists x
  parts-stay x h = ap (λ ns. ns ++ own_parts x) (list_parts-stay x h)
