-- Written by tools/table.py.
-- The place of a tree, from the places of its parts. So no two places hold the same tree.
use Rattle.std.proofs.Common.{◌≡◌, refl, sym, ap, ◌∙◌, ℕ, true, List, [], ◌∷◌, slice_get, Some, None, is_some}
use Rattle.std.specs.Prelude.{Option}
use Rattle.std.proofs.lemmas.Bool.{true≢false}
use Rattle.jh_boxed.specs.jh_name.declared.naming.Name.{Name}
use Rattle.jh_form.specs.declared.mark.Mark.{Mark}
use Rattle.jh_form.specs.Tree.{TermTree, IntTree, SetTree, FieldTree, ValueTree, FormulaTree, FieldTrees, of_object, of_number, of_truth, of_set, of_field, none, more}
use Rattle.jh_form.specs.Tree as t
use Rattle.jh_form.proofs.ClosedLemmas.{both-left, both-right}
use Rattle.jh_arena.specs.table.Entries.{Pools, the_name, the_mark, the_list, is_object, is_number, is_set, is_field, is_truth, the_object, the_number, the_set, the_field, the_truth, the_value, are_fields, fields_at}
use Rattle.jh_arena.specs.declared.table.shapes.Shape.{Shape}
use Rattle.jh_arena.specs.declared.table.shapes.Shape.TheVariants as s
use Rattle.jh_arena.specs.table.Nodes.{fits, shape_tree}
use Rattle.jh_arena.proofs.table.Growing.{object-some, number-some, set-some, field-some, truth-some}
use Rattle.jh_arena.proofs.table.PartSteps.{part-Add-a, part-Add-b, part-All-a, part-And-a, part-And-b, part-Card-a, part-Compl-a, part-Compr-a, part-Diff-a, part-Diff-b, part-Divides-a, part-EqNumber-a, part-EqNumber-b, part-EqObject-a, part-EqObject-b, part-EqSet-a, part-EqSet-b, part-Ex-a, part-FreeField-n, part-FreeNumber-n, part-FreeObject-n, part-FreeSet-n, part-FreeTruth-n, part-Iff-a, part-Iff-b, part-Implies-a, part-Implies-b, part-Inter-a, part-Inter-b, part-Less-a, part-Less-b, part-LessEqual-a, part-LessEqual-b, part-Mark-a, part-Mark-m, part-Member-a, part-Member-b, part-Neg-a, part-Negation-a, part-Or-a, part-Or-b, part-Reach-a, part-Reach-b, part-Reach-fields, part-Reach-l, part-ReadNumber-a, part-ReadNumber-b, part-ReadObject-a, part-ReadObject-b, part-ReadSet-a, part-ReadSet-b, part-ReadTruth-a, part-ReadTruth-b, part-Scale-a, part-Single-a, part-Sub-a, part-Sub-b, part-Subset-a, part-Subset-b, part-Tree-fields, part-Tree-l, part-Union-a, part-Union-b, part-Update-a, part-Update-b, part-Update-c}

-- where names, labels, lists and shapes stand
pub record Finder : Type 0 where
  pub name : Name → ℕ
  pub mark : Mark → ℕ
  pub list : List ℕ → ℕ
  pub shape : Shape → ℕ

module _ (f : Finder) where
  unfoldable mutual
    place_term : TermTree → ℕ
    place_term (t.bound k) = f.shape (s.Bound k)
    place_term (t.free_object x) = f.shape (s.FreeObject (f.name x))
    place_term t.null = f.shape s.Null
    place_term (t.read_object a b) = f.shape (s.ReadObject (place_field a) (place_term b))

    place_int : IntTree → ℕ
    place_int (t.const z) = f.shape (s.Const z)
    place_int (t.free_number x) = f.shape (s.FreeNumber (f.name x))
    place_int (t.read_number a b) = f.shape (s.ReadNumber (place_field a) (place_term b))
    place_int (t.add a b) = f.shape (s.Add (place_int a) (place_int b))
    place_int (t.sub a b) = f.shape (s.Sub (place_int a) (place_int b))
    place_int (t.neg a) = f.shape (s.Neg (place_int a))
    place_int (t.scale z a) = f.shape (s.Scale z (place_int a))
    place_int (t.card a) = f.shape (s.Card (place_set a))

    place_set : SetTree → ℕ
    place_set (t.free_set x) = f.shape (s.FreeSet (f.name x))
    place_set (t.read_set a b) = f.shape (s.ReadSet (place_field a) (place_term b))
    place_set t.empty = f.shape s.Empty
    place_set t.univ = f.shape s.Univ
    place_set (t.single a) = f.shape (s.Single (place_term a))
    place_set (t.union a b) = f.shape (s.Union (place_set a) (place_set b))
    place_set (t.inter a b) = f.shape (s.Inter (place_set a) (place_set b))
    place_set (t.diff a b) = f.shape (s.Diff (place_set a) (place_set b))
    place_set (t.compl a) = f.shape (s.Compl (place_set a))
    place_set (t.compr a) = f.shape (s.Compr (place_formula a))

    place_field : FieldTree → ℕ
    place_field (t.free_field x) = f.shape (s.FreeField (f.name x))
    place_field (t.update a b c) = f.shape (s.Update (place_field a) (place_term b) (place_value c))

    place_value : ValueTree → ℕ
    place_value (t.of_object a) = place_term a
    place_value (t.of_number a) = place_int a
    place_value (t.of_truth a) = place_formula a
    place_value (t.of_set a) = place_set a
    place_value (t.of_field a) = place_field a

    place_formula : FormulaTree → ℕ
    place_formula t.true_formula = f.shape s.True
    place_formula t.false_formula = f.shape s.False
    place_formula (t.free_truth x) = f.shape (s.FreeTruth (f.name x))
    place_formula (t.read_truth a b) = f.shape (s.ReadTruth (place_field a) (place_term b))
    place_formula (t.negation a) = f.shape (s.Negation (place_formula a))
    place_formula (t.and a b) = f.shape (s.And (place_formula a) (place_formula b))
    place_formula (t.or a b) = f.shape (s.Or (place_formula a) (place_formula b))
    place_formula (t.implies a b) = f.shape (s.Implies (place_formula a) (place_formula b))
    place_formula (t.iff a b) = f.shape (s.Iff (place_formula a) (place_formula b))
    place_formula (t.all a) = f.shape (s.All (place_formula a))
    place_formula (t.ex a) = f.shape (s.Ex (place_formula a))
    place_formula (t.eq_object a b) = f.shape (s.EqObject (place_term a) (place_term b))
    place_formula (t.eq_number a b) = f.shape (s.EqNumber (place_int a) (place_int b))
    place_formula (t.eq_set a b) = f.shape (s.EqSet (place_set a) (place_set b))
    place_formula (t.less a b) = f.shape (s.Less (place_int a) (place_int b))
    place_formula (t.less_equal a b) = f.shape (s.LessEqual (place_int a) (place_int b))
    place_formula (t.divides z a) = f.shape (s.Divides z (place_int a))
    place_formula (t.member a b) = f.shape (s.Member (place_term a) (place_set b))
    place_formula (t.subset a b) = f.shape (s.Subset (place_set a) (place_set b))
    place_formula (t.reach fs a b) = f.shape (s.Reach (f.list (place_fields fs)) (place_term a) (place_term b))
    place_formula (t.tree fs) = f.shape (s.Tree (f.list (place_fields fs)))
    place_formula (t.mark k a) = f.shape (s.Mark (f.mark k) (place_formula a))

    place_fields : FieldTrees → List ℕ
    place_fields t.none = []
    place_fields (t.more a fs) = place_field a ∷ place_fields fs

  pub place : ValueTree → ℕ
  place v = place_value v

  place-object : (o : Option ValueTree) → is_object o ≡ true → place_term (the_object o) ≡ place_value (the_value o)
  unfolding is_object the_object the_value place_term place_int place_set place_field place_value place_formula place_fields
  place-object None h = absurd (true≢false (sym h))
  place-object (Some (of_object v)) h = refl
  place-object (Some (of_number v)) h = absurd (true≢false (sym h))
  place-object (Some (of_set v)) h = absurd (true≢false (sym h))
  place-object (Some (of_field v)) h = absurd (true≢false (sym h))
  place-object (Some (of_truth v)) h = absurd (true≢false (sym h))

  place-number : (o : Option ValueTree) → is_number o ≡ true → place_int (the_number o) ≡ place_value (the_value o)
  unfolding is_number the_number the_value place_term place_int place_set place_field place_value place_formula place_fields
  place-number None h = absurd (true≢false (sym h))
  place-number (Some (of_object v)) h = absurd (true≢false (sym h))
  place-number (Some (of_number v)) h = refl
  place-number (Some (of_set v)) h = absurd (true≢false (sym h))
  place-number (Some (of_field v)) h = absurd (true≢false (sym h))
  place-number (Some (of_truth v)) h = absurd (true≢false (sym h))

  place-set : (o : Option ValueTree) → is_set o ≡ true → place_set (the_set o) ≡ place_value (the_value o)
  unfolding is_set the_set the_value place_term place_int place_set place_field place_value place_formula place_fields
  place-set None h = absurd (true≢false (sym h))
  place-set (Some (of_object v)) h = absurd (true≢false (sym h))
  place-set (Some (of_number v)) h = absurd (true≢false (sym h))
  place-set (Some (of_set v)) h = refl
  place-set (Some (of_field v)) h = absurd (true≢false (sym h))
  place-set (Some (of_truth v)) h = absurd (true≢false (sym h))

  place-field : (o : Option ValueTree) → is_field o ≡ true → place_field (the_field o) ≡ place_value (the_value o)
  unfolding is_field the_field the_value place_term place_int place_set place_field place_value place_formula place_fields
  place-field None h = absurd (true≢false (sym h))
  place-field (Some (of_object v)) h = absurd (true≢false (sym h))
  place-field (Some (of_number v)) h = absurd (true≢false (sym h))
  place-field (Some (of_set v)) h = absurd (true≢false (sym h))
  place-field (Some (of_field v)) h = refl
  place-field (Some (of_truth v)) h = absurd (true≢false (sym h))

  place-truth : (o : Option ValueTree) → is_truth o ≡ true → place_formula (the_truth o) ≡ place_value (the_value o)
  unfolding is_truth the_truth the_value place_term place_int place_set place_field place_value place_formula place_fields
  place-truth None h = absurd (true≢false (sym h))
  place-truth (Some (of_object v)) h = absurd (true≢false (sym h))
  place-truth (Some (of_number v)) h = absurd (true≢false (sym h))
  place-truth (Some (of_set v)) h = absurd (true≢false (sym h))
  place-truth (Some (of_field v)) h = absurd (true≢false (sym h))
  place-truth (Some (of_truth v)) h = refl

  -- the finder knows the pools, and the places of all trees of the list
  pub record Knows (p : Pools) (ts : List ValueTree) : Type 0 where
    pub names : (n : ℕ) (x : Name) → slice_get p.names n ≡ Some x → f.name x ≡ n
    pub marks : (n : ℕ) (x : Mark) → slice_get p.marks n ≡ Some x → f.mark x ≡ n
    pub lists : (n : ℕ) (x : List ℕ) → slice_get p.lists n ≡ Some x → f.list x ≡ n
    pub nodes : (n : ℕ) (v : ValueTree) → slice_get ts n ≡ Some v → place v ≡ n

  module _ (p : Pools) (ts : List ValueTree) (knows : Knows p ts) where
    find-name : (n : ℕ) (o : Option Name) → slice_get p.names n ≡ o → is_some o ≡ true → f.name (the_name o) ≡ n
    unfolding the_name
    find-name n None e h = absurd (true≢false (sym h))
    find-name n (Some x) e h = knows.names n x e

    find-mark : (n : ℕ) (o : Option Mark) → slice_get p.marks n ≡ o → is_some o ≡ true → f.mark (the_mark o) ≡ n
    unfolding the_mark
    find-mark n None e h = absurd (true≢false (sym h))
    find-mark n (Some x) e h = knows.marks n x e

    find-list : (n : ℕ) (o : Option (List ℕ)) → slice_get p.lists n ≡ o → is_some o ≡ true → f.list (the_list o) ≡ n
    unfolding the_list
    find-list n None e h = absurd (true≢false (sym h))
    find-list n (Some x) e h = knows.lists n x e

    find-value : (n : ℕ) (o : Option ValueTree) → slice_get ts n ≡ o → is_some o ≡ true → place_value (the_value o) ≡ n
    unfolding the_value place
    find-value n None e h = absurd (true≢false (sym h))
    find-value n (Some x) e h = knows.nodes n x e

    find-object : (n : ℕ) → is_object (slice_get ts n) ≡ true → place_term (the_object (slice_get ts n)) ≡ n
    find-object n h = place-object (slice_get ts n) h ∙ find-value n (slice_get ts n) refl (object-some (slice_get ts n) h)

    find-number : (n : ℕ) → is_number (slice_get ts n) ≡ true → place_int (the_number (slice_get ts n)) ≡ n
    find-number n h = place-number (slice_get ts n) h ∙ find-value n (slice_get ts n) refl (number-some (slice_get ts n) h)

    find-set : (n : ℕ) → is_set (slice_get ts n) ≡ true → place_set (the_set (slice_get ts n)) ≡ n
    find-set n h = place-set (slice_get ts n) h ∙ find-value n (slice_get ts n) refl (set-some (slice_get ts n) h)

    find-field : (n : ℕ) → is_field (slice_get ts n) ≡ true → place_field (the_field (slice_get ts n)) ≡ n
    find-field n h = place-field (slice_get ts n) h ∙ find-value n (slice_get ts n) refl (field-some (slice_get ts n) h)

    find-truth : (n : ℕ) → is_truth (slice_get ts n) ≡ true → place_formula (the_truth (slice_get ts n)) ≡ n
    find-truth n h = place-truth (slice_get ts n) h ∙ find-value n (slice_get ts n) refl (truth-some (slice_get ts n) h)

    find-fields : (ns : List ℕ) → are_fields ts ns ≡ true → place_fields (fields_at ts ns) ≡ ns
    unfolding are_fields fields_at place_term place_int place_set place_field place_value place_formula place_fields
    find-fields [] h = refl
    find-fields (n ∷ ns) h = λ i. find-field n (both-left (is_field (slice_get ts n)) (are_fields ts ns) h) i ∷ find-fields ns (both-right (is_field (slice_get ts n)) (are_fields ts ns) h) i

    -- the place of a shape's tree is where the shape stands
    pub place-shape : (x : Shape) → fits p ts x ≡ true → place (shape_tree p ts x) ≡ f.shape x
    unfolding shape_tree place place_term place_int place_set place_field place_value place_formula place_fields
    place-shape (s.Bound k) h = refl
    place-shape (s.FreeObject n) h = λ i. f.shape (s.FreeObject (find-name n (slice_get p.names n) refl (part-FreeObject-n p ts n h) i))
    place-shape s.Null h = refl
    place-shape (s.ReadObject a b) h = λ i. f.shape (s.ReadObject (find-field a (part-ReadObject-a p ts a b h) i) (find-object b (part-ReadObject-b p ts a b h) i))
    place-shape (s.Const z) h = refl
    place-shape (s.FreeNumber n) h = λ i. f.shape (s.FreeNumber (find-name n (slice_get p.names n) refl (part-FreeNumber-n p ts n h) i))
    place-shape (s.ReadNumber a b) h = λ i. f.shape (s.ReadNumber (find-field a (part-ReadNumber-a p ts a b h) i) (find-object b (part-ReadNumber-b p ts a b h) i))
    place-shape (s.Add a b) h = λ i. f.shape (s.Add (find-number a (part-Add-a p ts a b h) i) (find-number b (part-Add-b p ts a b h) i))
    place-shape (s.Sub a b) h = λ i. f.shape (s.Sub (find-number a (part-Sub-a p ts a b h) i) (find-number b (part-Sub-b p ts a b h) i))
    place-shape (s.Neg a) h = λ i. f.shape (s.Neg (find-number a (part-Neg-a p ts a h) i))
    place-shape (s.Scale z a) h = λ i. f.shape (s.Scale z (find-number a (part-Scale-a p ts z a h) i))
    place-shape (s.Card a) h = λ i. f.shape (s.Card (find-set a (part-Card-a p ts a h) i))
    place-shape (s.FreeSet n) h = λ i. f.shape (s.FreeSet (find-name n (slice_get p.names n) refl (part-FreeSet-n p ts n h) i))
    place-shape (s.ReadSet a b) h = λ i. f.shape (s.ReadSet (find-field a (part-ReadSet-a p ts a b h) i) (find-object b (part-ReadSet-b p ts a b h) i))
    place-shape s.Empty h = refl
    place-shape s.Univ h = refl
    place-shape (s.Single a) h = λ i. f.shape (s.Single (find-object a (part-Single-a p ts a h) i))
    place-shape (s.Union a b) h = λ i. f.shape (s.Union (find-set a (part-Union-a p ts a b h) i) (find-set b (part-Union-b p ts a b h) i))
    place-shape (s.Inter a b) h = λ i. f.shape (s.Inter (find-set a (part-Inter-a p ts a b h) i) (find-set b (part-Inter-b p ts a b h) i))
    place-shape (s.Diff a b) h = λ i. f.shape (s.Diff (find-set a (part-Diff-a p ts a b h) i) (find-set b (part-Diff-b p ts a b h) i))
    place-shape (s.Compl a) h = λ i. f.shape (s.Compl (find-set a (part-Compl-a p ts a h) i))
    place-shape (s.Compr a) h = λ i. f.shape (s.Compr (find-truth a (part-Compr-a p ts a h) i))
    place-shape (s.FreeField n) h = λ i. f.shape (s.FreeField (find-name n (slice_get p.names n) refl (part-FreeField-n p ts n h) i))
    place-shape (s.Update a b c) h = λ i. f.shape (s.Update (find-field a (part-Update-a p ts a b c h) i) (find-object b (part-Update-b p ts a b c h) i) (find-value c (slice_get ts c) refl (part-Update-c p ts a b c h) i))
    place-shape s.True h = refl
    place-shape s.False h = refl
    place-shape (s.FreeTruth n) h = λ i. f.shape (s.FreeTruth (find-name n (slice_get p.names n) refl (part-FreeTruth-n p ts n h) i))
    place-shape (s.ReadTruth a b) h = λ i. f.shape (s.ReadTruth (find-field a (part-ReadTruth-a p ts a b h) i) (find-object b (part-ReadTruth-b p ts a b h) i))
    place-shape (s.Negation a) h = λ i. f.shape (s.Negation (find-truth a (part-Negation-a p ts a h) i))
    place-shape (s.And a b) h = λ i. f.shape (s.And (find-truth a (part-And-a p ts a b h) i) (find-truth b (part-And-b p ts a b h) i))
    place-shape (s.Or a b) h = λ i. f.shape (s.Or (find-truth a (part-Or-a p ts a b h) i) (find-truth b (part-Or-b p ts a b h) i))
    place-shape (s.Implies a b) h = λ i. f.shape (s.Implies (find-truth a (part-Implies-a p ts a b h) i) (find-truth b (part-Implies-b p ts a b h) i))
    place-shape (s.Iff a b) h = λ i. f.shape (s.Iff (find-truth a (part-Iff-a p ts a b h) i) (find-truth b (part-Iff-b p ts a b h) i))
    place-shape (s.All a) h = λ i. f.shape (s.All (find-truth a (part-All-a p ts a h) i))
    place-shape (s.Ex a) h = λ i. f.shape (s.Ex (find-truth a (part-Ex-a p ts a h) i))
    place-shape (s.EqObject a b) h = λ i. f.shape (s.EqObject (find-object a (part-EqObject-a p ts a b h) i) (find-object b (part-EqObject-b p ts a b h) i))
    place-shape (s.EqNumber a b) h = λ i. f.shape (s.EqNumber (find-number a (part-EqNumber-a p ts a b h) i) (find-number b (part-EqNumber-b p ts a b h) i))
    place-shape (s.EqSet a b) h = λ i. f.shape (s.EqSet (find-set a (part-EqSet-a p ts a b h) i) (find-set b (part-EqSet-b p ts a b h) i))
    place-shape (s.Less a b) h = λ i. f.shape (s.Less (find-number a (part-Less-a p ts a b h) i) (find-number b (part-Less-b p ts a b h) i))
    place-shape (s.LessEqual a b) h = λ i. f.shape (s.LessEqual (find-number a (part-LessEqual-a p ts a b h) i) (find-number b (part-LessEqual-b p ts a b h) i))
    place-shape (s.Divides z a) h = λ i. f.shape (s.Divides z (find-number a (part-Divides-a p ts z a h) i))
    place-shape (s.Member a b) h = λ i. f.shape (s.Member (find-object a (part-Member-a p ts a b h) i) (find-set b (part-Member-b p ts a b h) i))
    place-shape (s.Subset a b) h = λ i. f.shape (s.Subset (find-set a (part-Subset-a p ts a b h) i) (find-set b (part-Subset-b p ts a b h) i))
    place-shape (s.Reach l a b) h = λ i. f.shape (s.Reach ((ap f.list (find-fields (the_list (slice_get p.lists l)) (part-Reach-fields p ts l a b h)) ∙ find-list l (slice_get p.lists l) refl (part-Reach-l p ts l a b h)) i) (find-object a (part-Reach-a p ts l a b h) i) (find-object b (part-Reach-b p ts l a b h) i))
    place-shape (s.Tree l) h = λ i. f.shape (s.Tree ((ap f.list (find-fields (the_list (slice_get p.lists l)) (part-Tree-fields p ts l h)) ∙ find-list l (slice_get p.lists l) refl (part-Tree-l p ts l h)) i))
    place-shape (s.Mark m a) h = λ i. f.shape (s.Mark (find-mark m (slice_get p.marks m) refl (part-Mark-m p ts m a h) i) (find-truth a (part-Mark-a p ts m a h) i))
