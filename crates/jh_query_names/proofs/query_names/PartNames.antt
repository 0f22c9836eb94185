-- Where the names of each shape are.
use Rattle.std.proofs.Common.{◌≡◌, refl, sym, ◌∙◌, true, List, [], ◌∷◌, ◌++◌, append-nil, slice_get, Option, Some}
use Rattle.std.proofs.lemmas.Bool.{true≢false}
use Rattle.jh_form.specs.Tree.{ValueTree, of_object, of_number, of_truth, of_set}
use Rattle.jh_arena.specs.table.Entries.{Pools, is_object, is_number, is_set, is_truth, the_object, the_number, the_set, the_truth, the_value}
use Rattle.jh_arena.specs.table.Nodes.{fits, shape_tree}
use Rattle.jh_arena.specs.table.Parts.{own_parts}
use Rattle.jh_arena.specs.declared.table.shapes.Shape.{Shape}
use Rattle.jh_arena.specs.declared.table.shapes.Shape.TheVariants as s
use Rattle.jh_arena.proofs.table.PartSteps.{part-Add-a, part-Add-b, part-Sub-a, part-Sub-b, part-Neg-a, part-Scale-a, part-Card-a, part-Single-a, part-Union-a, part-Union-b, part-Inter-a, part-Inter-b, part-Diff-a, part-Diff-b, part-Compl-a, part-Negation-a, part-And-a, part-And-b, part-Or-a, part-Or-b, part-Implies-a, part-Implies-b, part-Iff-a, part-Iff-b, part-EqObject-a, part-EqObject-b, part-EqNumber-a, part-EqNumber-b, part-EqSet-a, part-EqSet-b, part-Less-a, part-Less-b, part-LessEqual-a, part-LessEqual-b, part-Divides-a, part-Member-a, part-Member-b, part-Subset-a, part-Subset-b}
use Rattle.jh_approx.specs.definition.Names.{set_names, number_names, names}
use Rattle.jh_query_names.specs.declared.query_names.kinds.Kind.TheVariants as k
use Rattle.jh_query_names.specs.query_names.Gathered.{value_names}
use Rattle.jh_query_names.specs.query_names.Kinds.{kind_of, names_at}

object-names : (o : Option ValueTree) → is_object o ≡ true → of_object (the_object o) ∷ [] ≡ value_names (the_value o)
unfolding is_object the_object the_value value_names
object-names (Some (of_object a)) h = refl
object-names _ h = absurd (true≢false (sym h))

number-names : (o : Option ValueTree) → is_number o ≡ true → number_names (the_number o) ≡ value_names (the_value o)
unfolding is_number the_number the_value value_names
number-names (Some (of_number a)) h = refl
number-names _ h = absurd (true≢false (sym h))

set-names : (o : Option ValueTree) → is_set o ≡ true → set_names (the_set o) ≡ value_names (the_value o)
unfolding is_set the_set the_value value_names
set-names (Some (of_set a)) h = refl
set-names _ h = absurd (true≢false (sym h))

truth-names : (o : Option ValueTree) → is_truth o ≡ true → names (the_truth o) ≡ value_names (the_value o)
unfolding is_truth the_truth the_value value_names
truth-names (Some (of_truth a)) h = refl
truth-names _ h = absurd (true≢false (sym h))

one-part : {xs us : List ValueTree} → xs ≡ us → xs ≡ us ++ []
one-part {xs} {us} e = e ∙ sym (append-nil us)

two-parts : {xs ys us vs : List ValueTree} → xs ≡ us → ys ≡ vs → xs ++ ys ≡ us ++ (vs ++ [])
two-parts {xs} {ys} {us} {vs} e f = λ i. e i ++ one-part f i

module _ (p : Pools) (ts : List ValueTree) where
  pub name-names : (x : Shape) → kind_of x ≡ k.Name → value_names (shape_tree p ts x) ≡ shape_tree p ts x ∷ []
  unfolding kind_of value_names shape_tree names set_names number_names
  name-names (s.Bound a) h = refl
  name-names (s.FreeObject a) h = refl
  name-names s.Null h = refl
  name-names (s.ReadObject a b) h = refl
  name-names (s.Const a) h = absurd (cc)
  name-names (s.FreeNumber a) h = refl
  name-names (s.ReadNumber a b) h = refl
  name-names (s.Add a b) h = absurd (cc)
  name-names (s.Sub a b) h = absurd (cc)
  name-names (s.Neg a) h = absurd (cc)
  name-names (s.Scale a b) h = absurd (cc)
  name-names (s.Card a) h = absurd (cc)
  name-names (s.FreeSet a) h = refl
  name-names (s.ReadSet a b) h = refl
  name-names s.Empty h = absurd (cc)
  name-names s.Univ h = absurd (cc)
  name-names (s.Single a) h = absurd (cc)
  name-names (s.Union a b) h = absurd (cc)
  name-names (s.Inter a b) h = absurd (cc)
  name-names (s.Diff a b) h = absurd (cc)
  name-names (s.Compl a) h = absurd (cc)
  name-names (s.Compr a) h = refl
  name-names (s.FreeField a) h = absurd (cc)
  name-names (s.Update a b c) h = absurd (cc)
  name-names s.True h = absurd (cc)
  name-names s.False h = absurd (cc)
  name-names (s.FreeTruth a) h = refl
  name-names (s.ReadTruth a b) h = refl
  name-names (s.Negation a) h = absurd (cc)
  name-names (s.And a b) h = absurd (cc)
  name-names (s.Or a b) h = absurd (cc)
  name-names (s.Implies a b) h = absurd (cc)
  name-names (s.Iff a b) h = absurd (cc)
  name-names (s.All a) h = absurd (cc)
  name-names (s.Ex a) h = absurd (cc)
  name-names (s.EqObject a b) h = absurd (cc)
  name-names (s.EqNumber a b) h = absurd (cc)
  name-names (s.EqSet a b) h = absurd (cc)
  name-names (s.Less a b) h = absurd (cc)
  name-names (s.LessEqual a b) h = absurd (cc)
  name-names (s.Divides a b) h = absurd (cc)
  name-names (s.Member a b) h = absurd (cc)
  name-names (s.Subset a b) h = absurd (cc)
  name-names (s.Reach a b c) h = absurd (cc)
  name-names (s.Tree a) h = absurd (cc)
  name-names (s.Mark a b) h = absurd (cc)

  pub nothing-names : (x : Shape) → kind_of x ≡ k.Nothing → value_names (shape_tree p ts x) ≡ []
  unfolding kind_of value_names shape_tree names set_names number_names
  nothing-names (s.Bound a) h = absurd (cc)
  nothing-names (s.FreeObject a) h = absurd (cc)
  nothing-names s.Null h = absurd (cc)
  nothing-names (s.ReadObject a b) h = absurd (cc)
  nothing-names (s.Const a) h = absurd (cc)
  nothing-names (s.FreeNumber a) h = absurd (cc)
  nothing-names (s.ReadNumber a b) h = absurd (cc)
  nothing-names (s.Add a b) h = absurd (cc)
  nothing-names (s.Sub a b) h = absurd (cc)
  nothing-names (s.Neg a) h = absurd (cc)
  nothing-names (s.Scale a b) h = absurd (cc)
  nothing-names (s.Card a) h = absurd (cc)
  nothing-names (s.FreeSet a) h = absurd (cc)
  nothing-names (s.ReadSet a b) h = absurd (cc)
  nothing-names s.Empty h = absurd (cc)
  nothing-names s.Univ h = absurd (cc)
  nothing-names (s.Single a) h = absurd (cc)
  nothing-names (s.Union a b) h = absurd (cc)
  nothing-names (s.Inter a b) h = absurd (cc)
  nothing-names (s.Diff a b) h = absurd (cc)
  nothing-names (s.Compl a) h = absurd (cc)
  nothing-names (s.Compr a) h = absurd (cc)
  nothing-names (s.FreeField a) h = refl
  nothing-names (s.Update a b c) h = refl
  nothing-names s.True h = absurd (cc)
  nothing-names s.False h = absurd (cc)
  nothing-names (s.FreeTruth a) h = absurd (cc)
  nothing-names (s.ReadTruth a b) h = absurd (cc)
  nothing-names (s.Negation a) h = absurd (cc)
  nothing-names (s.And a b) h = absurd (cc)
  nothing-names (s.Or a b) h = absurd (cc)
  nothing-names (s.Implies a b) h = absurd (cc)
  nothing-names (s.Iff a b) h = absurd (cc)
  nothing-names (s.All a) h = refl
  nothing-names (s.Ex a) h = refl
  nothing-names (s.EqObject a b) h = absurd (cc)
  nothing-names (s.EqNumber a b) h = absurd (cc)
  nothing-names (s.EqSet a b) h = absurd (cc)
  nothing-names (s.Less a b) h = absurd (cc)
  nothing-names (s.LessEqual a b) h = absurd (cc)
  nothing-names (s.Divides a b) h = absurd (cc)
  nothing-names (s.Member a b) h = absurd (cc)
  nothing-names (s.Subset a b) h = absurd (cc)
  nothing-names (s.Reach a b c) h = refl
  nothing-names (s.Tree a) h = refl
  nothing-names (s.Mark a b) h = refl

  pub parts-names : (x : Shape) → fits p ts x ≡ true → kind_of x ≡ k.Parts → value_names (shape_tree p ts x) ≡ names_at ts (own_parts x)
  unfolding kind_of value_names shape_tree names set_names number_names own_parts
  parts-names (s.Bound a) f h = absurd (cc)
  parts-names (s.FreeObject a) f h = absurd (cc)
  parts-names s.Null f h = absurd (cc)
  parts-names (s.ReadObject a b) f h = absurd (cc)
  parts-names (s.Const a) f h = refl
  parts-names (s.FreeNumber a) f h = absurd (cc)
  parts-names (s.ReadNumber a b) f h = absurd (cc)
  parts-names (s.Add a b) f h = two-parts (number-names (slice_get ts a) (part-Add-a p ts a b f)) (number-names (slice_get ts b) (part-Add-b p ts a b f))
  parts-names (s.Sub a b) f h = two-parts (number-names (slice_get ts a) (part-Sub-a p ts a b f)) (number-names (slice_get ts b) (part-Sub-b p ts a b f))
  parts-names (s.Neg a) f h = one-part (number-names (slice_get ts a) (part-Neg-a p ts a f))
  parts-names (s.Scale a b) f h = one-part (number-names (slice_get ts b) (part-Scale-a p ts a b f))
  parts-names (s.Card a) f h = one-part (set-names (slice_get ts a) (part-Card-a p ts a f))
  parts-names (s.FreeSet a) f h = absurd (cc)
  parts-names (s.ReadSet a b) f h = absurd (cc)
  parts-names s.Empty f h = refl
  parts-names s.Univ f h = refl
  parts-names (s.Single a) f h = one-part (object-names (slice_get ts a) (part-Single-a p ts a f))
  parts-names (s.Union a b) f h = two-parts (set-names (slice_get ts a) (part-Union-a p ts a b f)) (set-names (slice_get ts b) (part-Union-b p ts a b f))
  parts-names (s.Inter a b) f h = two-parts (set-names (slice_get ts a) (part-Inter-a p ts a b f)) (set-names (slice_get ts b) (part-Inter-b p ts a b f))
  parts-names (s.Diff a b) f h = two-parts (set-names (slice_get ts a) (part-Diff-a p ts a b f)) (set-names (slice_get ts b) (part-Diff-b p ts a b f))
  parts-names (s.Compl a) f h = one-part (set-names (slice_get ts a) (part-Compl-a p ts a f))
  parts-names (s.Compr a) f h = absurd (cc)
  parts-names (s.FreeField a) f h = absurd (cc)
  parts-names (s.Update a b c) f h = absurd (cc)
  parts-names s.True f h = refl
  parts-names s.False f h = refl
  parts-names (s.FreeTruth a) f h = absurd (cc)
  parts-names (s.ReadTruth a b) f h = absurd (cc)
  parts-names (s.Negation a) f h = one-part (truth-names (slice_get ts a) (part-Negation-a p ts a f))
  parts-names (s.And a b) f h = two-parts (truth-names (slice_get ts a) (part-And-a p ts a b f)) (truth-names (slice_get ts b) (part-And-b p ts a b f))
  parts-names (s.Or a b) f h = two-parts (truth-names (slice_get ts a) (part-Or-a p ts a b f)) (truth-names (slice_get ts b) (part-Or-b p ts a b f))
  parts-names (s.Implies a b) f h = two-parts (truth-names (slice_get ts a) (part-Implies-a p ts a b f)) (truth-names (slice_get ts b) (part-Implies-b p ts a b f))
  parts-names (s.Iff a b) f h = two-parts (truth-names (slice_get ts a) (part-Iff-a p ts a b f)) (truth-names (slice_get ts b) (part-Iff-b p ts a b f))
  parts-names (s.All a) f h = absurd (cc)
  parts-names (s.Ex a) f h = absurd (cc)
  parts-names (s.EqObject a b) f h = two-parts (object-names (slice_get ts a) (part-EqObject-a p ts a b f)) (object-names (slice_get ts b) (part-EqObject-b p ts a b f))
  parts-names (s.EqNumber a b) f h = two-parts (number-names (slice_get ts a) (part-EqNumber-a p ts a b f)) (number-names (slice_get ts b) (part-EqNumber-b p ts a b f))
  parts-names (s.EqSet a b) f h = two-parts (set-names (slice_get ts a) (part-EqSet-a p ts a b f)) (set-names (slice_get ts b) (part-EqSet-b p ts a b f))
  parts-names (s.Less a b) f h = two-parts (number-names (slice_get ts a) (part-Less-a p ts a b f)) (number-names (slice_get ts b) (part-Less-b p ts a b f))
  parts-names (s.LessEqual a b) f h = two-parts (number-names (slice_get ts a) (part-LessEqual-a p ts a b f)) (number-names (slice_get ts b) (part-LessEqual-b p ts a b f))
  parts-names (s.Divides a b) f h = one-part (number-names (slice_get ts b) (part-Divides-a p ts a b f))
  parts-names (s.Member a b) f h = two-parts (object-names (slice_get ts a) (part-Member-a p ts a b f)) (set-names (slice_get ts b) (part-Member-b p ts a b f))
  parts-names (s.Subset a b) f h = two-parts (set-names (slice_get ts a) (part-Subset-a p ts a b f)) (set-names (slice_get ts b) (part-Subset-b p ts a b f))
  parts-names (s.Reach a b c) f h = absurd (cc)
  parts-names (s.Tree a) f h = absurd (cc)
  parts-names (s.Mark a b) f h = absurd (cc)
