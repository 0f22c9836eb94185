-- What the arms of the rules come to.
use Rattle.std.proofs.Common.{◌≡◌, refl, sym, ap, ◌∙◌, ℕ, true, false, ◌||◌, if◌then◌else◌, List, Option, Some, None, slice_get}
use Rattle.std.proofs.lemmas.Bool.{true≢false}
use Rattle.jh_form.specs.Tree.{ValueTree, FormulaTree, of_object, of_number, of_truth, of_set, of_field}
use Rattle.jh_form.specs.Tree as t
use Rattle.jh_name.specs.declared.place.Sort.{Sort}
use Rattle.jh_name.specs.declared.place.Sort.TheVariants as sort
use Rattle.jh_form.specs.Sorts.{tree_sort}
use Rattle.jh_normal_forms.specs.declared.parts.order.Order.TheVariants as order
use Rattle.jh_normal_forms.specs.parts.Standing.{value_parts}
use Rattle.std.specs.List.{list_any}
use Rattle.jh_arena.specs.table.Entries.{Pools, Listing, is_truth, the_truth, the_value}
use Rattle.jh_arena.specs.table.Nodes.{nodes, shape_tree}
use Rattle.jh_arena.specs.declared.table.shapes.Shape.{Shape}
use Rattle.jh_arena.specs.declared.table.shapes.Shape.TheVariants as s
use Rattle.jh_normal_forms.specs.declared.rebuilding.polarity.Polarity.{Polarity}
use Rattle.jh_normal_forms.specs.declared.rebuilding.polarity.Polarity.TheVariants as pol
use Rattle.jh_normal_forms.specs.rebuilding.Walking.{built_at, applied}
use Rattle.jh_fca.specs.cutting.Cut.{is_foreign, holds_foreign, two_ways, opening_iffs, iffs_opened, instead_of, cut_once, cutting, cut}
use Rattle.jh_fca.specs.cutting.Leaves.{cut_leaf}

-- what is asked of a formula is asked of it as a value
pub holds-at : (o : Option ValueTree) → is_truth o ≡ true → list_any is_foreign (value_parts (the_value o) order.InnerFirst) ≡ holds_foreign (the_truth o)
unfolding is_truth the_value the_truth value_parts holds_foreign
holds-at (Some (of_truth a)) h = refl
holds-at _ h = absurd (true≢false (sym h))

-- an equivalence by whether it is opened
pub two-ways-opened : (a b : FormulaTree) → (holds_foreign a || holds_foreign b) ≡ true → t.and (t.implies a b) (t.implies b a) ≡ two_ways (t.iff a b)
unfolding two_ways
two-ways-opened a b e = ap (λ c. if c then t.and (t.implies a b) (t.implies b a) else t.iff a b) (sym e)

pub two-ways-kept : (a b : FormulaTree) → (holds_foreign a || holds_foreign b) ≡ false → t.iff a b ≡ two_ways (t.iff a b)
unfolding two_ways
two-ways-kept a b e = ap (λ c. if c then t.and (t.implies a b) (t.implies b a) else t.iff a b) (sym e)

-- a formula made anew by the rule
pub iffs-at : (o : Option ValueTree) → is_truth o ≡ true → built_at (the_value o) opening_iffs pol.Both ≡ of_truth (iffs_opened (the_truth o))
unfolding is_truth the_value the_truth built_at iffs_opened
iffs-at (Some (of_truth a)) h = refl
iffs-at _ h = absurd (true≢false (sym h))

pub cut-at : (o : Option ValueTree) (a : FormulaTree) (d : Polarity) → o ≡ Some (of_truth (iffs_opened a)) → built_at (the_value o) cutting d ≡ of_truth (cut a d)
unfolding the_value built_at cut
cut-at o a d e = ap (λ z. built_at (the_value z) cutting d) e

-- what stands at a node by its sort
pub leaf-truth : (o : Option ValueTree) (v : ValueTree) (d : Polarity) → o ≡ Some v → is_truth o ≡ true → of_truth (if holds_foreign (the_truth o) then instead_of (the_truth o) d else the_truth o) ≡ cut_leaf v d
unfolding is_truth the_truth cut_leaf
leaf-truth (Some (of_truth a)) v d e h = ap (λ z. cut_leaf (value_or z) d) e where
  value_or : Option ValueTree → ValueTree
  value_or (Some u) = u
  value_or None = v
leaf-truth _ v d e h = absurd (true≢false (sym h))

pub truth-sort : (o : Option ValueTree) (v : ValueTree) → o ≡ Some v → tree_sort v ≡ sort.Bool → is_truth o ≡ true
unfolding is_truth
truth-sort o (of_truth a) e h = ap is_truth e
truth-sort o (of_object a) e h = absurd (cc)
truth-sort o (of_number a) e h = absurd (cc)
truth-sort o (of_set a) e h = absurd (cc)
truth-sort o (of_field a) e h = absurd (cc)

pub leaf-other : (v : ValueTree) (d : Polarity) → (tree_sort v ≡ sort.Bool → ⊥) → v ≡ cut_leaf v d
unfolding cut_leaf
leaf-other (of_truth a) d h = absurd (h refl)
leaf-other (of_object a) d h = refl
leaf-other (of_number a) d h = refl
leaf-other (of_set a) d h = refl
leaf-other (of_field a) d h = refl

module _ (p : Pools) (ts : List ValueTree) where
  pub iffs-as : (x y : Shape) (d : Polarity) (v : ValueTree) → x ≡ y → v ≡ applied (shape_tree p ts y) opening_iffs d → v ≡ applied (shape_tree p ts x) opening_iffs d
  iffs-as x y d v e h = h ∙ ap (λ z. applied (shape_tree p ts z) opening_iffs d) (sym e)

  pub iffs-other : (x : Shape) (d : Polarity) → ((a b : ℕ) → x ≡ s.Iff a b → ⊥) → applied (shape_tree p ts x) opening_iffs d ≡ shape_tree p ts x
  unfolding shape_tree applied two_ways
  iffs-other (s.Iff a b) d h = absurd (h a b refl)
  iffs-other _ d h = refl

  pub cut-as : (x y : Shape) (d : Polarity) (v : ValueTree) → x ≡ y → v ≡ applied (shape_tree p ts y) cutting d → v ≡ applied (shape_tree p ts x) cutting d
  cut-as x y d v e h = h ∙ ap (λ z. applied (shape_tree p ts z) cutting d) (sym e)

  pub cut-other : (x : Shape) (d : Polarity) → ((a : ℕ) → x ≡ s.Negation a → ⊥) → ((a b : ℕ) → x ≡ s.And a b → ⊥) → ((a b : ℕ) → x ≡ s.Or a b → ⊥) → ((a b : ℕ) → x ≡ s.Implies a b → ⊥) → ((a b : ℕ) → x ≡ s.Iff a b → ⊥) →
      ((a : ℕ) → x ≡ s.All a → ⊥) → ((a : ℕ) → x ≡ s.Ex a → ⊥) → ((m a : ℕ) → x ≡ s.Mark m a → ⊥) → cut_leaf (shape_tree p ts x) d ≡ applied (shape_tree p ts x) cutting d
  unfolding shape_tree applied cut_once cut_leaf
  cut-other (s.Bound k) d h1 h2 h3 h4 h5 h6 h7 h8 = refl
  cut-other (s.FreeObject n) d h1 h2 h3 h4 h5 h6 h7 h8 = refl
  cut-other s.Null d h1 h2 h3 h4 h5 h6 h7 h8 = refl
  cut-other (s.ReadObject a b) d h1 h2 h3 h4 h5 h6 h7 h8 = refl
  cut-other (s.Const z) d h1 h2 h3 h4 h5 h6 h7 h8 = refl
  cut-other (s.FreeNumber n) d h1 h2 h3 h4 h5 h6 h7 h8 = refl
  cut-other (s.ReadNumber a b) d h1 h2 h3 h4 h5 h6 h7 h8 = refl
  cut-other (s.Add a b) d h1 h2 h3 h4 h5 h6 h7 h8 = refl
  cut-other (s.Sub a b) d h1 h2 h3 h4 h5 h6 h7 h8 = refl
  cut-other (s.Neg a) d h1 h2 h3 h4 h5 h6 h7 h8 = refl
  cut-other (s.Scale z a) d h1 h2 h3 h4 h5 h6 h7 h8 = refl
  cut-other (s.Card a) d h1 h2 h3 h4 h5 h6 h7 h8 = refl
  cut-other (s.FreeSet n) d h1 h2 h3 h4 h5 h6 h7 h8 = refl
  cut-other (s.ReadSet a b) d h1 h2 h3 h4 h5 h6 h7 h8 = refl
  cut-other s.Empty d h1 h2 h3 h4 h5 h6 h7 h8 = refl
  cut-other s.Univ d h1 h2 h3 h4 h5 h6 h7 h8 = refl
  cut-other (s.Single a) d h1 h2 h3 h4 h5 h6 h7 h8 = refl
  cut-other (s.Union a b) d h1 h2 h3 h4 h5 h6 h7 h8 = refl
  cut-other (s.Inter a b) d h1 h2 h3 h4 h5 h6 h7 h8 = refl
  cut-other (s.Diff a b) d h1 h2 h3 h4 h5 h6 h7 h8 = refl
  cut-other (s.Compl a) d h1 h2 h3 h4 h5 h6 h7 h8 = refl
  cut-other (s.Compr a) d h1 h2 h3 h4 h5 h6 h7 h8 = refl
  cut-other (s.FreeField n) d h1 h2 h3 h4 h5 h6 h7 h8 = refl
  cut-other (s.Update a b v) d h1 h2 h3 h4 h5 h6 h7 h8 = refl
  cut-other s.True d h1 h2 h3 h4 h5 h6 h7 h8 = refl
  cut-other s.False d h1 h2 h3 h4 h5 h6 h7 h8 = refl
  cut-other (s.FreeTruth n) d h1 h2 h3 h4 h5 h6 h7 h8 = refl
  cut-other (s.ReadTruth a b) d h1 h2 h3 h4 h5 h6 h7 h8 = refl
  cut-other (s.Negation a) d h1 h2 h3 h4 h5 h6 h7 h8 = absurd (h1 a refl)
  cut-other (s.And a b) d h1 h2 h3 h4 h5 h6 h7 h8 = absurd (h2 a b refl)
  cut-other (s.Or a b) d h1 h2 h3 h4 h5 h6 h7 h8 = absurd (h3 a b refl)
  cut-other (s.Implies a b) d h1 h2 h3 h4 h5 h6 h7 h8 = absurd (h4 a b refl)
  cut-other (s.Iff a b) d h1 h2 h3 h4 h5 h6 h7 h8 = absurd (h5 a b refl)
  cut-other (s.All a) d h1 h2 h3 h4 h5 h6 h7 h8 = absurd (h6 a refl)
  cut-other (s.Ex a) d h1 h2 h3 h4 h5 h6 h7 h8 = absurd (h7 a refl)
  cut-other (s.EqObject a b) d h1 h2 h3 h4 h5 h6 h7 h8 = refl
  cut-other (s.EqNumber a b) d h1 h2 h3 h4 h5 h6 h7 h8 = refl
  cut-other (s.EqSet a b) d h1 h2 h3 h4 h5 h6 h7 h8 = refl
  cut-other (s.Less a b) d h1 h2 h3 h4 h5 h6 h7 h8 = refl
  cut-other (s.LessEqual a b) d h1 h2 h3 h4 h5 h6 h7 h8 = refl
  cut-other (s.Divides z a) d h1 h2 h3 h4 h5 h6 h7 h8 = refl
  cut-other (s.Member a b) d h1 h2 h3 h4 h5 h6 h7 h8 = refl
  cut-other (s.Subset a b) d h1 h2 h3 h4 h5 h6 h7 h8 = refl
  cut-other (s.Reach l a b) d h1 h2 h3 h4 h5 h6 h7 h8 = refl
  cut-other (s.Tree l) d h1 h2 h3 h4 h5 h6 h7 h8 = refl
  cut-other (s.Mark m a) d h1 h2 h3 h4 h5 h6 h7 h8 = absurd (h8 m a refl)

-- what stands at a node is of the sort that was answered
pub sort-is : (v : Listing) (n : ℕ) (w : ValueTree) → slice_get (nodes v) n ≡ Some w → (d : Sort) → d ≡ tree_sort (the_value (slice_get (nodes v) n)) → d ≡ sort.Bool → tree_sort w ≡ sort.Bool
unfolding the_value
sort-is v n w at d is e = sym (ap (λ o. tree_sort (the_value o)) at) ∙ sym is ∙ e

pub sort-back : (v : Listing) (n : ℕ) (w : ValueTree) → slice_get (nodes v) n ≡ Some w → (d : Sort) → d ≡ tree_sort (the_value (slice_get (nodes v) n)) → tree_sort w ≡ sort.Bool → d ≡ sort.Bool
unfolding the_value
sort-back v n w at d is e = is ∙ ap (λ o. tree_sort (the_value o)) at ∙ e
