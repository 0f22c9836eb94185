-- What the arms of the rule come to.
use Rattle.std.proofs.Common.{◌≡◌, refl, sym, ap, ◌∙◌, ℕ, ◌<◌, true, false, List, length, Option, Some, None, is_some, slice_get}
use Rattle.std.proofs.lemmas.Bool.{true≢false}
use Rattle.std.proofs.lemmas.Option.{slice_get_within}
use Rattle.jh_name.specs.declared.place.Sort.{Sort}
use Rattle.jh_name.specs.declared.place.Sort.TheVariants as sort
use Rattle.jh_form.specs.Sorts.{tree_sort}
use Rattle.jh_form.specs.Tree.{TermTree, FieldTree, FormulaTree, ValueTree, of_object, of_number, of_truth, of_set, of_field}
use Rattle.jh_form.specs.Tree as t
use Rattle.jh_arena.specs.table.Entries.{Pools, is_field, is_truth, the_field, the_object, the_truth, the_value}
use Rattle.jh_arena.specs.table.Nodes.{shape_tree}
use Rattle.jh_arena.specs.declared.table.shapes.Shape.{Shape}
use Rattle.jh_arena.specs.declared.table.shapes.Shape.TheVariants as s
use Rattle.jh_normal_forms.specs.declared.rebuilding.polarity.Polarity.{Polarity}
use Rattle.jh_normal_forms.specs.declared.rebuilding.polarity.Polarity.TheVariants as pol
use Rattle.jh_normal_forms.specs.rebuilding.Walking.{built_at, applied}
use Rattle.jh_normal_forms.specs.idle_updates.Dropped.{without_field_value, dropping, dropped}

pub field-of : (o : Option ValueTree) → is_field o ≡ true → o ≡ Some (of_field (the_field o))
unfolding is_field the_field
field-of (Some (of_field a)) h = refl
field-of _ h = absurd (true≢false (sym h))

pub truth-of : (o : Option ValueTree) → is_truth o ≡ true → o ≡ Some (of_truth (the_truth o))
unfolding is_truth the_truth
truth-of (Some (of_truth a)) h = refl
truth-of _ h = absurd (true≢false (sym h))

pub truth-at : (o : Option ValueTree) (a : FormulaTree) → o ≡ Some (of_truth a) → the_truth o ≡ a
unfolding the_truth
truth-at o a e = ap the_truth e

value-of : (o : Option ValueTree) → is_some o ≡ true → o ≡ Some (the_value o)
unfolding the_value
value-of (Some v) h = refl
value-of None h = absurd (true≢false (sym h))

pub value-inside : (ts : List ValueTree) (n : ℕ) → is_some (slice_get ts n) ≡ true → n < length ts
value-inside ts n h = slice_get_within ts n (the_value (slice_get ts n)) (value-of (slice_get ts n) h)

pub truth-inside : (ts : List ValueTree) (n : ℕ) → is_truth (slice_get ts n) ≡ true → n < length ts
truth-inside ts n h = slice_get_within ts n (of_truth (the_truth (slice_get ts n))) (truth-of (slice_get ts n) h)

-- an update of a whole field changes nothing
pub without-field : (f : FieldTree) (a : TermTree) (v : ValueTree) (d : Sort) → d ≡ tree_sort v → d ≡ sort.Field → f ≡ without_field_value (t.update f a v)
unfolding without_field_value
without-field f a (of_field g) d is e = refl
without-field f a (of_object v) d is e = absurd (cc)
without-field f a (of_number v) d is e = absurd (cc)
without-field f a (of_truth v) d is e = absurd (cc)
without-field f a (of_set v) d is e = absurd (cc)

pub without-other : (f : FieldTree) (a : TermTree) (v : ValueTree) (d : Sort) → d ≡ tree_sort v → (d ≡ sort.Field → ⊥) → t.update f a v ≡ without_field_value (t.update f a v)
unfolding without_field_value
without-other f a (of_field g) d is h = absurd (h is)
without-other f a (of_object v) d is h = refl
without-other f a (of_number v) d is h = refl
without-other f a (of_truth v) d is h = refl
without-other f a (of_set v) d is h = refl

module _ (p : Pools) (ts : List ValueTree) where
  pub update-as : (x y : Shape) (d : Polarity) (v : ValueTree) → x ≡ y → v ≡ applied (shape_tree p ts y) dropping d → v ≡ applied (shape_tree p ts x) dropping d
  update-as x y d v e h = h ∙ ap (λ z. applied (shape_tree p ts z) dropping d) (sym e)

  pub other-made : (x : Shape) (d : Polarity) → ((a b c : ℕ) → x ≡ s.Update a b c → ⊥) → applied (shape_tree p ts x) dropping d ≡ shape_tree p ts x
  unfolding shape_tree applied without_field_value
  other-made (s.Update a b c) d h = absurd (h a b c refl)
  other-made _ d h = refl

-- a formula made anew by the rule is the formula without those updates
pub dropped-at : (o : Option ValueTree) → is_truth o ≡ true → built_at (the_value o) dropping pol.Both ≡ of_truth (dropped (the_truth o))
unfolding is_truth the_value the_truth built_at dropped
dropped-at (Some (of_truth a)) h = refl
dropped-at _ h = absurd (true≢false (sym h))
