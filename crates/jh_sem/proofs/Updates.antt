-- Written by tools/sem.py. What a changed field has at an object.
use Rattle.std.proofs.Common.{◌≡◌, refl, sym, ap, subst, ◌∙◌, ℕ, ◌==◌, Bool, true, false, if◌then◌else◌, List, slice_get, Some, None, is_some}
use Rattle.std.specs.Prelude.{Option}
use Rattle.std.proofs.lemmas.Bool.{eq-eqb, eqb-true, true≢false}
use Rattle.jh_name.specs.declared.place.Sort.TheVariants as Sort
use Rattle.jh_form.specs.Tree.{ValueTree, FieldTree, of_object, of_number, of_truth, of_set, of_field}
use Rattle.jh_form.specs.Sorts.{tree_sort}
use Rattle.jh_form.specs.Meaning.{Fields, Interp, updated, term_value, int_value, set_value, field_value, datum, truth}
use Rattle.jh_boxed.specs.Parts as part
use Rattle.jh_arena.specs.table.Entries.{Listing, is_object, is_number, is_set, is_truth, the_object, the_number, the_set, the_field, the_truth, the_value}
use Rattle.jh_arena.specs.declared.table.shapes.Shape.TheVariants as s
use Rattle.jh_arena.specs.table.Nodes.{nodes}
use Rattle.jh_arena.proofs.table.PartSteps.{part-Update-c}
use Rattle.jh_export.specs.Standing.{Stands}
use Rattle.jh_export.proofs.ValueSteps as v
use Rattle.jh_export.proofs.Values.{object-sort, number-sort, truth-sort, set-sort, object-whole, number-whole, truth-whole, set-whole}
use Rattle.jh_sem.specs.Wide.{IsWide}
use Rattle.jh_sem.proofs.Below.{not-so}
use Rattle.jh_sem.proofs.Widening.{wide-part}
use Rattle.jh_sem.proofs.EvalSteps.{value-Update}

take : {X : Type 0} (b : Bool) (x y : X) → b ≡ true → x ≡ (if b then x else y)
take true x y h = refl
take false x y h = absurd (true≢false (sym h))

leave : {X : Type 0} (b : Bool) (x y : X) → b ≡ false → y ≡ (if b then x else y)
leave false x y h = refl
leave true x y h = absurd (true≢false h)

module _ (m : Interp) (e : List ℕ) where
  hit-object-at : (f : Fields) (p a : ℕ) (u : ValueTree) → a ≡ p → tree_sort u ≡ Sort.Obj → term_value (the_object (Some u)) m e ≡ (updated f p (datum u m e)).objects a
  unfolding the_object
  hit-object-at f p a (of_object b) same h = take (a == p) (term_value b m e) (f.objects a) (eq-eqb a p same)
  hit-object-at f p a (of_number b) same h = absurd (cc)
  hit-object-at f p a (of_truth b) same h = absurd (cc)
  hit-object-at f p a (of_set b) same h = absurd (cc)
  hit-object-at f p a (of_field b) same h = absurd (cc)

  miss-object-at : (f : Fields) (p a : ℕ) (u : ValueTree) → (a ≡ p → ⊥) → f.objects a ≡ (updated f p (datum u m e)).objects a
  miss-object-at f p a (of_object b) other = leave (a == p) (term_value b m e) (f.objects a) (not-so (a == p) (λ h. other (eqb-true a p h)))
  miss-object-at f p a (of_number b) other = refl
  miss-object-at f p a (of_truth b) other = refl
  miss-object-at f p a (of_set b) other = refl
  miss-object-at f p a (of_field b) other = refl

  else-object-at : (f : Fields) (p a : ℕ) (u : ValueTree) → (tree_sort u ≡ Sort.Obj → ⊥) → f.objects a ≡ (updated f p (datum u m e)).objects a
  else-object-at f p a (of_object b) h = absurd (h refl)
  else-object-at f p a (of_number b) h = refl
  else-object-at f p a (of_truth b) h = refl
  else-object-at f p a (of_set b) h = refl
  else-object-at f p a (of_field b) h = refl

module _ (t : Listing) (i : ℕ) (m : Interp) (a b c : ℕ) (h : Stands t i (s.Update a b c)) where
  there-object : (o : Option ValueTree) → is_some o ≡ true → tree_sort (the_value o) ≡ Sort.Obj → (e : List ℕ) (f : Fields) (p at : ℕ) → at ≡ p → term_value (the_object o) m e ≡ (updated f p (datum (the_value o) m e)).objects at
  unfolding the_value
  there-object None some is e f p at same = absurd (cc)
  there-object (Some u) some is e f p at same = hit-object-at m e f p at u same is

  pub hit-object : (e : List ℕ) (at : ℕ) → at ≡ term_value (the_object (slice_get (nodes t) b)) m e → tree_sort (the_value (slice_get (nodes t) c)) ≡ Sort.Obj → term_value (the_object (slice_get (nodes t) c)) m e ≡ (field_value (the_field (slice_get (nodes t) i)) m e).objects at
  hit-object e at same is = there-object (slice_get (nodes t) c) (part-Update-c t.pools (nodes t) a b c h.fits) is e (field_value (the_field (slice_get (nodes t) a)) m e) (term_value (the_object (slice_get (nodes t) b)) m e) at same ∙ ap (λ (g : Fields). g.objects at) (value-Update t i m a b c h e)

  pub miss-object : (e : List ℕ) (at : ℕ) → (at ≡ term_value (the_object (slice_get (nodes t) b)) m e → ⊥) → (field_value (the_field (slice_get (nodes t) a)) m e).objects at ≡ (field_value (the_field (slice_get (nodes t) i)) m e).objects at
  miss-object e at other = miss-object-at m e (field_value (the_field (slice_get (nodes t) a)) m e) (term_value (the_object (slice_get (nodes t) b)) m e) at (the_value (slice_get (nodes t) c)) other ∙ ap (λ (g : Fields). g.objects at) (value-Update t i m a b c h e)

  pub else-object : (e : List ℕ) (at : ℕ) → (tree_sort (the_value (slice_get (nodes t) c)) ≡ Sort.Obj → ⊥) → (field_value (the_field (slice_get (nodes t) a)) m e).objects at ≡ (field_value (the_field (slice_get (nodes t) i)) m e).objects at
  else-object e at is = else-object-at m e (field_value (the_field (slice_get (nodes t) a)) m e) (term_value (the_object (slice_get (nodes t) b)) m e) at (the_value (slice_get (nodes t) c)) is ∙ ap (λ (g : Fields). g.objects at) (value-Update t i m a b c h e)

  pub sorted-object : tree_sort (the_value (slice_get (nodes t) c)) ≡ Sort.Obj → is_object (slice_get (nodes t) c) ≡ true
  sorted-object is = object-sort (nodes t) c (v.sort-Update-c t i a b c h) is

  pub wide-object : tree_sort (the_value (slice_get (nodes t) c)) ≡ Sort.Obj → IsWide m (of_object (the_object (slice_get (nodes t) c))) → IsWide m (of_field (the_field (slice_get (nodes t) i)))
  wide-object is w =
      subst (λ (f : FieldTree). IsWide m (of_field f)) (v.stands-Update t i a b c h)
      (wide-part m _ _ (part.update-c (the_field (slice_get (nodes t) a)) (the_object (slice_get (nodes t) b)) (the_value (slice_get (nodes t) c)))
      (subst (λ (u : ValueTree). IsWide m u) (object-whole (slice_get (nodes t) c) (sorted-object is)) w))

pub ruleset object_steps = (hit-object, miss-object, else-object, sorted-object, wide-object)

module _ (m : Interp) (e : List ℕ) where
  hit-number-at : (f : Fields) (p a : ℕ) (u : ValueTree) → a ≡ p → tree_sort u ≡ Sort.Int → int_value (the_number (Some u)) m e ≡ (updated f p (datum u m e)).numbers a
  unfolding the_number
  hit-number-at f p a (of_object b) same h = absurd (cc)
  hit-number-at f p a (of_number b) same h = take (a == p) (int_value b m e) (f.numbers a) (eq-eqb a p same)
  hit-number-at f p a (of_truth b) same h = absurd (cc)
  hit-number-at f p a (of_set b) same h = absurd (cc)
  hit-number-at f p a (of_field b) same h = absurd (cc)

  miss-number-at : (f : Fields) (p a : ℕ) (u : ValueTree) → (a ≡ p → ⊥) → f.numbers a ≡ (updated f p (datum u m e)).numbers a
  miss-number-at f p a (of_object b) other = refl
  miss-number-at f p a (of_number b) other = leave (a == p) (int_value b m e) (f.numbers a) (not-so (a == p) (λ h. other (eqb-true a p h)))
  miss-number-at f p a (of_truth b) other = refl
  miss-number-at f p a (of_set b) other = refl
  miss-number-at f p a (of_field b) other = refl

  else-number-at : (f : Fields) (p a : ℕ) (u : ValueTree) → (tree_sort u ≡ Sort.Int → ⊥) → f.numbers a ≡ (updated f p (datum u m e)).numbers a
  else-number-at f p a (of_object b) h = refl
  else-number-at f p a (of_number b) h = absurd (h refl)
  else-number-at f p a (of_truth b) h = refl
  else-number-at f p a (of_set b) h = refl
  else-number-at f p a (of_field b) h = refl

module _ (t : Listing) (i : ℕ) (m : Interp) (a b c : ℕ) (h : Stands t i (s.Update a b c)) where
  there-number : (o : Option ValueTree) → is_some o ≡ true → tree_sort (the_value o) ≡ Sort.Int → (e : List ℕ) (f : Fields) (p at : ℕ) → at ≡ p → int_value (the_number o) m e ≡ (updated f p (datum (the_value o) m e)).numbers at
  unfolding the_value
  there-number None some is e f p at same = absurd (cc)
  there-number (Some u) some is e f p at same = hit-number-at m e f p at u same is

  pub hit-number : (e : List ℕ) (at : ℕ) → at ≡ term_value (the_object (slice_get (nodes t) b)) m e → tree_sort (the_value (slice_get (nodes t) c)) ≡ Sort.Int → int_value (the_number (slice_get (nodes t) c)) m e ≡ (field_value (the_field (slice_get (nodes t) i)) m e).numbers at
  hit-number e at same is = there-number (slice_get (nodes t) c) (part-Update-c t.pools (nodes t) a b c h.fits) is e (field_value (the_field (slice_get (nodes t) a)) m e) (term_value (the_object (slice_get (nodes t) b)) m e) at same ∙ ap (λ (g : Fields). g.numbers at) (value-Update t i m a b c h e)

  pub miss-number : (e : List ℕ) (at : ℕ) → (at ≡ term_value (the_object (slice_get (nodes t) b)) m e → ⊥) → (field_value (the_field (slice_get (nodes t) a)) m e).numbers at ≡ (field_value (the_field (slice_get (nodes t) i)) m e).numbers at
  miss-number e at other = miss-number-at m e (field_value (the_field (slice_get (nodes t) a)) m e) (term_value (the_object (slice_get (nodes t) b)) m e) at (the_value (slice_get (nodes t) c)) other ∙ ap (λ (g : Fields). g.numbers at) (value-Update t i m a b c h e)

  pub else-number : (e : List ℕ) (at : ℕ) → (tree_sort (the_value (slice_get (nodes t) c)) ≡ Sort.Int → ⊥) → (field_value (the_field (slice_get (nodes t) a)) m e).numbers at ≡ (field_value (the_field (slice_get (nodes t) i)) m e).numbers at
  else-number e at is = else-number-at m e (field_value (the_field (slice_get (nodes t) a)) m e) (term_value (the_object (slice_get (nodes t) b)) m e) at (the_value (slice_get (nodes t) c)) is ∙ ap (λ (g : Fields). g.numbers at) (value-Update t i m a b c h e)

  pub sorted-number : tree_sort (the_value (slice_get (nodes t) c)) ≡ Sort.Int → is_number (slice_get (nodes t) c) ≡ true
  sorted-number is = number-sort (nodes t) c (v.sort-Update-c t i a b c h) is

  pub wide-number : tree_sort (the_value (slice_get (nodes t) c)) ≡ Sort.Int → IsWide m (of_number (the_number (slice_get (nodes t) c))) → IsWide m (of_field (the_field (slice_get (nodes t) i)))
  wide-number is w =
      subst (λ (f : FieldTree). IsWide m (of_field f)) (v.stands-Update t i a b c h)
      (wide-part m _ _ (part.update-c (the_field (slice_get (nodes t) a)) (the_object (slice_get (nodes t) b)) (the_value (slice_get (nodes t) c)))
      (subst (λ (u : ValueTree). IsWide m u) (number-whole (slice_get (nodes t) c) (sorted-number is)) w))

pub ruleset number_steps = (hit-number, miss-number, else-number, sorted-number, wide-number)

module _ (m : Interp) (e : List ℕ) where
  hit-truth-at : (f : Fields) (p a : ℕ) (u : ValueTree) → a ≡ p → tree_sort u ≡ Sort.Bool → truth (the_truth (Some u)) m e ≡ (updated f p (datum u m e)).truths a
  unfolding the_truth
  hit-truth-at f p a (of_object b) same h = absurd (cc)
  hit-truth-at f p a (of_number b) same h = absurd (cc)
  hit-truth-at f p a (of_truth b) same h = take (a == p) (truth b m e) (f.truths a) (eq-eqb a p same)
  hit-truth-at f p a (of_set b) same h = absurd (cc)
  hit-truth-at f p a (of_field b) same h = absurd (cc)

  miss-truth-at : (f : Fields) (p a : ℕ) (u : ValueTree) → (a ≡ p → ⊥) → f.truths a ≡ (updated f p (datum u m e)).truths a
  miss-truth-at f p a (of_object b) other = refl
  miss-truth-at f p a (of_number b) other = refl
  miss-truth-at f p a (of_truth b) other = leave (a == p) (truth b m e) (f.truths a) (not-so (a == p) (λ h. other (eqb-true a p h)))
  miss-truth-at f p a (of_set b) other = refl
  miss-truth-at f p a (of_field b) other = refl

  else-truth-at : (f : Fields) (p a : ℕ) (u : ValueTree) → (tree_sort u ≡ Sort.Bool → ⊥) → f.truths a ≡ (updated f p (datum u m e)).truths a
  else-truth-at f p a (of_object b) h = refl
  else-truth-at f p a (of_number b) h = refl
  else-truth-at f p a (of_truth b) h = absurd (h refl)
  else-truth-at f p a (of_set b) h = refl
  else-truth-at f p a (of_field b) h = refl

module _ (t : Listing) (i : ℕ) (m : Interp) (a b c : ℕ) (h : Stands t i (s.Update a b c)) where
  there-truth : (o : Option ValueTree) → is_some o ≡ true → tree_sort (the_value o) ≡ Sort.Bool → (e : List ℕ) (f : Fields) (p at : ℕ) → at ≡ p → truth (the_truth o) m e ≡ (updated f p (datum (the_value o) m e)).truths at
  unfolding the_value
  there-truth None some is e f p at same = absurd (cc)
  there-truth (Some u) some is e f p at same = hit-truth-at m e f p at u same is

  pub hit-truth : (e : List ℕ) (at : ℕ) → at ≡ term_value (the_object (slice_get (nodes t) b)) m e → tree_sort (the_value (slice_get (nodes t) c)) ≡ Sort.Bool → truth (the_truth (slice_get (nodes t) c)) m e ≡ (field_value (the_field (slice_get (nodes t) i)) m e).truths at
  hit-truth e at same is = there-truth (slice_get (nodes t) c) (part-Update-c t.pools (nodes t) a b c h.fits) is e (field_value (the_field (slice_get (nodes t) a)) m e) (term_value (the_object (slice_get (nodes t) b)) m e) at same ∙ ap (λ (g : Fields). g.truths at) (value-Update t i m a b c h e)

  pub miss-truth : (e : List ℕ) (at : ℕ) → (at ≡ term_value (the_object (slice_get (nodes t) b)) m e → ⊥) → (field_value (the_field (slice_get (nodes t) a)) m e).truths at ≡ (field_value (the_field (slice_get (nodes t) i)) m e).truths at
  miss-truth e at other = miss-truth-at m e (field_value (the_field (slice_get (nodes t) a)) m e) (term_value (the_object (slice_get (nodes t) b)) m e) at (the_value (slice_get (nodes t) c)) other ∙ ap (λ (g : Fields). g.truths at) (value-Update t i m a b c h e)

  pub else-truth : (e : List ℕ) (at : ℕ) → (tree_sort (the_value (slice_get (nodes t) c)) ≡ Sort.Bool → ⊥) → (field_value (the_field (slice_get (nodes t) a)) m e).truths at ≡ (field_value (the_field (slice_get (nodes t) i)) m e).truths at
  else-truth e at is = else-truth-at m e (field_value (the_field (slice_get (nodes t) a)) m e) (term_value (the_object (slice_get (nodes t) b)) m e) at (the_value (slice_get (nodes t) c)) is ∙ ap (λ (g : Fields). g.truths at) (value-Update t i m a b c h e)

  pub sorted-truth : tree_sort (the_value (slice_get (nodes t) c)) ≡ Sort.Bool → is_truth (slice_get (nodes t) c) ≡ true
  sorted-truth is = truth-sort (nodes t) c (v.sort-Update-c t i a b c h) is

  pub wide-truth : tree_sort (the_value (slice_get (nodes t) c)) ≡ Sort.Bool → IsWide m (of_truth (the_truth (slice_get (nodes t) c))) → IsWide m (of_field (the_field (slice_get (nodes t) i)))
  wide-truth is w =
      subst (λ (f : FieldTree). IsWide m (of_field f)) (v.stands-Update t i a b c h)
      (wide-part m _ _ (part.update-c (the_field (slice_get (nodes t) a)) (the_object (slice_get (nodes t) b)) (the_value (slice_get (nodes t) c)))
      (subst (λ (u : ValueTree). IsWide m u) (truth-whole (slice_get (nodes t) c) (sorted-truth is)) w))

pub ruleset truth_steps = (hit-truth, miss-truth, else-truth, sorted-truth, wide-truth)

module _ (m : Interp) (e : List ℕ) where
  hit-member-at : (f : Fields) (p a : ℕ) (u : ValueTree) (y : ℕ) → a ≡ p → tree_sort u ≡ Sort.Set → set_value (the_set (Some u)) m e y ≡ (updated f p (datum u m e)).sets a y
  unfolding the_set
  hit-member-at f p a (of_object b) y same h = absurd (cc)
  hit-member-at f p a (of_number b) y same h = absurd (cc)
  hit-member-at f p a (of_truth b) y same h = absurd (cc)
  hit-member-at f p a (of_set b) y same h = ap (λ (g : ℕ → Bool). g y) (take (a == p) (set_value b m e) (f.sets a) (eq-eqb a p same))
  hit-member-at f p a (of_field b) y same h = absurd (cc)

  miss-member-at : (f : Fields) (p a : ℕ) (u : ValueTree) (y : ℕ) → (a ≡ p → ⊥) → f.sets a y ≡ (updated f p (datum u m e)).sets a y
  miss-member-at f p a (of_object b) y other = refl
  miss-member-at f p a (of_number b) y other = refl
  miss-member-at f p a (of_truth b) y other = refl
  miss-member-at f p a (of_set b) y other = ap (λ (g : ℕ → Bool). g y) (leave (a == p) (set_value b m e) (f.sets a) (not-so (a == p) (λ h. other (eqb-true a p h))))
  miss-member-at f p a (of_field b) y other = refl

  else-member-at : (f : Fields) (p a : ℕ) (u : ValueTree) (y : ℕ) → (tree_sort u ≡ Sort.Set → ⊥) → f.sets a y ≡ (updated f p (datum u m e)).sets a y
  else-member-at f p a (of_object b) y h = refl
  else-member-at f p a (of_number b) y h = refl
  else-member-at f p a (of_truth b) y h = refl
  else-member-at f p a (of_set b) y h = absurd (h refl)
  else-member-at f p a (of_field b) y h = refl

module _ (t : Listing) (i : ℕ) (m : Interp) (a b c : ℕ) (h : Stands t i (s.Update a b c)) where
  there-member : (o : Option ValueTree) → is_some o ≡ true → tree_sort (the_value o) ≡ Sort.Set → (e : List ℕ) (f : Fields) (p at : ℕ) (y : ℕ) → at ≡ p → set_value (the_set o) m e y ≡ (updated f p (datum (the_value o) m e)).sets at y
  unfolding the_value
  there-member None some is e f p at y same = absurd (cc)
  there-member (Some u) some is e f p at y same = hit-member-at m e f p at u y same is

  pub hit-member : (e : List ℕ) (at : ℕ) (y : ℕ) → at ≡ term_value (the_object (slice_get (nodes t) b)) m e → tree_sort (the_value (slice_get (nodes t) c)) ≡ Sort.Set → set_value (the_set (slice_get (nodes t) c)) m e y ≡ (field_value (the_field (slice_get (nodes t) i)) m e).sets at y
  hit-member e at y same is = there-member (slice_get (nodes t) c) (part-Update-c t.pools (nodes t) a b c h.fits) is e (field_value (the_field (slice_get (nodes t) a)) m e) (term_value (the_object (slice_get (nodes t) b)) m e) at y same ∙ ap (λ (g : Fields). g.sets at y) (value-Update t i m a b c h e)

  pub miss-member : (e : List ℕ) (at : ℕ) (y : ℕ) → (at ≡ term_value (the_object (slice_get (nodes t) b)) m e → ⊥) → (field_value (the_field (slice_get (nodes t) a)) m e).sets at y ≡ (field_value (the_field (slice_get (nodes t) i)) m e).sets at y
  miss-member e at y other = miss-member-at m e (field_value (the_field (slice_get (nodes t) a)) m e) (term_value (the_object (slice_get (nodes t) b)) m e) at (the_value (slice_get (nodes t) c)) y other ∙ ap (λ (g : Fields). g.sets at y) (value-Update t i m a b c h e)

  pub else-member : (e : List ℕ) (at : ℕ) (y : ℕ) → (tree_sort (the_value (slice_get (nodes t) c)) ≡ Sort.Set → ⊥) → (field_value (the_field (slice_get (nodes t) a)) m e).sets at y ≡ (field_value (the_field (slice_get (nodes t) i)) m e).sets at y
  else-member e at y is = else-member-at m e (field_value (the_field (slice_get (nodes t) a)) m e) (term_value (the_object (slice_get (nodes t) b)) m e) at (the_value (slice_get (nodes t) c)) y is ∙ ap (λ (g : Fields). g.sets at y) (value-Update t i m a b c h e)

  pub sorted-member : tree_sort (the_value (slice_get (nodes t) c)) ≡ Sort.Set → is_set (slice_get (nodes t) c) ≡ true
  sorted-member is = set-sort (nodes t) c (v.sort-Update-c t i a b c h) is

  pub wide-member : tree_sort (the_value (slice_get (nodes t) c)) ≡ Sort.Set → IsWide m (of_set (the_set (slice_get (nodes t) c))) → IsWide m (of_field (the_field (slice_get (nodes t) i)))
  wide-member is w =
      subst (λ (f : FieldTree). IsWide m (of_field f)) (v.stands-Update t i a b c h)
      (wide-part m _ _ (part.update-c (the_field (slice_get (nodes t) a)) (the_object (slice_get (nodes t) b)) (the_value (slice_get (nodes t) c)))
      (subst (λ (u : ValueTree). IsWide m u) (set-whole (slice_get (nodes t) c) (sorted-member is)) w))

pub ruleset member_steps = (hit-member, miss-member, else-member, sorted-member, wide-member)
