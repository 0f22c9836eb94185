-- A shape over the answers for its parts, where the rule is put to it.
use Rattle.std.proofs.Common.{◌≡◌, refl, sym, ap, subst, ◌∙◌, ℕ, suc, true, false, ◌&&◌, List, [], ◌∷◌, slice_get, slice_index, Option, Some, None, is_some, option_map}
use Rattle.std.proofs.lemmas.Bool.{true≢false}
use Rattle.std.specs.Cmp.Derive.{both_true}
use Rattle.jh_form.specs.Tree.{ValueTree, of_object, of_number, of_truth, of_set, of_field, more}
use Rattle.jh_form.specs.Tree as t
use Rattle.jh_form.proofs.ClosedLemmas.{both-left, both-right}
use Rattle.jh_arena.specs.table.Entries.{Pools, the_list, the_mark, is_object, is_number, is_truth, is_set, is_field, the_object, the_number, the_truth, the_set, the_field, the_value, are_fields, fields_at}
use Rattle.jh_arena.specs.table.Nodes.{fits, shape_tree}
use Rattle.jh_arena.specs.table.Parts.{own_parts, list_parts, has_list, put}
use Rattle.jh_arena.specs.declared.table.shapes.Shape.{Shape}
use Rattle.jh_arena.specs.declared.table.shapes.Shape.TheVariants as s
use Rattle.jh_normal_forms.specs.declared.rebuilding.polarity.Polarity.{Polarity}
use Rattle.jh_normal_forms.specs.declared.rebuilding.polarity.Polarity.TheVariants as pol
use Rattle.jh_normal_forms.specs.rebuilding.Built.{Rule, turned, built_term, built_int, built_set, built_field, built_value, built_formula, built_fields}
use Rattle.jh_normal_forms.specs.rebuilding.Walking.{built_at, applied, sign, IsBuilt, AllBuilt}

pub record Rebuilt (p : Pools) (ts : List ValueTree) (r : Rule) (d : Polarity) (old new : Shape) : Type 0 where
  pub fits : fits p ts new ≡ true
  pub is : applied (shape_tree p ts new) r d ≡ built_at (shape_tree p ts old) r d

module _ (ts : List ValueTree) (r : Rule) where
  pub first : (sg : ℕ → Polarity) (i a : ℕ) (ps rs : List ℕ) → AllBuilt r ts sg i (a ∷ ps) rs → IsBuilt r ts a (sg i) (slice_index rs 0)
  first sg i a ps [] h = absurd h
  first sg i a ps (n ∷ rs) h = h.0

  pub second : (sg : ℕ → Polarity) (i a b : ℕ) (ps rs : List ℕ) → AllBuilt r ts sg i (a ∷ b ∷ ps) rs → IsBuilt r ts b (sg (suc i)) (slice_index rs 1)
  second sg i a b ps [] h = absurd h
  second sg i a b ps (n ∷ rs) h = first sg (suc i) b ps rs h.1

  pub third : (sg : ℕ → Polarity) (i a b c : ℕ) (ps rs : List ℕ) → AllBuilt r ts sg i (a ∷ b ∷ c ∷ ps) rs → IsBuilt r ts c (sg (suc (suc i))) (slice_index rs 2)
  third sg i a b c ps [] h = absurd h
  third sg i a b c ps (n ∷ rs) h = second sg (suc i) b c ps rs h.1

  object-fits_of : (d : Polarity) (o n : Option ValueTree) → n ≡ option_map (λ v. built_at v r d) o → is_object o ≡ true → is_object n ≡ true
  unfolding is_object built_at
  object-fits_of d (Some (of_object a)) n e h = ap is_object e
  object-fits_of d _ n e h = absurd (true≢false (sym h))

  pub object-fits : (d : Polarity) (k n : ℕ) → IsBuilt r ts k d n → is_object (slice_get ts k) ≡ true → is_object (slice_get ts n) ≡ true
  object-fits d k n m h = object-fits_of d (slice_get ts k) (slice_get ts n) m.is h

  object-is_of : (d : Polarity) (o n : Option ValueTree) → n ≡ option_map (λ v. built_at v r d) o → is_object o ≡ true → the_object n ≡ built_term (the_object o) r
  unfolding is_object the_object built_at
  object-is_of d (Some (of_object a)) n e h = ap the_object e
  object-is_of d _ n e h = absurd (true≢false (sym h))

  pub object-is : (d : Polarity) (k n : ℕ) → IsBuilt r ts k d n → is_object (slice_get ts k) ≡ true → the_object (slice_get ts n) ≡ built_term (the_object (slice_get ts k)) r
  object-is d k n m h = object-is_of d (slice_get ts k) (slice_get ts n) m.is h

  number-fits_of : (d : Polarity) (o n : Option ValueTree) → n ≡ option_map (λ v. built_at v r d) o → is_number o ≡ true → is_number n ≡ true
  unfolding is_number built_at
  number-fits_of d (Some (of_number a)) n e h = ap is_number e
  number-fits_of d _ n e h = absurd (true≢false (sym h))

  pub number-fits : (d : Polarity) (k n : ℕ) → IsBuilt r ts k d n → is_number (slice_get ts k) ≡ true → is_number (slice_get ts n) ≡ true
  number-fits d k n m h = number-fits_of d (slice_get ts k) (slice_get ts n) m.is h

  number-is_of : (d : Polarity) (o n : Option ValueTree) → n ≡ option_map (λ v. built_at v r d) o → is_number o ≡ true → the_number n ≡ built_int (the_number o) r
  unfolding is_number the_number built_at
  number-is_of d (Some (of_number a)) n e h = ap the_number e
  number-is_of d _ n e h = absurd (true≢false (sym h))

  pub number-is : (d : Polarity) (k n : ℕ) → IsBuilt r ts k d n → is_number (slice_get ts k) ≡ true → the_number (slice_get ts n) ≡ built_int (the_number (slice_get ts k)) r
  number-is d k n m h = number-is_of d (slice_get ts k) (slice_get ts n) m.is h

  truth-fits_of : (d : Polarity) (o n : Option ValueTree) → n ≡ option_map (λ v. built_at v r d) o → is_truth o ≡ true → is_truth n ≡ true
  unfolding is_truth built_at
  truth-fits_of d (Some (of_truth a)) n e h = ap is_truth e
  truth-fits_of d _ n e h = absurd (true≢false (sym h))

  pub truth-fits : (d : Polarity) (k n : ℕ) → IsBuilt r ts k d n → is_truth (slice_get ts k) ≡ true → is_truth (slice_get ts n) ≡ true
  truth-fits d k n m h = truth-fits_of d (slice_get ts k) (slice_get ts n) m.is h

  truth-is_of : (d : Polarity) (o n : Option ValueTree) → n ≡ option_map (λ v. built_at v r d) o → is_truth o ≡ true → the_truth n ≡ built_formula (the_truth o) r d
  unfolding is_truth the_truth built_at
  truth-is_of d (Some (of_truth a)) n e h = ap the_truth e
  truth-is_of d _ n e h = absurd (true≢false (sym h))

  pub truth-is : (d : Polarity) (k n : ℕ) → IsBuilt r ts k d n → is_truth (slice_get ts k) ≡ true → the_truth (slice_get ts n) ≡ built_formula (the_truth (slice_get ts k)) r d
  truth-is d k n m h = truth-is_of d (slice_get ts k) (slice_get ts n) m.is h

  set-fits_of : (d : Polarity) (o n : Option ValueTree) → n ≡ option_map (λ v. built_at v r d) o → is_set o ≡ true → is_set n ≡ true
  unfolding is_set built_at
  set-fits_of d (Some (of_set a)) n e h = ap is_set e
  set-fits_of d _ n e h = absurd (true≢false (sym h))

  pub set-fits : (d : Polarity) (k n : ℕ) → IsBuilt r ts k d n → is_set (slice_get ts k) ≡ true → is_set (slice_get ts n) ≡ true
  set-fits d k n m h = set-fits_of d (slice_get ts k) (slice_get ts n) m.is h

  set-is_of : (d : Polarity) (o n : Option ValueTree) → n ≡ option_map (λ v. built_at v r d) o → is_set o ≡ true → the_set n ≡ built_set (the_set o) r
  unfolding is_set the_set built_at
  set-is_of d (Some (of_set a)) n e h = ap the_set e
  set-is_of d _ n e h = absurd (true≢false (sym h))

  pub set-is : (d : Polarity) (k n : ℕ) → IsBuilt r ts k d n → is_set (slice_get ts k) ≡ true → the_set (slice_get ts n) ≡ built_set (the_set (slice_get ts k)) r
  set-is d k n m h = set-is_of d (slice_get ts k) (slice_get ts n) m.is h

  field-fits_of : (d : Polarity) (o n : Option ValueTree) → n ≡ option_map (λ v. built_at v r d) o → is_field o ≡ true → is_field n ≡ true
  unfolding is_field built_at
  field-fits_of d (Some (of_field a)) n e h = ap is_field e
  field-fits_of d _ n e h = absurd (true≢false (sym h))

  pub field-fits : (d : Polarity) (k n : ℕ) → IsBuilt r ts k d n → is_field (slice_get ts k) ≡ true → is_field (slice_get ts n) ≡ true
  field-fits d k n m h = field-fits_of d (slice_get ts k) (slice_get ts n) m.is h

  field-is_of : (d : Polarity) (o n : Option ValueTree) → n ≡ option_map (λ v. built_at v r d) o → is_field o ≡ true → the_field n ≡ built_field (the_field o) r
  unfolding is_field the_field built_at
  field-is_of d (Some (of_field a)) n e h = ap the_field e
  field-is_of d _ n e h = absurd (true≢false (sym h))

  pub field-is : (d : Polarity) (k n : ℕ) → IsBuilt r ts k d n → is_field (slice_get ts k) ≡ true → the_field (slice_get ts n) ≡ built_field (the_field (slice_get ts k)) r
  field-is d k n m h = field-is_of d (slice_get ts k) (slice_get ts n) m.is h

  value-is_of : (o n : Option ValueTree) → n ≡ option_map (λ v. built_at v r pol.Both) o → is_some o ≡ true → the_value n ≡ built_value (the_value o) r
  unfolding the_value built_at built_value
  value-is_of (Some (of_object a)) n e h = ap the_value e
  value-is_of (Some (of_number a)) n e h = ap the_value e
  value-is_of (Some (of_truth a)) n e h = ap the_value e
  value-is_of (Some (of_set a)) n e h = ap the_value e
  value-is_of (Some (of_field a)) n e h = ap the_value e
  value-is_of None n e h = absurd (true≢false (sym h))

  pub value-is : (k n : ℕ) → IsBuilt r ts k pol.Both n → the_value (slice_get ts n) ≡ built_value (the_value (slice_get ts k)) r
  value-is k n m = value-is_of (slice_get ts k) (slice_get ts n) m.is m.there

  some_of : (f : ValueTree → ValueTree) (o : Option ValueTree) → is_some (option_map f o) ≡ is_some o
  some_of f (Some v) = refl
  some_of f None = refl

  pub built-there : (d : Polarity) (k n : ℕ) → IsBuilt r ts k d n → is_some (slice_get ts n) ≡ true
  built-there d k n m = ap is_some m.is ∙ some_of (λ v. built_at v r d) (slice_get ts k) ∙ m.there

  all-fit : (i : ℕ) (ps rs : List ℕ) → AllBuilt r ts (λ j. pol.Both) i ps rs → are_fields ts ps ≡ true → are_fields ts rs ≡ true
  unfolding are_fields
  all-fit i [] [] u h = refl
  all-fit i [] (n ∷ rs) u h = absurd u
  all-fit i (k ∷ ps) [] u h = absurd u
  all-fit i (k ∷ ps) (n ∷ rs) u h =
      both_true (field-fits pol.Both k n u.0 (both-left (is_field (slice_get ts k)) (are_fields ts ps) h)) (all-fit (suc i) ps rs u.1 (both-right (is_field (slice_get ts k)) (are_fields ts ps) h))

  all-are : (i : ℕ) (ps rs : List ℕ) → AllBuilt r ts (λ j. pol.Both) i ps rs → are_fields ts ps ≡ true → fields_at ts rs ≡ built_fields (fields_at ts ps) r
  unfolding are_fields fields_at built_fields
  all-are i [] [] u h = refl
  all-are i [] (n ∷ rs) u h = absurd u
  all-are i (k ∷ ps) [] u h = absurd u
  all-are i (k ∷ ps) (n ∷ rs) u h = λ j.
      more (field-is pol.Both k n u.0 (both-left (is_field (slice_get ts k)) (are_fields ts ps) h) j) (all-are (suc i) ps rs u.1 (both-right (is_field (slice_get ts k)) (are_fields ts ps) h) j)

  pub fields-fit : (q : Pools) (n : ℕ) (fs ps : List ℕ) → slice_get q.lists n ≡ Some fs → AllBuilt r ts (λ j. pol.Both) 0 ps fs → are_fields ts ps ≡ true → are_fields ts (the_list (slice_get q.lists n)) ≡ true
  unfolding the_list
  fields-fit q n fs ps g u h = ap (λ o. are_fields ts (the_list o)) g ∙ all-fit 0 ps fs u h

  pub fields-are : (q : Pools) (n : ℕ) (fs ps : List ℕ) → slice_get q.lists n ≡ Some fs → AllBuilt r ts (λ j. pol.Both) 0 ps fs → are_fields ts ps ≡ true → fields_at ts (the_list (slice_get q.lists n)) ≡ built_fields (fields_at ts ps) r
  unfolding the_list
  fields-are q n fs ps g u h = ap (λ o. fields_at ts (the_list o)) g ∙ all-are 0 ps fs u h

module _ (p : Pools) (ts : List ValueTree) (r : Rule) (d : Polarity) (n : ℕ) where
  pub rebuilt : (x : Shape) (j : ℕ) (rs fs : List ℕ) → (has_list x ≡ false → j ≡ 0) → fits p ts x ≡ true → (has_list x ≡ true → slice_get p.lists n ≡ Some fs) → AllBuilt r ts (sign x d) 0 (list_parts p.lists x) fs → AllBuilt r ts (sign x d) j (own_parts x) rs → Rebuilt p ts r d x (put n rs x)
  unfolding has_list list_parts own_parts put fits shape_tree built_at applied sign built_term built_int built_set built_field built_value built_formula
  rebuilt (s.Bound k) j rs fs nil h g u w =
      record { fits = refl; is = refl }
  rebuilt (s.FreeObject n) j rs fs nil h g u w =
      record { fits = h; is = refl }
  rebuilt s.Null j rs fs nil h g u w =
      record { fits = refl; is = refl }
  rebuilt (s.ReadObject a b) j rs fs nil h g u w =
      let w0 : AllBuilt r ts (sign (s.ReadObject a b) d) 0 (a ∷ b ∷ []) rs = subst (λ (q : ℕ). AllBuilt r ts (sign (s.ReadObject a b) d) q (a ∷ b ∷ []) rs) (nil refl) w in
      let a1 : IsBuilt r ts a pol.Both (slice_index rs 0) = first ts r (sign (s.ReadObject a b) d) 0 a (b ∷ []) rs w0 in
      let b1 : IsBuilt r ts b pol.Both (slice_index rs 1) = second ts r (sign (s.ReadObject a b) d) 0 a b ([]) rs w0 in
      record { fits = (both_true (field-fits ts r pol.Both a (slice_index rs 0) a1 (both-left (is_field (slice_get ts a)) (is_object (slice_get ts b)) h)) (object-fits ts r pol.Both b (slice_index rs 1) b1 (both-right (is_field (slice_get ts a)) (is_object (slice_get ts b)) h))); is = λ i. of_object (r.object ((t.read_object (field-is ts r pol.Both a (slice_index rs 0) a1 (both-left (is_field (slice_get ts a)) (is_object (slice_get ts b)) h) i) (object-is ts r pol.Both b (slice_index rs 1) b1 (both-right (is_field (slice_get ts a)) (is_object (slice_get ts b)) h) i)))) }
  rebuilt (s.Const z) j rs fs nil h g u w =
      record { fits = refl; is = refl }
  rebuilt (s.FreeNumber n) j rs fs nil h g u w =
      record { fits = h; is = refl }
  rebuilt (s.ReadNumber a b) j rs fs nil h g u w =
      let w0 : AllBuilt r ts (sign (s.ReadNumber a b) d) 0 (a ∷ b ∷ []) rs = subst (λ (q : ℕ). AllBuilt r ts (sign (s.ReadNumber a b) d) q (a ∷ b ∷ []) rs) (nil refl) w in
      let a1 : IsBuilt r ts a pol.Both (slice_index rs 0) = first ts r (sign (s.ReadNumber a b) d) 0 a (b ∷ []) rs w0 in
      let b1 : IsBuilt r ts b pol.Both (slice_index rs 1) = second ts r (sign (s.ReadNumber a b) d) 0 a b ([]) rs w0 in
      record { fits = (both_true (field-fits ts r pol.Both a (slice_index rs 0) a1 (both-left (is_field (slice_get ts a)) (is_object (slice_get ts b)) h)) (object-fits ts r pol.Both b (slice_index rs 1) b1 (both-right (is_field (slice_get ts a)) (is_object (slice_get ts b)) h))); is = λ i. of_number (r.number ((t.read_number (field-is ts r pol.Both a (slice_index rs 0) a1 (both-left (is_field (slice_get ts a)) (is_object (slice_get ts b)) h) i) (object-is ts r pol.Both b (slice_index rs 1) b1 (both-right (is_field (slice_get ts a)) (is_object (slice_get ts b)) h) i)))) }
  rebuilt (s.Add a b) j rs fs nil h g u w =
      let w0 : AllBuilt r ts (sign (s.Add a b) d) 0 (a ∷ b ∷ []) rs = subst (λ (q : ℕ). AllBuilt r ts (sign (s.Add a b) d) q (a ∷ b ∷ []) rs) (nil refl) w in
      let a1 : IsBuilt r ts a pol.Both (slice_index rs 0) = first ts r (sign (s.Add a b) d) 0 a (b ∷ []) rs w0 in
      let b1 : IsBuilt r ts b pol.Both (slice_index rs 1) = second ts r (sign (s.Add a b) d) 0 a b ([]) rs w0 in
      record { fits = (both_true (number-fits ts r pol.Both a (slice_index rs 0) a1 (both-left (is_number (slice_get ts a)) (is_number (slice_get ts b)) h)) (number-fits ts r pol.Both b (slice_index rs 1) b1 (both-right (is_number (slice_get ts a)) (is_number (slice_get ts b)) h))); is = λ i. of_number (r.number ((t.add (number-is ts r pol.Both a (slice_index rs 0) a1 (both-left (is_number (slice_get ts a)) (is_number (slice_get ts b)) h) i) (number-is ts r pol.Both b (slice_index rs 1) b1 (both-right (is_number (slice_get ts a)) (is_number (slice_get ts b)) h) i)))) }
  rebuilt (s.Sub a b) j rs fs nil h g u w =
      let w0 : AllBuilt r ts (sign (s.Sub a b) d) 0 (a ∷ b ∷ []) rs = subst (λ (q : ℕ). AllBuilt r ts (sign (s.Sub a b) d) q (a ∷ b ∷ []) rs) (nil refl) w in
      let a1 : IsBuilt r ts a pol.Both (slice_index rs 0) = first ts r (sign (s.Sub a b) d) 0 a (b ∷ []) rs w0 in
      let b1 : IsBuilt r ts b pol.Both (slice_index rs 1) = second ts r (sign (s.Sub a b) d) 0 a b ([]) rs w0 in
      record { fits = (both_true (number-fits ts r pol.Both a (slice_index rs 0) a1 (both-left (is_number (slice_get ts a)) (is_number (slice_get ts b)) h)) (number-fits ts r pol.Both b (slice_index rs 1) b1 (both-right (is_number (slice_get ts a)) (is_number (slice_get ts b)) h))); is = λ i. of_number (r.number ((t.sub (number-is ts r pol.Both a (slice_index rs 0) a1 (both-left (is_number (slice_get ts a)) (is_number (slice_get ts b)) h) i) (number-is ts r pol.Both b (slice_index rs 1) b1 (both-right (is_number (slice_get ts a)) (is_number (slice_get ts b)) h) i)))) }
  rebuilt (s.Neg a) j rs fs nil h g u w =
      let w0 : AllBuilt r ts (sign (s.Neg a) d) 0 (a ∷ []) rs = subst (λ (q : ℕ). AllBuilt r ts (sign (s.Neg a) d) q (a ∷ []) rs) (nil refl) w in
      let a1 : IsBuilt r ts a pol.Both (slice_index rs 0) = first ts r (sign (s.Neg a) d) 0 a ([]) rs w0 in
      record { fits = (number-fits ts r pol.Both a (slice_index rs 0) a1 h); is = λ i. of_number (r.number ((t.neg (number-is ts r pol.Both a (slice_index rs 0) a1 h i)))) }
  rebuilt (s.Scale z a) j rs fs nil h g u w =
      let w0 : AllBuilt r ts (sign (s.Scale z a) d) 0 (a ∷ []) rs = subst (λ (q : ℕ). AllBuilt r ts (sign (s.Scale z a) d) q (a ∷ []) rs) (nil refl) w in
      let a1 : IsBuilt r ts a pol.Both (slice_index rs 0) = first ts r (sign (s.Scale z a) d) 0 a ([]) rs w0 in
      record { fits = (number-fits ts r pol.Both a (slice_index rs 0) a1 h); is = λ i. of_number (r.number ((t.scale z (number-is ts r pol.Both a (slice_index rs 0) a1 h i)))) }
  rebuilt (s.Card a) j rs fs nil h g u w =
      let w0 : AllBuilt r ts (sign (s.Card a) d) 0 (a ∷ []) rs = subst (λ (q : ℕ). AllBuilt r ts (sign (s.Card a) d) q (a ∷ []) rs) (nil refl) w in
      let a1 : IsBuilt r ts a pol.Both (slice_index rs 0) = first ts r (sign (s.Card a) d) 0 a ([]) rs w0 in
      record { fits = (set-fits ts r pol.Both a (slice_index rs 0) a1 h); is = λ i. of_number (r.number ((t.card (set-is ts r pol.Both a (slice_index rs 0) a1 h i)))) }
  rebuilt (s.FreeSet n) j rs fs nil h g u w =
      record { fits = h; is = refl }
  rebuilt (s.ReadSet a b) j rs fs nil h g u w =
      let w0 : AllBuilt r ts (sign (s.ReadSet a b) d) 0 (a ∷ b ∷ []) rs = subst (λ (q : ℕ). AllBuilt r ts (sign (s.ReadSet a b) d) q (a ∷ b ∷ []) rs) (nil refl) w in
      let a1 : IsBuilt r ts a pol.Both (slice_index rs 0) = first ts r (sign (s.ReadSet a b) d) 0 a (b ∷ []) rs w0 in
      let b1 : IsBuilt r ts b pol.Both (slice_index rs 1) = second ts r (sign (s.ReadSet a b) d) 0 a b ([]) rs w0 in
      record { fits = (both_true (field-fits ts r pol.Both a (slice_index rs 0) a1 (both-left (is_field (slice_get ts a)) (is_object (slice_get ts b)) h)) (object-fits ts r pol.Both b (slice_index rs 1) b1 (both-right (is_field (slice_get ts a)) (is_object (slice_get ts b)) h))); is = λ i. of_set (r.set ((t.read_set (field-is ts r pol.Both a (slice_index rs 0) a1 (both-left (is_field (slice_get ts a)) (is_object (slice_get ts b)) h) i) (object-is ts r pol.Both b (slice_index rs 1) b1 (both-right (is_field (slice_get ts a)) (is_object (slice_get ts b)) h) i)))) }
  rebuilt s.Empty j rs fs nil h g u w =
      record { fits = refl; is = refl }
  rebuilt s.Univ j rs fs nil h g u w =
      record { fits = refl; is = refl }
  rebuilt (s.Single a) j rs fs nil h g u w =
      let w0 : AllBuilt r ts (sign (s.Single a) d) 0 (a ∷ []) rs = subst (λ (q : ℕ). AllBuilt r ts (sign (s.Single a) d) q (a ∷ []) rs) (nil refl) w in
      let a1 : IsBuilt r ts a pol.Both (slice_index rs 0) = first ts r (sign (s.Single a) d) 0 a ([]) rs w0 in
      record { fits = (object-fits ts r pol.Both a (slice_index rs 0) a1 h); is = λ i. of_set (r.set ((t.single (object-is ts r pol.Both a (slice_index rs 0) a1 h i)))) }
  rebuilt (s.Union a b) j rs fs nil h g u w =
      let w0 : AllBuilt r ts (sign (s.Union a b) d) 0 (a ∷ b ∷ []) rs = subst (λ (q : ℕ). AllBuilt r ts (sign (s.Union a b) d) q (a ∷ b ∷ []) rs) (nil refl) w in
      let a1 : IsBuilt r ts a pol.Both (slice_index rs 0) = first ts r (sign (s.Union a b) d) 0 a (b ∷ []) rs w0 in
      let b1 : IsBuilt r ts b pol.Both (slice_index rs 1) = second ts r (sign (s.Union a b) d) 0 a b ([]) rs w0 in
      record { fits = (both_true (set-fits ts r pol.Both a (slice_index rs 0) a1 (both-left (is_set (slice_get ts a)) (is_set (slice_get ts b)) h)) (set-fits ts r pol.Both b (slice_index rs 1) b1 (both-right (is_set (slice_get ts a)) (is_set (slice_get ts b)) h))); is = λ i. of_set (r.set ((t.union (set-is ts r pol.Both a (slice_index rs 0) a1 (both-left (is_set (slice_get ts a)) (is_set (slice_get ts b)) h) i) (set-is ts r pol.Both b (slice_index rs 1) b1 (both-right (is_set (slice_get ts a)) (is_set (slice_get ts b)) h) i)))) }
  rebuilt (s.Inter a b) j rs fs nil h g u w =
      let w0 : AllBuilt r ts (sign (s.Inter a b) d) 0 (a ∷ b ∷ []) rs = subst (λ (q : ℕ). AllBuilt r ts (sign (s.Inter a b) d) q (a ∷ b ∷ []) rs) (nil refl) w in
      let a1 : IsBuilt r ts a pol.Both (slice_index rs 0) = first ts r (sign (s.Inter a b) d) 0 a (b ∷ []) rs w0 in
      let b1 : IsBuilt r ts b pol.Both (slice_index rs 1) = second ts r (sign (s.Inter a b) d) 0 a b ([]) rs w0 in
      record { fits = (both_true (set-fits ts r pol.Both a (slice_index rs 0) a1 (both-left (is_set (slice_get ts a)) (is_set (slice_get ts b)) h)) (set-fits ts r pol.Both b (slice_index rs 1) b1 (both-right (is_set (slice_get ts a)) (is_set (slice_get ts b)) h))); is = λ i. of_set (r.set ((t.inter (set-is ts r pol.Both a (slice_index rs 0) a1 (both-left (is_set (slice_get ts a)) (is_set (slice_get ts b)) h) i) (set-is ts r pol.Both b (slice_index rs 1) b1 (both-right (is_set (slice_get ts a)) (is_set (slice_get ts b)) h) i)))) }
  rebuilt (s.Diff a b) j rs fs nil h g u w =
      let w0 : AllBuilt r ts (sign (s.Diff a b) d) 0 (a ∷ b ∷ []) rs = subst (λ (q : ℕ). AllBuilt r ts (sign (s.Diff a b) d) q (a ∷ b ∷ []) rs) (nil refl) w in
      let a1 : IsBuilt r ts a pol.Both (slice_index rs 0) = first ts r (sign (s.Diff a b) d) 0 a (b ∷ []) rs w0 in
      let b1 : IsBuilt r ts b pol.Both (slice_index rs 1) = second ts r (sign (s.Diff a b) d) 0 a b ([]) rs w0 in
      record { fits = (both_true (set-fits ts r pol.Both a (slice_index rs 0) a1 (both-left (is_set (slice_get ts a)) (is_set (slice_get ts b)) h)) (set-fits ts r pol.Both b (slice_index rs 1) b1 (both-right (is_set (slice_get ts a)) (is_set (slice_get ts b)) h))); is = λ i. of_set (r.set ((t.diff (set-is ts r pol.Both a (slice_index rs 0) a1 (both-left (is_set (slice_get ts a)) (is_set (slice_get ts b)) h) i) (set-is ts r pol.Both b (slice_index rs 1) b1 (both-right (is_set (slice_get ts a)) (is_set (slice_get ts b)) h) i)))) }
  rebuilt (s.Compl a) j rs fs nil h g u w =
      let w0 : AllBuilt r ts (sign (s.Compl a) d) 0 (a ∷ []) rs = subst (λ (q : ℕ). AllBuilt r ts (sign (s.Compl a) d) q (a ∷ []) rs) (nil refl) w in
      let a1 : IsBuilt r ts a pol.Both (slice_index rs 0) = first ts r (sign (s.Compl a) d) 0 a ([]) rs w0 in
      record { fits = (set-fits ts r pol.Both a (slice_index rs 0) a1 h); is = λ i. of_set (r.set ((t.compl (set-is ts r pol.Both a (slice_index rs 0) a1 h i)))) }
  rebuilt (s.Compr a) j rs fs nil h g u w =
      let w0 : AllBuilt r ts (sign (s.Compr a) d) 0 (a ∷ []) rs = subst (λ (q : ℕ). AllBuilt r ts (sign (s.Compr a) d) q (a ∷ []) rs) (nil refl) w in
      let a1 : IsBuilt r ts a pol.Both (slice_index rs 0) = first ts r (sign (s.Compr a) d) 0 a ([]) rs w0 in
      record { fits = (truth-fits ts r pol.Both a (slice_index rs 0) a1 h); is = λ i. of_set (r.set ((t.compr (truth-is ts r pol.Both a (slice_index rs 0) a1 h i)))) }
  rebuilt (s.FreeField n) j rs fs nil h g u w =
      record { fits = h; is = refl }
  rebuilt (s.Update a b c) j rs fs nil h g u w =
      let w0 : AllBuilt r ts (sign (s.Update a b c) d) 0 (a ∷ b ∷ c ∷ []) rs = subst (λ (q : ℕ). AllBuilt r ts (sign (s.Update a b c) d) q (a ∷ b ∷ c ∷ []) rs) (nil refl) w in
      let a1 : IsBuilt r ts a pol.Both (slice_index rs 0) = first ts r (sign (s.Update a b c) d) 0 a (b ∷ c ∷ []) rs w0 in
      let b1 : IsBuilt r ts b pol.Both (slice_index rs 1) = second ts r (sign (s.Update a b c) d) 0 a b (c ∷ []) rs w0 in
      let c1 : IsBuilt r ts c pol.Both (slice_index rs 2) = third ts r (sign (s.Update a b c) d) 0 a b c ([]) rs w0 in
      record { fits = (both_true (both_true (field-fits ts r pol.Both a (slice_index rs 0) a1 (both-left (is_field (slice_get ts a)) (is_object (slice_get ts b)) (both-left (is_field (slice_get ts a) && is_object (slice_get ts b)) (is_some (slice_get ts c)) h))) (object-fits ts r pol.Both b (slice_index rs 1) b1 (both-right (is_field (slice_get ts a)) (is_object (slice_get ts b)) (both-left (is_field (slice_get ts a) && is_object (slice_get ts b)) (is_some (slice_get ts c)) h)))) (built-there ts r pol.Both c (slice_index rs 2) c1)); is = λ i. of_field (r.field ((t.update (field-is ts r pol.Both a (slice_index rs 0) a1 (both-left (is_field (slice_get ts a)) (is_object (slice_get ts b)) (both-left (is_field (slice_get ts a) && is_object (slice_get ts b)) (is_some (slice_get ts c)) h)) i) (object-is ts r pol.Both b (slice_index rs 1) b1 (both-right (is_field (slice_get ts a)) (is_object (slice_get ts b)) (both-left (is_field (slice_get ts a) && is_object (slice_get ts b)) (is_some (slice_get ts c)) h)) i) (value-is ts r c (slice_index rs 2) c1 i)))) }
  rebuilt s.True j rs fs nil h g u w =
      record { fits = refl; is = refl }
  rebuilt s.False j rs fs nil h g u w =
      record { fits = refl; is = refl }
  rebuilt (s.FreeTruth n) j rs fs nil h g u w =
      record { fits = h; is = refl }
  rebuilt (s.ReadTruth a b) j rs fs nil h g u w =
      let w0 : AllBuilt r ts (sign (s.ReadTruth a b) d) 0 (a ∷ b ∷ []) rs = subst (λ (q : ℕ). AllBuilt r ts (sign (s.ReadTruth a b) d) q (a ∷ b ∷ []) rs) (nil refl) w in
      let a1 : IsBuilt r ts a pol.Both (slice_index rs 0) = first ts r (sign (s.ReadTruth a b) d) 0 a (b ∷ []) rs w0 in
      let b1 : IsBuilt r ts b pol.Both (slice_index rs 1) = second ts r (sign (s.ReadTruth a b) d) 0 a b ([]) rs w0 in
      record { fits = (both_true (field-fits ts r pol.Both a (slice_index rs 0) a1 (both-left (is_field (slice_get ts a)) (is_object (slice_get ts b)) h)) (object-fits ts r pol.Both b (slice_index rs 1) b1 (both-right (is_field (slice_get ts a)) (is_object (slice_get ts b)) h))); is = λ i. of_truth (r.truth ((t.read_truth (field-is ts r pol.Both a (slice_index rs 0) a1 (both-left (is_field (slice_get ts a)) (is_object (slice_get ts b)) h) i) (object-is ts r pol.Both b (slice_index rs 1) b1 (both-right (is_field (slice_get ts a)) (is_object (slice_get ts b)) h) i))) d) }
  rebuilt (s.Negation a) j rs fs nil h g u w =
      let w0 : AllBuilt r ts (sign (s.Negation a) d) 0 (a ∷ []) rs = subst (λ (q : ℕ). AllBuilt r ts (sign (s.Negation a) d) q (a ∷ []) rs) (nil refl) w in
      let a1 : IsBuilt r ts a (turned d) (slice_index rs 0) = first ts r (sign (s.Negation a) d) 0 a ([]) rs w0 in
      record { fits = (truth-fits ts r (turned d) a (slice_index rs 0) a1 h); is = λ i. of_truth (r.truth ((t.negation (truth-is ts r (turned d) a (slice_index rs 0) a1 h i))) d) }
  rebuilt (s.And a b) j rs fs nil h g u w =
      let w0 : AllBuilt r ts (sign (s.And a b) d) 0 (a ∷ b ∷ []) rs = subst (λ (q : ℕ). AllBuilt r ts (sign (s.And a b) d) q (a ∷ b ∷ []) rs) (nil refl) w in
      let a1 : IsBuilt r ts a d (slice_index rs 0) = first ts r (sign (s.And a b) d) 0 a (b ∷ []) rs w0 in
      let b1 : IsBuilt r ts b d (slice_index rs 1) = second ts r (sign (s.And a b) d) 0 a b ([]) rs w0 in
      record { fits = (both_true (truth-fits ts r d a (slice_index rs 0) a1 (both-left (is_truth (slice_get ts a)) (is_truth (slice_get ts b)) h)) (truth-fits ts r d b (slice_index rs 1) b1 (both-right (is_truth (slice_get ts a)) (is_truth (slice_get ts b)) h))); is = λ i. of_truth (r.truth ((t.and (truth-is ts r d a (slice_index rs 0) a1 (both-left (is_truth (slice_get ts a)) (is_truth (slice_get ts b)) h) i) (truth-is ts r d b (slice_index rs 1) b1 (both-right (is_truth (slice_get ts a)) (is_truth (slice_get ts b)) h) i))) d) }
  rebuilt (s.Or a b) j rs fs nil h g u w =
      let w0 : AllBuilt r ts (sign (s.Or a b) d) 0 (a ∷ b ∷ []) rs = subst (λ (q : ℕ). AllBuilt r ts (sign (s.Or a b) d) q (a ∷ b ∷ []) rs) (nil refl) w in
      let a1 : IsBuilt r ts a d (slice_index rs 0) = first ts r (sign (s.Or a b) d) 0 a (b ∷ []) rs w0 in
      let b1 : IsBuilt r ts b d (slice_index rs 1) = second ts r (sign (s.Or a b) d) 0 a b ([]) rs w0 in
      record { fits = (both_true (truth-fits ts r d a (slice_index rs 0) a1 (both-left (is_truth (slice_get ts a)) (is_truth (slice_get ts b)) h)) (truth-fits ts r d b (slice_index rs 1) b1 (both-right (is_truth (slice_get ts a)) (is_truth (slice_get ts b)) h))); is = λ i. of_truth (r.truth ((t.or (truth-is ts r d a (slice_index rs 0) a1 (both-left (is_truth (slice_get ts a)) (is_truth (slice_get ts b)) h) i) (truth-is ts r d b (slice_index rs 1) b1 (both-right (is_truth (slice_get ts a)) (is_truth (slice_get ts b)) h) i))) d) }
  rebuilt (s.Implies a b) j rs fs nil h g u w =
      let w0 : AllBuilt r ts (sign (s.Implies a b) d) 0 (a ∷ b ∷ []) rs = subst (λ (q : ℕ). AllBuilt r ts (sign (s.Implies a b) d) q (a ∷ b ∷ []) rs) (nil refl) w in
      let a1 : IsBuilt r ts a (turned d) (slice_index rs 0) = first ts r (sign (s.Implies a b) d) 0 a (b ∷ []) rs w0 in
      let b1 : IsBuilt r ts b d (slice_index rs 1) = second ts r (sign (s.Implies a b) d) 0 a b ([]) rs w0 in
      record { fits = (both_true (truth-fits ts r (turned d) a (slice_index rs 0) a1 (both-left (is_truth (slice_get ts a)) (is_truth (slice_get ts b)) h)) (truth-fits ts r d b (slice_index rs 1) b1 (both-right (is_truth (slice_get ts a)) (is_truth (slice_get ts b)) h))); is = λ i. of_truth (r.truth ((t.implies (truth-is ts r (turned d) a (slice_index rs 0) a1 (both-left (is_truth (slice_get ts a)) (is_truth (slice_get ts b)) h) i) (truth-is ts r d b (slice_index rs 1) b1 (both-right (is_truth (slice_get ts a)) (is_truth (slice_get ts b)) h) i))) d) }
  rebuilt (s.Iff a b) j rs fs nil h g u w =
      let w0 : AllBuilt r ts (sign (s.Iff a b) d) 0 (a ∷ b ∷ []) rs = subst (λ (q : ℕ). AllBuilt r ts (sign (s.Iff a b) d) q (a ∷ b ∷ []) rs) (nil refl) w in
      let a1 : IsBuilt r ts a pol.Both (slice_index rs 0) = first ts r (sign (s.Iff a b) d) 0 a (b ∷ []) rs w0 in
      let b1 : IsBuilt r ts b pol.Both (slice_index rs 1) = second ts r (sign (s.Iff a b) d) 0 a b ([]) rs w0 in
      record { fits = (both_true (truth-fits ts r pol.Both a (slice_index rs 0) a1 (both-left (is_truth (slice_get ts a)) (is_truth (slice_get ts b)) h)) (truth-fits ts r pol.Both b (slice_index rs 1) b1 (both-right (is_truth (slice_get ts a)) (is_truth (slice_get ts b)) h))); is = λ i. of_truth (r.truth ((t.iff (truth-is ts r pol.Both a (slice_index rs 0) a1 (both-left (is_truth (slice_get ts a)) (is_truth (slice_get ts b)) h) i) (truth-is ts r pol.Both b (slice_index rs 1) b1 (both-right (is_truth (slice_get ts a)) (is_truth (slice_get ts b)) h) i))) d) }
  rebuilt (s.All a) j rs fs nil h g u w =
      let w0 : AllBuilt r ts (sign (s.All a) d) 0 (a ∷ []) rs = subst (λ (q : ℕ). AllBuilt r ts (sign (s.All a) d) q (a ∷ []) rs) (nil refl) w in
      let a1 : IsBuilt r ts a d (slice_index rs 0) = first ts r (sign (s.All a) d) 0 a ([]) rs w0 in
      record { fits = (truth-fits ts r d a (slice_index rs 0) a1 h); is = λ i. of_truth (r.truth ((t.all (truth-is ts r d a (slice_index rs 0) a1 h i))) d) }
  rebuilt (s.Ex a) j rs fs nil h g u w =
      let w0 : AllBuilt r ts (sign (s.Ex a) d) 0 (a ∷ []) rs = subst (λ (q : ℕ). AllBuilt r ts (sign (s.Ex a) d) q (a ∷ []) rs) (nil refl) w in
      let a1 : IsBuilt r ts a d (slice_index rs 0) = first ts r (sign (s.Ex a) d) 0 a ([]) rs w0 in
      record { fits = (truth-fits ts r d a (slice_index rs 0) a1 h); is = λ i. of_truth (r.truth ((t.ex (truth-is ts r d a (slice_index rs 0) a1 h i))) d) }
  rebuilt (s.EqObject a b) j rs fs nil h g u w =
      let w0 : AllBuilt r ts (sign (s.EqObject a b) d) 0 (a ∷ b ∷ []) rs = subst (λ (q : ℕ). AllBuilt r ts (sign (s.EqObject a b) d) q (a ∷ b ∷ []) rs) (nil refl) w in
      let a1 : IsBuilt r ts a pol.Both (slice_index rs 0) = first ts r (sign (s.EqObject a b) d) 0 a (b ∷ []) rs w0 in
      let b1 : IsBuilt r ts b pol.Both (slice_index rs 1) = second ts r (sign (s.EqObject a b) d) 0 a b ([]) rs w0 in
      record { fits = (both_true (object-fits ts r pol.Both a (slice_index rs 0) a1 (both-left (is_object (slice_get ts a)) (is_object (slice_get ts b)) h)) (object-fits ts r pol.Both b (slice_index rs 1) b1 (both-right (is_object (slice_get ts a)) (is_object (slice_get ts b)) h))); is = λ i. of_truth (r.truth ((t.eq_object (object-is ts r pol.Both a (slice_index rs 0) a1 (both-left (is_object (slice_get ts a)) (is_object (slice_get ts b)) h) i) (object-is ts r pol.Both b (slice_index rs 1) b1 (both-right (is_object (slice_get ts a)) (is_object (slice_get ts b)) h) i))) d) }
  rebuilt (s.EqNumber a b) j rs fs nil h g u w =
      let w0 : AllBuilt r ts (sign (s.EqNumber a b) d) 0 (a ∷ b ∷ []) rs = subst (λ (q : ℕ). AllBuilt r ts (sign (s.EqNumber a b) d) q (a ∷ b ∷ []) rs) (nil refl) w in
      let a1 : IsBuilt r ts a pol.Both (slice_index rs 0) = first ts r (sign (s.EqNumber a b) d) 0 a (b ∷ []) rs w0 in
      let b1 : IsBuilt r ts b pol.Both (slice_index rs 1) = second ts r (sign (s.EqNumber a b) d) 0 a b ([]) rs w0 in
      record { fits = (both_true (number-fits ts r pol.Both a (slice_index rs 0) a1 (both-left (is_number (slice_get ts a)) (is_number (slice_get ts b)) h)) (number-fits ts r pol.Both b (slice_index rs 1) b1 (both-right (is_number (slice_get ts a)) (is_number (slice_get ts b)) h))); is = λ i. of_truth (r.truth ((t.eq_number (number-is ts r pol.Both a (slice_index rs 0) a1 (both-left (is_number (slice_get ts a)) (is_number (slice_get ts b)) h) i) (number-is ts r pol.Both b (slice_index rs 1) b1 (both-right (is_number (slice_get ts a)) (is_number (slice_get ts b)) h) i))) d) }
  rebuilt (s.EqSet a b) j rs fs nil h g u w =
      let w0 : AllBuilt r ts (sign (s.EqSet a b) d) 0 (a ∷ b ∷ []) rs = subst (λ (q : ℕ). AllBuilt r ts (sign (s.EqSet a b) d) q (a ∷ b ∷ []) rs) (nil refl) w in
      let a1 : IsBuilt r ts a pol.Both (slice_index rs 0) = first ts r (sign (s.EqSet a b) d) 0 a (b ∷ []) rs w0 in
      let b1 : IsBuilt r ts b pol.Both (slice_index rs 1) = second ts r (sign (s.EqSet a b) d) 0 a b ([]) rs w0 in
      record { fits = (both_true (set-fits ts r pol.Both a (slice_index rs 0) a1 (both-left (is_set (slice_get ts a)) (is_set (slice_get ts b)) h)) (set-fits ts r pol.Both b (slice_index rs 1) b1 (both-right (is_set (slice_get ts a)) (is_set (slice_get ts b)) h))); is = λ i. of_truth (r.truth ((t.eq_set (set-is ts r pol.Both a (slice_index rs 0) a1 (both-left (is_set (slice_get ts a)) (is_set (slice_get ts b)) h) i) (set-is ts r pol.Both b (slice_index rs 1) b1 (both-right (is_set (slice_get ts a)) (is_set (slice_get ts b)) h) i))) d) }
  rebuilt (s.Less a b) j rs fs nil h g u w =
      let w0 : AllBuilt r ts (sign (s.Less a b) d) 0 (a ∷ b ∷ []) rs = subst (λ (q : ℕ). AllBuilt r ts (sign (s.Less a b) d) q (a ∷ b ∷ []) rs) (nil refl) w in
      let a1 : IsBuilt r ts a pol.Both (slice_index rs 0) = first ts r (sign (s.Less a b) d) 0 a (b ∷ []) rs w0 in
      let b1 : IsBuilt r ts b pol.Both (slice_index rs 1) = second ts r (sign (s.Less a b) d) 0 a b ([]) rs w0 in
      record { fits = (both_true (number-fits ts r pol.Both a (slice_index rs 0) a1 (both-left (is_number (slice_get ts a)) (is_number (slice_get ts b)) h)) (number-fits ts r pol.Both b (slice_index rs 1) b1 (both-right (is_number (slice_get ts a)) (is_number (slice_get ts b)) h))); is = λ i. of_truth (r.truth ((t.less (number-is ts r pol.Both a (slice_index rs 0) a1 (both-left (is_number (slice_get ts a)) (is_number (slice_get ts b)) h) i) (number-is ts r pol.Both b (slice_index rs 1) b1 (both-right (is_number (slice_get ts a)) (is_number (slice_get ts b)) h) i))) d) }
  rebuilt (s.LessEqual a b) j rs fs nil h g u w =
      let w0 : AllBuilt r ts (sign (s.LessEqual a b) d) 0 (a ∷ b ∷ []) rs = subst (λ (q : ℕ). AllBuilt r ts (sign (s.LessEqual a b) d) q (a ∷ b ∷ []) rs) (nil refl) w in
      let a1 : IsBuilt r ts a pol.Both (slice_index rs 0) = first ts r (sign (s.LessEqual a b) d) 0 a (b ∷ []) rs w0 in
      let b1 : IsBuilt r ts b pol.Both (slice_index rs 1) = second ts r (sign (s.LessEqual a b) d) 0 a b ([]) rs w0 in
      record { fits = (both_true (number-fits ts r pol.Both a (slice_index rs 0) a1 (both-left (is_number (slice_get ts a)) (is_number (slice_get ts b)) h)) (number-fits ts r pol.Both b (slice_index rs 1) b1 (both-right (is_number (slice_get ts a)) (is_number (slice_get ts b)) h))); is = λ i. of_truth (r.truth ((t.less_equal (number-is ts r pol.Both a (slice_index rs 0) a1 (both-left (is_number (slice_get ts a)) (is_number (slice_get ts b)) h) i) (number-is ts r pol.Both b (slice_index rs 1) b1 (both-right (is_number (slice_get ts a)) (is_number (slice_get ts b)) h) i))) d) }
  rebuilt (s.Divides z a) j rs fs nil h g u w =
      let w0 : AllBuilt r ts (sign (s.Divides z a) d) 0 (a ∷ []) rs = subst (λ (q : ℕ). AllBuilt r ts (sign (s.Divides z a) d) q (a ∷ []) rs) (nil refl) w in
      let a1 : IsBuilt r ts a pol.Both (slice_index rs 0) = first ts r (sign (s.Divides z a) d) 0 a ([]) rs w0 in
      record { fits = (number-fits ts r pol.Both a (slice_index rs 0) a1 h); is = λ i. of_truth (r.truth ((t.divides z (number-is ts r pol.Both a (slice_index rs 0) a1 h i))) d) }
  rebuilt (s.Member a b) j rs fs nil h g u w =
      let w0 : AllBuilt r ts (sign (s.Member a b) d) 0 (a ∷ b ∷ []) rs = subst (λ (q : ℕ). AllBuilt r ts (sign (s.Member a b) d) q (a ∷ b ∷ []) rs) (nil refl) w in
      let a1 : IsBuilt r ts a pol.Both (slice_index rs 0) = first ts r (sign (s.Member a b) d) 0 a (b ∷ []) rs w0 in
      let b1 : IsBuilt r ts b pol.Both (slice_index rs 1) = second ts r (sign (s.Member a b) d) 0 a b ([]) rs w0 in
      record { fits = (both_true (object-fits ts r pol.Both a (slice_index rs 0) a1 (both-left (is_object (slice_get ts a)) (is_set (slice_get ts b)) h)) (set-fits ts r pol.Both b (slice_index rs 1) b1 (both-right (is_object (slice_get ts a)) (is_set (slice_get ts b)) h))); is = λ i. of_truth (r.truth ((t.member (object-is ts r pol.Both a (slice_index rs 0) a1 (both-left (is_object (slice_get ts a)) (is_set (slice_get ts b)) h) i) (set-is ts r pol.Both b (slice_index rs 1) b1 (both-right (is_object (slice_get ts a)) (is_set (slice_get ts b)) h) i))) d) }
  rebuilt (s.Subset a b) j rs fs nil h g u w =
      let w0 : AllBuilt r ts (sign (s.Subset a b) d) 0 (a ∷ b ∷ []) rs = subst (λ (q : ℕ). AllBuilt r ts (sign (s.Subset a b) d) q (a ∷ b ∷ []) rs) (nil refl) w in
      let a1 : IsBuilt r ts a pol.Both (slice_index rs 0) = first ts r (sign (s.Subset a b) d) 0 a (b ∷ []) rs w0 in
      let b1 : IsBuilt r ts b pol.Both (slice_index rs 1) = second ts r (sign (s.Subset a b) d) 0 a b ([]) rs w0 in
      record { fits = (both_true (set-fits ts r pol.Both a (slice_index rs 0) a1 (both-left (is_set (slice_get ts a)) (is_set (slice_get ts b)) h)) (set-fits ts r pol.Both b (slice_index rs 1) b1 (both-right (is_set (slice_get ts a)) (is_set (slice_get ts b)) h))); is = λ i. of_truth (r.truth ((t.subset (set-is ts r pol.Both a (slice_index rs 0) a1 (both-left (is_set (slice_get ts a)) (is_set (slice_get ts b)) h) i) (set-is ts r pol.Both b (slice_index rs 1) b1 (both-right (is_set (slice_get ts a)) (is_set (slice_get ts b)) h) i))) d) }
  rebuilt (s.Reach l a b) j rs fs nil h g u w =
      let a1 : IsBuilt r ts a pol.Both (slice_index rs 0) = first ts r (sign (s.Reach l a b) d) j a (b ∷ []) rs w in
      let b1 : IsBuilt r ts b pol.Both (slice_index rs 1) = second ts r (sign (s.Reach l a b) d) j a b ([]) rs w in
      record { fits = (both_true (both_true (both_true (ap is_some (g refl)) (fields-fit ts r p n fs (the_list (slice_get p.lists l)) (g refl) u (both-right (is_some (slice_get p.lists l)) (are_fields ts (the_list (slice_get p.lists l))) (both-left (is_some (slice_get p.lists l) && are_fields ts (the_list (slice_get p.lists l))) (is_object (slice_get ts a)) (both-left (is_some (slice_get p.lists l) && are_fields ts (the_list (slice_get p.lists l)) && is_object (slice_get ts a)) (is_object (slice_get ts b)) h))))) (object-fits ts r pol.Both a (slice_index rs 0) a1 (both-right (is_some (slice_get p.lists l) && are_fields ts (the_list (slice_get p.lists l))) (is_object (slice_get ts a)) (both-left (is_some (slice_get p.lists l) && are_fields ts (the_list (slice_get p.lists l)) && is_object (slice_get ts a)) (is_object (slice_get ts b)) h)))) (object-fits ts r pol.Both b (slice_index rs 1) b1 (both-right (is_some (slice_get p.lists l) && are_fields ts (the_list (slice_get p.lists l)) && is_object (slice_get ts a)) (is_object (slice_get ts b)) h))); is = λ i. of_truth (r.truth ((t.reach (fields-are ts r p n fs (the_list (slice_get p.lists l)) (g refl) u (both-right (is_some (slice_get p.lists l)) (are_fields ts (the_list (slice_get p.lists l))) (both-left (is_some (slice_get p.lists l) && are_fields ts (the_list (slice_get p.lists l))) (is_object (slice_get ts a)) (both-left (is_some (slice_get p.lists l) && are_fields ts (the_list (slice_get p.lists l)) && is_object (slice_get ts a)) (is_object (slice_get ts b)) h))) i) (object-is ts r pol.Both a (slice_index rs 0) a1 (both-right (is_some (slice_get p.lists l) && are_fields ts (the_list (slice_get p.lists l))) (is_object (slice_get ts a)) (both-left (is_some (slice_get p.lists l) && are_fields ts (the_list (slice_get p.lists l)) && is_object (slice_get ts a)) (is_object (slice_get ts b)) h)) i) (object-is ts r pol.Both b (slice_index rs 1) b1 (both-right (is_some (slice_get p.lists l) && are_fields ts (the_list (slice_get p.lists l)) && is_object (slice_get ts a)) (is_object (slice_get ts b)) h) i))) d) }
  rebuilt (s.Tree l) j rs fs nil h g u w =
      record { fits = (both_true (ap is_some (g refl)) (fields-fit ts r p n fs (the_list (slice_get p.lists l)) (g refl) u (both-right (is_some (slice_get p.lists l)) (are_fields ts (the_list (slice_get p.lists l))) h))); is = λ i. of_truth (r.truth ((t.tree (fields-are ts r p n fs (the_list (slice_get p.lists l)) (g refl) u (both-right (is_some (slice_get p.lists l)) (are_fields ts (the_list (slice_get p.lists l))) h) i))) d) }
  rebuilt (s.Mark m a) j rs fs nil h g u w =
      let w0 : AllBuilt r ts (sign (s.Mark m a) d) 0 (a ∷ []) rs = subst (λ (q : ℕ). AllBuilt r ts (sign (s.Mark m a) d) q (a ∷ []) rs) (nil refl) w in
      let a1 : IsBuilt r ts a d (slice_index rs 0) = first ts r (sign (s.Mark m a) d) 0 a ([]) rs w0 in
      record { fits = (both_true (both-left (is_some (slice_get p.marks m)) (is_truth (slice_get ts a)) h) (truth-fits ts r d a (slice_index rs 0) a1 (both-right (is_some (slice_get p.marks m)) (is_truth (slice_get ts a)) h))); is = λ i. of_truth (r.truth ((t.mark (the_mark (slice_get p.marks m)) (truth-is ts r d a (slice_index rs 0) a1 (both-right (is_some (slice_get p.marks m)) (is_truth (slice_get ts a)) h) i))) d) }
