-- The free names of a shape's tree pass a test exactly where its own does and those of its parts do.
use Rattle.jh_arena.specs.table.Facing.{own_passes, all_pass}
use Rattle.std.proofs.Common.{◌≡◌, refl, sym, ap, ◌∙◌, ℕ, ◌<◌, Bool, true, false, ◌&&◌, List, [], ◌∷◌, ◌++◌, length, slice_get, Option, Some, None, is_some}
use Rattle.std.proofs.Math.Bool.{and-true}
use Rattle.std.proofs.lemmas.Bool.{true≢false}
use Rattle.std.proofs.lemmas.Option.{slice_get_within}
use Rattle.jh_boxed.specs.jh_name.declared.naming.Name.{Name}
use Rattle.jh_boxed.specs.jh_name.declared.place.Sort as place
use Rattle.jh_boxed.specs.jh_name.declared.place.Sort.TheVariants as Sort
use Rattle.jh_form.specs.Tree.{ValueTree, of_object, of_number, of_truth, of_set, of_field}
use Rattle.jh_form.specs.Passing.{term_passes, int_passes, set_passes, field_passes, value_passes, formula_passes, fields_passes}
use Rattle.jh_form.proofs.ClosedLemmas.{both-left, both-right}
use Rattle.jh_arena.specs.table.Entries.{Pools, the_name, the_list, is_object, is_number, is_truth, is_set, is_field, the_object, the_number, the_truth, the_set, the_field, the_value, are_fields, fields_at}
use Rattle.jh_arena.specs.table.Nodes.{fits, shape_tree}
use Rattle.jh_arena.specs.table.Parts.{parts, own_parts, list_parts}
use Rattle.jh_arena.specs.declared.table.shapes.Shape.{Shape}
use Rattle.jh_arena.specs.declared.table.shapes.Shape.TheVariants as s

one-pass : (a va : Bool) → a ≡ va → a ≡ (va && true)
one-pass a va e = e ∙ sym (and-true va)

two-pass : (a b va vb : Bool) → a ≡ va → b ≡ vb → (a && b) ≡ (va && (vb && true))
two-pass a b va vb e f = (λ i. e i && f i) ∙ ap (λ z. va && z) (sym (and-true vb))

regroup : (a b c : Bool) → ((a && b) && c) ≡ (a && (b && (c && true)))
regroup true b c = ap (λ z. b && z) (sym (and-true c))
regroup false b c = refl

three-pass : (a b c va vb vc : Bool) → a ≡ va → b ≡ vb → c ≡ vc → ((a && b) && c) ≡ (va && (vb && (vc && true)))
three-pass a b c va vb vc e f g = (λ i. (e i && f i) && g i) ∙ regroup va vb vc

and_assoc : (a b c : Bool) → (a && (b && c)) ≡ ((a && b) && c)
and_assoc true b c = refl
and_assoc false b c = refl

pub all_pass-append : (q : Name → place.Sort → Bool) (ts : List ValueTree) (xs ys : List ℕ) → all_pass q ts (xs ++ ys) ≡ (all_pass q ts xs && all_pass q ts ys)
all_pass-append q ts [] ys = refl
all_pass-append q ts (x ∷ xs) ys =
    ap (λ z. value_passes (the_value (slice_get ts x)) q && z) (all_pass-append q ts xs ys)
    ∙ and_assoc (value_passes (the_value (slice_get ts x)) q) (all_pass q ts xs) (all_pass q ts ys)

object-passes : (q : Name → place.Sort → Bool) (o : Option ValueTree) → is_object o ≡ true → term_passes (the_object o) q ≡ value_passes (the_value o) q
unfolding is_object the_object the_value value_passes
object-passes q (Some (of_object a)) h = refl
object-passes q _ h = absurd (true≢false (sym h))

number-passes : (q : Name → place.Sort → Bool) (o : Option ValueTree) → is_number o ≡ true → int_passes (the_number o) q ≡ value_passes (the_value o) q
unfolding is_number the_number the_value value_passes
number-passes q (Some (of_number a)) h = refl
number-passes q _ h = absurd (true≢false (sym h))

pub truth-passes : (q : Name → place.Sort → Bool) (o : Option ValueTree) → is_truth o ≡ true → formula_passes (the_truth o) q ≡ value_passes (the_value o) q
unfolding is_truth the_truth the_value value_passes
truth-passes q (Some (of_truth a)) h = refl
truth-passes q _ h = absurd (true≢false (sym h))

set-passes : (q : Name → place.Sort → Bool) (o : Option ValueTree) → is_set o ≡ true → set_passes (the_set o) q ≡ value_passes (the_value o) q
unfolding is_set the_set the_value value_passes
set-passes q (Some (of_set a)) h = refl
set-passes q _ h = absurd (true≢false (sym h))

field-passes : (q : Name → place.Sort → Bool) (o : Option ValueTree) → is_field o ≡ true → field_passes (the_field o) q ≡ value_passes (the_value o) q
unfolding is_field the_field the_value value_passes
field-passes q (Some (of_field a)) h = refl
field-passes q _ h = absurd (true≢false (sym h))

fields-pass : (q : Name → place.Sort → Bool) (ts : List ValueTree) (ns : List ℕ) → are_fields ts ns ≡ true → fields_passes (fields_at ts ns) q ≡ all_pass q ts ns
unfolding are_fields fields_at fields_passes
fields-pass q ts [] h = refl
fields-pass q ts (n ∷ ns) h = λ i.
    field-passes q (slice_get ts n) (both-left (is_field (slice_get ts n)) (are_fields ts ns) h) i
    && fields-pass q ts ns (both-right (is_field (slice_get ts n)) (are_fields ts ns) h) i

some-name : (xs : List Name) (n : ℕ) (o : Option Name) → slice_get xs n ≡ o → is_some o ≡ true → n < length xs
some-name xs n (Some v) e h = slice_get_within xs n v e
some-name xs n None e h = absurd (true≢false (sym h))

name-within : (xs : List Name) (n : ℕ) → is_some (slice_get xs n) ≡ true → n < length xs
name-within xs n h = some-name xs n (slice_get xs n) refl h

module _ (p : Pools) (ts : List ValueTree) (q : Name → place.Sort → Bool) where
  pub passes-shape : (x : Shape) → fits p ts x ≡ true → value_passes (shape_tree p ts x) q ≡ (own_passes p x q && all_pass q ts (parts p.lists x))
  unfolding own_passes fits shape_tree list_parts own_parts term_passes int_passes set_passes field_passes value_passes formula_passes
  passes-shape (s.Bound k) h = refl
  passes-shape (s.FreeObject x) h = sym (and-true (q (the_name (slice_get p.names x)) Sort.Obj))
  passes-shape s.Null h = refl
  passes-shape (s.ReadObject a b) h = two-pass (field_passes (the_field (slice_get ts a)) q) (term_passes (the_object (slice_get ts b)) q) (value_passes (the_value (slice_get ts a)) q) (value_passes (the_value (slice_get ts b)) q) (field-passes q (slice_get ts a) (both-left (is_field (slice_get ts a)) (is_object (slice_get ts b)) h)) (object-passes q (slice_get ts b) (both-right (is_field (slice_get ts a)) (is_object (slice_get ts b)) h))
  passes-shape (s.Const z) h = refl
  passes-shape (s.FreeNumber x) h = sym (and-true (q (the_name (slice_get p.names x)) Sort.Int))
  passes-shape (s.ReadNumber a b) h = two-pass (field_passes (the_field (slice_get ts a)) q) (term_passes (the_object (slice_get ts b)) q) (value_passes (the_value (slice_get ts a)) q) (value_passes (the_value (slice_get ts b)) q) (field-passes q (slice_get ts a) (both-left (is_field (slice_get ts a)) (is_object (slice_get ts b)) h)) (object-passes q (slice_get ts b) (both-right (is_field (slice_get ts a)) (is_object (slice_get ts b)) h))
  passes-shape (s.Add a b) h = two-pass (int_passes (the_number (slice_get ts a)) q) (int_passes (the_number (slice_get ts b)) q) (value_passes (the_value (slice_get ts a)) q) (value_passes (the_value (slice_get ts b)) q) (number-passes q (slice_get ts a) (both-left (is_number (slice_get ts a)) (is_number (slice_get ts b)) h)) (number-passes q (slice_get ts b) (both-right (is_number (slice_get ts a)) (is_number (slice_get ts b)) h))
  passes-shape (s.Sub a b) h = two-pass (int_passes (the_number (slice_get ts a)) q) (int_passes (the_number (slice_get ts b)) q) (value_passes (the_value (slice_get ts a)) q) (value_passes (the_value (slice_get ts b)) q) (number-passes q (slice_get ts a) (both-left (is_number (slice_get ts a)) (is_number (slice_get ts b)) h)) (number-passes q (slice_get ts b) (both-right (is_number (slice_get ts a)) (is_number (slice_get ts b)) h))
  passes-shape (s.Neg a) h = one-pass (int_passes (the_number (slice_get ts a)) q) (value_passes (the_value (slice_get ts a)) q) (number-passes q (slice_get ts a) h)
  passes-shape (s.Scale z a) h = one-pass (int_passes (the_number (slice_get ts a)) q) (value_passes (the_value (slice_get ts a)) q) (number-passes q (slice_get ts a) h)
  passes-shape (s.Card a) h = one-pass (set_passes (the_set (slice_get ts a)) q) (value_passes (the_value (slice_get ts a)) q) (set-passes q (slice_get ts a) h)
  passes-shape (s.FreeSet x) h = sym (and-true (q (the_name (slice_get p.names x)) Sort.Set))
  passes-shape (s.ReadSet a b) h = two-pass (field_passes (the_field (slice_get ts a)) q) (term_passes (the_object (slice_get ts b)) q) (value_passes (the_value (slice_get ts a)) q) (value_passes (the_value (slice_get ts b)) q) (field-passes q (slice_get ts a) (both-left (is_field (slice_get ts a)) (is_object (slice_get ts b)) h)) (object-passes q (slice_get ts b) (both-right (is_field (slice_get ts a)) (is_object (slice_get ts b)) h))
  passes-shape s.Empty h = refl
  passes-shape s.Univ h = refl
  passes-shape (s.Single a) h = one-pass (term_passes (the_object (slice_get ts a)) q) (value_passes (the_value (slice_get ts a)) q) (object-passes q (slice_get ts a) h)
  passes-shape (s.Union a b) h = two-pass (set_passes (the_set (slice_get ts a)) q) (set_passes (the_set (slice_get ts b)) q) (value_passes (the_value (slice_get ts a)) q) (value_passes (the_value (slice_get ts b)) q) (set-passes q (slice_get ts a) (both-left (is_set (slice_get ts a)) (is_set (slice_get ts b)) h)) (set-passes q (slice_get ts b) (both-right (is_set (slice_get ts a)) (is_set (slice_get ts b)) h))
  passes-shape (s.Inter a b) h = two-pass (set_passes (the_set (slice_get ts a)) q) (set_passes (the_set (slice_get ts b)) q) (value_passes (the_value (slice_get ts a)) q) (value_passes (the_value (slice_get ts b)) q) (set-passes q (slice_get ts a) (both-left (is_set (slice_get ts a)) (is_set (slice_get ts b)) h)) (set-passes q (slice_get ts b) (both-right (is_set (slice_get ts a)) (is_set (slice_get ts b)) h))
  passes-shape (s.Diff a b) h = two-pass (set_passes (the_set (slice_get ts a)) q) (set_passes (the_set (slice_get ts b)) q) (value_passes (the_value (slice_get ts a)) q) (value_passes (the_value (slice_get ts b)) q) (set-passes q (slice_get ts a) (both-left (is_set (slice_get ts a)) (is_set (slice_get ts b)) h)) (set-passes q (slice_get ts b) (both-right (is_set (slice_get ts a)) (is_set (slice_get ts b)) h))
  passes-shape (s.Compl a) h = one-pass (set_passes (the_set (slice_get ts a)) q) (value_passes (the_value (slice_get ts a)) q) (set-passes q (slice_get ts a) h)
  passes-shape (s.Compr a) h = one-pass (formula_passes (the_truth (slice_get ts a)) q) (value_passes (the_value (slice_get ts a)) q) (truth-passes q (slice_get ts a) h)
  passes-shape (s.FreeField x) h = sym (and-true (q (the_name (slice_get p.names x)) Sort.Field))
  passes-shape (s.Update a b c) h = three-pass (field_passes (the_field (slice_get ts a)) q) (term_passes (the_object (slice_get ts b)) q) (value_passes (the_value (slice_get ts c)) q) (value_passes (the_value (slice_get ts a)) q) (value_passes (the_value (slice_get ts b)) q) (value_passes (the_value (slice_get ts c)) q) (field-passes q (slice_get ts a) (both-left (is_field (slice_get ts a)) (is_object (slice_get ts b)) (both-left ((is_field (slice_get ts a)) && is_object (slice_get ts b)) (is_some (slice_get ts c)) h))) (object-passes q (slice_get ts b) (both-right (is_field (slice_get ts a)) (is_object (slice_get ts b)) (both-left ((is_field (slice_get ts a)) && is_object (slice_get ts b)) (is_some (slice_get ts c)) h))) refl
  passes-shape s.True h = refl
  passes-shape s.False h = refl
  passes-shape (s.FreeTruth x) h = sym (and-true (q (the_name (slice_get p.names x)) Sort.Bool))
  passes-shape (s.ReadTruth a b) h = two-pass (field_passes (the_field (slice_get ts a)) q) (term_passes (the_object (slice_get ts b)) q) (value_passes (the_value (slice_get ts a)) q) (value_passes (the_value (slice_get ts b)) q) (field-passes q (slice_get ts a) (both-left (is_field (slice_get ts a)) (is_object (slice_get ts b)) h)) (object-passes q (slice_get ts b) (both-right (is_field (slice_get ts a)) (is_object (slice_get ts b)) h))
  passes-shape (s.Negation a) h = one-pass (formula_passes (the_truth (slice_get ts a)) q) (value_passes (the_value (slice_get ts a)) q) (truth-passes q (slice_get ts a) h)
  passes-shape (s.And a b) h = two-pass (formula_passes (the_truth (slice_get ts a)) q) (formula_passes (the_truth (slice_get ts b)) q) (value_passes (the_value (slice_get ts a)) q) (value_passes (the_value (slice_get ts b)) q) (truth-passes q (slice_get ts a) (both-left (is_truth (slice_get ts a)) (is_truth (slice_get ts b)) h)) (truth-passes q (slice_get ts b) (both-right (is_truth (slice_get ts a)) (is_truth (slice_get ts b)) h))
  passes-shape (s.Or a b) h = two-pass (formula_passes (the_truth (slice_get ts a)) q) (formula_passes (the_truth (slice_get ts b)) q) (value_passes (the_value (slice_get ts a)) q) (value_passes (the_value (slice_get ts b)) q) (truth-passes q (slice_get ts a) (both-left (is_truth (slice_get ts a)) (is_truth (slice_get ts b)) h)) (truth-passes q (slice_get ts b) (both-right (is_truth (slice_get ts a)) (is_truth (slice_get ts b)) h))
  passes-shape (s.Implies a b) h = two-pass (formula_passes (the_truth (slice_get ts a)) q) (formula_passes (the_truth (slice_get ts b)) q) (value_passes (the_value (slice_get ts a)) q) (value_passes (the_value (slice_get ts b)) q) (truth-passes q (slice_get ts a) (both-left (is_truth (slice_get ts a)) (is_truth (slice_get ts b)) h)) (truth-passes q (slice_get ts b) (both-right (is_truth (slice_get ts a)) (is_truth (slice_get ts b)) h))
  passes-shape (s.Iff a b) h = two-pass (formula_passes (the_truth (slice_get ts a)) q) (formula_passes (the_truth (slice_get ts b)) q) (value_passes (the_value (slice_get ts a)) q) (value_passes (the_value (slice_get ts b)) q) (truth-passes q (slice_get ts a) (both-left (is_truth (slice_get ts a)) (is_truth (slice_get ts b)) h)) (truth-passes q (slice_get ts b) (both-right (is_truth (slice_get ts a)) (is_truth (slice_get ts b)) h))
  passes-shape (s.All a) h = one-pass (formula_passes (the_truth (slice_get ts a)) q) (value_passes (the_value (slice_get ts a)) q) (truth-passes q (slice_get ts a) h)
  passes-shape (s.Ex a) h = one-pass (formula_passes (the_truth (slice_get ts a)) q) (value_passes (the_value (slice_get ts a)) q) (truth-passes q (slice_get ts a) h)
  passes-shape (s.EqObject a b) h = two-pass (term_passes (the_object (slice_get ts a)) q) (term_passes (the_object (slice_get ts b)) q) (value_passes (the_value (slice_get ts a)) q) (value_passes (the_value (slice_get ts b)) q) (object-passes q (slice_get ts a) (both-left (is_object (slice_get ts a)) (is_object (slice_get ts b)) h)) (object-passes q (slice_get ts b) (both-right (is_object (slice_get ts a)) (is_object (slice_get ts b)) h))
  passes-shape (s.EqNumber a b) h = two-pass (int_passes (the_number (slice_get ts a)) q) (int_passes (the_number (slice_get ts b)) q) (value_passes (the_value (slice_get ts a)) q) (value_passes (the_value (slice_get ts b)) q) (number-passes q (slice_get ts a) (both-left (is_number (slice_get ts a)) (is_number (slice_get ts b)) h)) (number-passes q (slice_get ts b) (both-right (is_number (slice_get ts a)) (is_number (slice_get ts b)) h))
  passes-shape (s.EqSet a b) h = two-pass (set_passes (the_set (slice_get ts a)) q) (set_passes (the_set (slice_get ts b)) q) (value_passes (the_value (slice_get ts a)) q) (value_passes (the_value (slice_get ts b)) q) (set-passes q (slice_get ts a) (both-left (is_set (slice_get ts a)) (is_set (slice_get ts b)) h)) (set-passes q (slice_get ts b) (both-right (is_set (slice_get ts a)) (is_set (slice_get ts b)) h))
  passes-shape (s.Less a b) h = two-pass (int_passes (the_number (slice_get ts a)) q) (int_passes (the_number (slice_get ts b)) q) (value_passes (the_value (slice_get ts a)) q) (value_passes (the_value (slice_get ts b)) q) (number-passes q (slice_get ts a) (both-left (is_number (slice_get ts a)) (is_number (slice_get ts b)) h)) (number-passes q (slice_get ts b) (both-right (is_number (slice_get ts a)) (is_number (slice_get ts b)) h))
  passes-shape (s.LessEqual a b) h = two-pass (int_passes (the_number (slice_get ts a)) q) (int_passes (the_number (slice_get ts b)) q) (value_passes (the_value (slice_get ts a)) q) (value_passes (the_value (slice_get ts b)) q) (number-passes q (slice_get ts a) (both-left (is_number (slice_get ts a)) (is_number (slice_get ts b)) h)) (number-passes q (slice_get ts b) (both-right (is_number (slice_get ts a)) (is_number (slice_get ts b)) h))
  passes-shape (s.Divides z a) h = one-pass (int_passes (the_number (slice_get ts a)) q) (value_passes (the_value (slice_get ts a)) q) (number-passes q (slice_get ts a) h)
  passes-shape (s.Member a b) h = two-pass (term_passes (the_object (slice_get ts a)) q) (set_passes (the_set (slice_get ts b)) q) (value_passes (the_value (slice_get ts a)) q) (value_passes (the_value (slice_get ts b)) q) (object-passes q (slice_get ts a) (both-left (is_object (slice_get ts a)) (is_set (slice_get ts b)) h)) (set-passes q (slice_get ts b) (both-right (is_object (slice_get ts a)) (is_set (slice_get ts b)) h))
  passes-shape (s.Subset a b) h = two-pass (set_passes (the_set (slice_get ts a)) q) (set_passes (the_set (slice_get ts b)) q) (value_passes (the_value (slice_get ts a)) q) (value_passes (the_value (slice_get ts b)) q) (set-passes q (slice_get ts a) (both-left (is_set (slice_get ts a)) (is_set (slice_get ts b)) h)) (set-passes q (slice_get ts b) (both-right (is_set (slice_get ts a)) (is_set (slice_get ts b)) h))
  passes-shape (s.Reach f a b) h = three-pass (fields_passes (fields_at ts (the_list (slice_get p.lists f))) q) (term_passes (the_object (slice_get ts a)) q) (term_passes (the_object (slice_get ts b)) q) (all_pass q ts (the_list (slice_get p.lists f))) (value_passes (the_value (slice_get ts a)) q) (value_passes (the_value (slice_get ts b)) q) (fields-pass q ts (the_list (slice_get p.lists f)) (both-right (is_some (slice_get p.lists f)) (are_fields ts (the_list (slice_get p.lists f))) (both-left ((is_some (slice_get p.lists f)) && are_fields ts (the_list (slice_get p.lists f))) (is_object (slice_get ts a)) (both-left (((is_some (slice_get p.lists f)) && are_fields ts (the_list (slice_get p.lists f))) && is_object (slice_get ts a)) (is_object (slice_get ts b)) h)))) (object-passes q (slice_get ts a) (both-right ((is_some (slice_get p.lists f)) && are_fields ts (the_list (slice_get p.lists f))) (is_object (slice_get ts a)) (both-left (((is_some (slice_get p.lists f)) && are_fields ts (the_list (slice_get p.lists f))) && is_object (slice_get ts a)) (is_object (slice_get ts b)) h))) (object-passes q (slice_get ts b) (both-right (((is_some (slice_get p.lists f)) && are_fields ts (the_list (slice_get p.lists f))) && is_object (slice_get ts a)) (is_object (slice_get ts b)) h)) ∙ sym (all_pass-append q ts (the_list (slice_get p.lists f)) (a ∷ b ∷ []))
  passes-shape (s.Tree f) h = one-pass (fields_passes (fields_at ts (the_list (slice_get p.lists f))) q) (all_pass q ts (the_list (slice_get p.lists f))) (fields-pass q ts (the_list (slice_get p.lists f)) (both-right (is_some (slice_get p.lists f)) (are_fields ts (the_list (slice_get p.lists f))) h)) ∙ sym (all_pass-append q ts (the_list (slice_get p.lists f)) ([]))
  passes-shape (s.Mark m a) h = one-pass (formula_passes (the_truth (slice_get ts a)) q) (value_passes (the_value (slice_get ts a)) q) (truth-passes q (slice_get ts a) (both-right (is_some (slice_get p.marks m)) (is_truth (slice_get ts a)) h))
