-- A shape's tree is closed exactly where its own leaf is and its parts are.
use Rattle.jh_arena.specs.table.Facing.{own_closed, all_closed, under}
use Rattle.std.proofs.Common.{◌≡◌, refl, sym, ap, ◌∙◌, ℕ, ◌+◌, nat_lt, ◌<◌, Bool, true, false, ◌&&◌, List, [], ◌∷◌, ◌++◌, length, slice_get, Option, Some, None, is_some}
use Rattle.std.proofs.Math.Bool.{and-true}
use Rattle.std.proofs.lemmas.Bool.{true≢false}
use Rattle.std.proofs.lemmas.Option.{slice_get_within}
use Rattle.jh_boxed.specs.jh_name.declared.naming.Name.{Name}
use Rattle.jh_form.specs.Tree.{ValueTree, of_object, of_number, of_truth, of_set, of_field}
use Rattle.jh_form.specs.Closed.{is_closed_term, is_closed_int, is_closed_set, is_closed_field, is_closed_value, is_closed_formula, is_closed_fields}
use Rattle.jh_form.proofs.ClosedLemmas.{both-left, both-right}
use Rattle.jh_arena.specs.table.Entries.{Pools, the_list, is_object, is_number, is_truth, is_set, is_field, the_object, the_number, the_truth, the_set, the_field, the_value, are_fields, fields_at}
use Rattle.jh_arena.specs.table.Nodes.{fits, shape_tree}
use Rattle.jh_arena.specs.table.Parts.{parts, own_parts, list_parts}
use Rattle.jh_arena.specs.declared.table.shapes.Shape.{Shape}
use Rattle.jh_arena.specs.declared.table.shapes.Shape.TheVariants as s

one-pass : (a va : Bool) → a ≡ va → a ≡ (va && true)
one-pass a va e = e ∙ sym (and-true va)

two-pass : (a b va vb : Bool) → a ≡ va → b ≡ vb → (a && b) ≡ (va && (vb && true))
two-pass a b va vb e f = (λ i. e i && f i) ∙ ap (λ z. va && z) (sym (and-true vb))

regroup : (a b c : Bool) → ((a && b) && c) ≡ (a && (b && (c && true)))
regroup true b c = ap (λ z. b && z) (sym (and-true c))
regroup false b c = refl

three-pass : (a b c va vb vc : Bool) → a ≡ va → b ≡ vb → c ≡ vc → ((a && b) && c) ≡ (va && (vb && (vc && true)))
three-pass a b c va vb vc e f g = (λ i. (e i && f i) && g i) ∙ regroup va vb vc

and_assoc : (a b c : Bool) → (a && (b && c)) ≡ ((a && b) && c)
and_assoc true b c = refl
and_assoc false b c = refl

pub all_closed-append : (d : ℕ) (ts : List ValueTree) (xs ys : List ℕ) → all_closed d ts (xs ++ ys) ≡ (all_closed d ts xs && all_closed d ts ys)
all_closed-append d ts [] ys = refl
all_closed-append d ts (x ∷ xs) ys =
    ap (λ z. is_closed_value (the_value (slice_get ts x)) d && z) (all_closed-append d ts xs ys)
    ∙ and_assoc (is_closed_value (the_value (slice_get ts x)) d) (all_closed d ts xs) (all_closed d ts ys)

object-closed : (d : ℕ) (o : Option ValueTree) → is_object o ≡ true → is_closed_term (the_object o) d ≡ is_closed_value (the_value o) d
unfolding is_object the_object the_value is_closed_value
object-closed d (Some (of_object a)) h = refl
object-closed d _ h = absurd (true≢false (sym h))

number-closed : (d : ℕ) (o : Option ValueTree) → is_number o ≡ true → is_closed_int (the_number o) d ≡ is_closed_value (the_value o) d
unfolding is_number the_number the_value is_closed_value
number-closed d (Some (of_number a)) h = refl
number-closed d _ h = absurd (true≢false (sym h))

pub truth-closed : (d : ℕ) (o : Option ValueTree) → is_truth o ≡ true → is_closed_formula (the_truth o) d ≡ is_closed_value (the_value o) d
unfolding is_truth the_truth the_value is_closed_value
truth-closed d (Some (of_truth a)) h = refl
truth-closed d _ h = absurd (true≢false (sym h))

set-closed : (d : ℕ) (o : Option ValueTree) → is_set o ≡ true → is_closed_set (the_set o) d ≡ is_closed_value (the_value o) d
unfolding is_set the_set the_value is_closed_value
set-closed d (Some (of_set a)) h = refl
set-closed d _ h = absurd (true≢false (sym h))

field-closed : (d : ℕ) (o : Option ValueTree) → is_field o ≡ true → is_closed_field (the_field o) d ≡ is_closed_value (the_value o) d
unfolding is_field the_field the_value is_closed_value
field-closed d (Some (of_field a)) h = refl
field-closed d _ h = absurd (true≢false (sym h))

fields-closed : (d : ℕ) (ts : List ValueTree) (ns : List ℕ) → are_fields ts ns ≡ true → is_closed_fields (fields_at ts ns) d ≡ all_closed d ts ns
unfolding are_fields fields_at is_closed_fields
fields-closed d ts [] h = refl
fields-closed d ts (n ∷ ns) h = λ i.
    field-closed d (slice_get ts n) (both-left (is_field (slice_get ts n)) (are_fields ts ns) h) i
    && fields-closed d ts ns (both-right (is_field (slice_get ts n)) (are_fields ts ns) h) i

some-name : (xs : List Name) (n : ℕ) (o : Option Name) → slice_get xs n ≡ o → is_some o ≡ true → n < length xs
some-name xs n (Some v) e h = slice_get_within xs n v e
some-name xs n None e h = absurd (true≢false (sym h))

name-within : (xs : List Name) (n : ℕ) → is_some (slice_get xs n) ≡ true → n < length xs
name-within xs n h = some-name xs n (slice_get xs n) refl h

module _ (p : Pools) (ts : List ValueTree) where
  pub closed-shape : (x : Shape) (d : ℕ) → fits p ts x ≡ true → is_closed_value (shape_tree p ts x) d ≡ (own_closed x d && all_closed (under x d) ts (parts p.lists x))
  unfolding own_closed under fits shape_tree list_parts own_parts is_closed_term is_closed_int is_closed_set is_closed_field is_closed_value is_closed_formula
  closed-shape (s.Bound k) d h = sym (and-true (nat_lt k d))
  closed-shape (s.FreeObject x) d h = refl
  closed-shape s.Null d h = refl
  closed-shape (s.ReadObject a b) d h = two-pass (is_closed_field (the_field (slice_get ts a)) d) (is_closed_term (the_object (slice_get ts b)) d) (is_closed_value (the_value (slice_get ts a)) d) (is_closed_value (the_value (slice_get ts b)) d) (field-closed d (slice_get ts a) (both-left (is_field (slice_get ts a)) (is_object (slice_get ts b)) h)) (object-closed d (slice_get ts b) (both-right (is_field (slice_get ts a)) (is_object (slice_get ts b)) h))
  closed-shape (s.Const z) d h = refl
  closed-shape (s.FreeNumber x) d h = refl
  closed-shape (s.ReadNumber a b) d h = two-pass (is_closed_field (the_field (slice_get ts a)) d) (is_closed_term (the_object (slice_get ts b)) d) (is_closed_value (the_value (slice_get ts a)) d) (is_closed_value (the_value (slice_get ts b)) d) (field-closed d (slice_get ts a) (both-left (is_field (slice_get ts a)) (is_object (slice_get ts b)) h)) (object-closed d (slice_get ts b) (both-right (is_field (slice_get ts a)) (is_object (slice_get ts b)) h))
  closed-shape (s.Add a b) d h = two-pass (is_closed_int (the_number (slice_get ts a)) d) (is_closed_int (the_number (slice_get ts b)) d) (is_closed_value (the_value (slice_get ts a)) d) (is_closed_value (the_value (slice_get ts b)) d) (number-closed d (slice_get ts a) (both-left (is_number (slice_get ts a)) (is_number (slice_get ts b)) h)) (number-closed d (slice_get ts b) (both-right (is_number (slice_get ts a)) (is_number (slice_get ts b)) h))
  closed-shape (s.Sub a b) d h = two-pass (is_closed_int (the_number (slice_get ts a)) d) (is_closed_int (the_number (slice_get ts b)) d) (is_closed_value (the_value (slice_get ts a)) d) (is_closed_value (the_value (slice_get ts b)) d) (number-closed d (slice_get ts a) (both-left (is_number (slice_get ts a)) (is_number (slice_get ts b)) h)) (number-closed d (slice_get ts b) (both-right (is_number (slice_get ts a)) (is_number (slice_get ts b)) h))
  closed-shape (s.Neg a) d h = one-pass (is_closed_int (the_number (slice_get ts a)) d) (is_closed_value (the_value (slice_get ts a)) d) (number-closed d (slice_get ts a) h)
  closed-shape (s.Scale z a) d h = one-pass (is_closed_int (the_number (slice_get ts a)) d) (is_closed_value (the_value (slice_get ts a)) d) (number-closed d (slice_get ts a) h)
  closed-shape (s.Card a) d h = one-pass (is_closed_set (the_set (slice_get ts a)) d) (is_closed_value (the_value (slice_get ts a)) d) (set-closed d (slice_get ts a) h)
  closed-shape (s.FreeSet x) d h = refl
  closed-shape (s.ReadSet a b) d h = two-pass (is_closed_field (the_field (slice_get ts a)) d) (is_closed_term (the_object (slice_get ts b)) d) (is_closed_value (the_value (slice_get ts a)) d) (is_closed_value (the_value (slice_get ts b)) d) (field-closed d (slice_get ts a) (both-left (is_field (slice_get ts a)) (is_object (slice_get ts b)) h)) (object-closed d (slice_get ts b) (both-right (is_field (slice_get ts a)) (is_object (slice_get ts b)) h))
  closed-shape s.Empty d h = refl
  closed-shape s.Univ d h = refl
  closed-shape (s.Single a) d h = one-pass (is_closed_term (the_object (slice_get ts a)) d) (is_closed_value (the_value (slice_get ts a)) d) (object-closed d (slice_get ts a) h)
  closed-shape (s.Union a b) d h = two-pass (is_closed_set (the_set (slice_get ts a)) d) (is_closed_set (the_set (slice_get ts b)) d) (is_closed_value (the_value (slice_get ts a)) d) (is_closed_value (the_value (slice_get ts b)) d) (set-closed d (slice_get ts a) (both-left (is_set (slice_get ts a)) (is_set (slice_get ts b)) h)) (set-closed d (slice_get ts b) (both-right (is_set (slice_get ts a)) (is_set (slice_get ts b)) h))
  closed-shape (s.Inter a b) d h = two-pass (is_closed_set (the_set (slice_get ts a)) d) (is_closed_set (the_set (slice_get ts b)) d) (is_closed_value (the_value (slice_get ts a)) d) (is_closed_value (the_value (slice_get ts b)) d) (set-closed d (slice_get ts a) (both-left (is_set (slice_get ts a)) (is_set (slice_get ts b)) h)) (set-closed d (slice_get ts b) (both-right (is_set (slice_get ts a)) (is_set (slice_get ts b)) h))
  closed-shape (s.Diff a b) d h = two-pass (is_closed_set (the_set (slice_get ts a)) d) (is_closed_set (the_set (slice_get ts b)) d) (is_closed_value (the_value (slice_get ts a)) d) (is_closed_value (the_value (slice_get ts b)) d) (set-closed d (slice_get ts a) (both-left (is_set (slice_get ts a)) (is_set (slice_get ts b)) h)) (set-closed d (slice_get ts b) (both-right (is_set (slice_get ts a)) (is_set (slice_get ts b)) h))
  closed-shape (s.Compl a) d h = one-pass (is_closed_set (the_set (slice_get ts a)) d) (is_closed_value (the_value (slice_get ts a)) d) (set-closed d (slice_get ts a) h)
  closed-shape (s.Compr a) d h = one-pass (is_closed_formula (the_truth (slice_get ts a)) (d + 1)) (is_closed_value (the_value (slice_get ts a)) (d + 1)) (truth-closed (d + 1) (slice_get ts a) h)
  closed-shape (s.FreeField x) d h = refl
  closed-shape (s.Update a b c) d h = three-pass (is_closed_field (the_field (slice_get ts a)) d) (is_closed_term (the_object (slice_get ts b)) d) (is_closed_value (the_value (slice_get ts c)) d) (is_closed_value (the_value (slice_get ts a)) d) (is_closed_value (the_value (slice_get ts b)) d) (is_closed_value (the_value (slice_get ts c)) d) (field-closed d (slice_get ts a) (both-left (is_field (slice_get ts a)) (is_object (slice_get ts b)) (both-left ((is_field (slice_get ts a)) && is_object (slice_get ts b)) (is_some (slice_get ts c)) h))) (object-closed d (slice_get ts b) (both-right (is_field (slice_get ts a)) (is_object (slice_get ts b)) (both-left ((is_field (slice_get ts a)) && is_object (slice_get ts b)) (is_some (slice_get ts c)) h))) refl
  closed-shape s.True d h = refl
  closed-shape s.False d h = refl
  closed-shape (s.FreeTruth x) d h = refl
  closed-shape (s.ReadTruth a b) d h = two-pass (is_closed_field (the_field (slice_get ts a)) d) (is_closed_term (the_object (slice_get ts b)) d) (is_closed_value (the_value (slice_get ts a)) d) (is_closed_value (the_value (slice_get ts b)) d) (field-closed d (slice_get ts a) (both-left (is_field (slice_get ts a)) (is_object (slice_get ts b)) h)) (object-closed d (slice_get ts b) (both-right (is_field (slice_get ts a)) (is_object (slice_get ts b)) h))
  closed-shape (s.Negation a) d h = one-pass (is_closed_formula (the_truth (slice_get ts a)) d) (is_closed_value (the_value (slice_get ts a)) d) (truth-closed d (slice_get ts a) h)
  closed-shape (s.And a b) d h = two-pass (is_closed_formula (the_truth (slice_get ts a)) d) (is_closed_formula (the_truth (slice_get ts b)) d) (is_closed_value (the_value (slice_get ts a)) d) (is_closed_value (the_value (slice_get ts b)) d) (truth-closed d (slice_get ts a) (both-left (is_truth (slice_get ts a)) (is_truth (slice_get ts b)) h)) (truth-closed d (slice_get ts b) (both-right (is_truth (slice_get ts a)) (is_truth (slice_get ts b)) h))
  closed-shape (s.Or a b) d h = two-pass (is_closed_formula (the_truth (slice_get ts a)) d) (is_closed_formula (the_truth (slice_get ts b)) d) (is_closed_value (the_value (slice_get ts a)) d) (is_closed_value (the_value (slice_get ts b)) d) (truth-closed d (slice_get ts a) (both-left (is_truth (slice_get ts a)) (is_truth (slice_get ts b)) h)) (truth-closed d (slice_get ts b) (both-right (is_truth (slice_get ts a)) (is_truth (slice_get ts b)) h))
  closed-shape (s.Implies a b) d h = two-pass (is_closed_formula (the_truth (slice_get ts a)) d) (is_closed_formula (the_truth (slice_get ts b)) d) (is_closed_value (the_value (slice_get ts a)) d) (is_closed_value (the_value (slice_get ts b)) d) (truth-closed d (slice_get ts a) (both-left (is_truth (slice_get ts a)) (is_truth (slice_get ts b)) h)) (truth-closed d (slice_get ts b) (both-right (is_truth (slice_get ts a)) (is_truth (slice_get ts b)) h))
  closed-shape (s.Iff a b) d h = two-pass (is_closed_formula (the_truth (slice_get ts a)) d) (is_closed_formula (the_truth (slice_get ts b)) d) (is_closed_value (the_value (slice_get ts a)) d) (is_closed_value (the_value (slice_get ts b)) d) (truth-closed d (slice_get ts a) (both-left (is_truth (slice_get ts a)) (is_truth (slice_get ts b)) h)) (truth-closed d (slice_get ts b) (both-right (is_truth (slice_get ts a)) (is_truth (slice_get ts b)) h))
  closed-shape (s.All a) d h = one-pass (is_closed_formula (the_truth (slice_get ts a)) (d + 1)) (is_closed_value (the_value (slice_get ts a)) (d + 1)) (truth-closed (d + 1) (slice_get ts a) h)
  closed-shape (s.Ex a) d h = one-pass (is_closed_formula (the_truth (slice_get ts a)) (d + 1)) (is_closed_value (the_value (slice_get ts a)) (d + 1)) (truth-closed (d + 1) (slice_get ts a) h)
  closed-shape (s.EqObject a b) d h = two-pass (is_closed_term (the_object (slice_get ts a)) d) (is_closed_term (the_object (slice_get ts b)) d) (is_closed_value (the_value (slice_get ts a)) d) (is_closed_value (the_value (slice_get ts b)) d) (object-closed d (slice_get ts a) (both-left (is_object (slice_get ts a)) (is_object (slice_get ts b)) h)) (object-closed d (slice_get ts b) (both-right (is_object (slice_get ts a)) (is_object (slice_get ts b)) h))
  closed-shape (s.EqNumber a b) d h = two-pass (is_closed_int (the_number (slice_get ts a)) d) (is_closed_int (the_number (slice_get ts b)) d) (is_closed_value (the_value (slice_get ts a)) d) (is_closed_value (the_value (slice_get ts b)) d) (number-closed d (slice_get ts a) (both-left (is_number (slice_get ts a)) (is_number (slice_get ts b)) h)) (number-closed d (slice_get ts b) (both-right (is_number (slice_get ts a)) (is_number (slice_get ts b)) h))
  closed-shape (s.EqSet a b) d h = two-pass (is_closed_set (the_set (slice_get ts a)) d) (is_closed_set (the_set (slice_get ts b)) d) (is_closed_value (the_value (slice_get ts a)) d) (is_closed_value (the_value (slice_get ts b)) d) (set-closed d (slice_get ts a) (both-left (is_set (slice_get ts a)) (is_set (slice_get ts b)) h)) (set-closed d (slice_get ts b) (both-right (is_set (slice_get ts a)) (is_set (slice_get ts b)) h))
  closed-shape (s.Less a b) d h = two-pass (is_closed_int (the_number (slice_get ts a)) d) (is_closed_int (the_number (slice_get ts b)) d) (is_closed_value (the_value (slice_get ts a)) d) (is_closed_value (the_value (slice_get ts b)) d) (number-closed d (slice_get ts a) (both-left (is_number (slice_get ts a)) (is_number (slice_get ts b)) h)) (number-closed d (slice_get ts b) (both-right (is_number (slice_get ts a)) (is_number (slice_get ts b)) h))
  closed-shape (s.LessEqual a b) d h = two-pass (is_closed_int (the_number (slice_get ts a)) d) (is_closed_int (the_number (slice_get ts b)) d) (is_closed_value (the_value (slice_get ts a)) d) (is_closed_value (the_value (slice_get ts b)) d) (number-closed d (slice_get ts a) (both-left (is_number (slice_get ts a)) (is_number (slice_get ts b)) h)) (number-closed d (slice_get ts b) (both-right (is_number (slice_get ts a)) (is_number (slice_get ts b)) h))
  closed-shape (s.Divides z a) d h = one-pass (is_closed_int (the_number (slice_get ts a)) d) (is_closed_value (the_value (slice_get ts a)) d) (number-closed d (slice_get ts a) h)
  closed-shape (s.Member a b) d h = two-pass (is_closed_term (the_object (slice_get ts a)) d) (is_closed_set (the_set (slice_get ts b)) d) (is_closed_value (the_value (slice_get ts a)) d) (is_closed_value (the_value (slice_get ts b)) d) (object-closed d (slice_get ts a) (both-left (is_object (slice_get ts a)) (is_set (slice_get ts b)) h)) (set-closed d (slice_get ts b) (both-right (is_object (slice_get ts a)) (is_set (slice_get ts b)) h))
  closed-shape (s.Subset a b) d h = two-pass (is_closed_set (the_set (slice_get ts a)) d) (is_closed_set (the_set (slice_get ts b)) d) (is_closed_value (the_value (slice_get ts a)) d) (is_closed_value (the_value (slice_get ts b)) d) (set-closed d (slice_get ts a) (both-left (is_set (slice_get ts a)) (is_set (slice_get ts b)) h)) (set-closed d (slice_get ts b) (both-right (is_set (slice_get ts a)) (is_set (slice_get ts b)) h))
  closed-shape (s.Reach f a b) d h = three-pass (is_closed_fields (fields_at ts (the_list (slice_get p.lists f))) d) (is_closed_term (the_object (slice_get ts a)) d) (is_closed_term (the_object (slice_get ts b)) d) (all_closed d ts (the_list (slice_get p.lists f))) (is_closed_value (the_value (slice_get ts a)) d) (is_closed_value (the_value (slice_get ts b)) d) (fields-closed d ts (the_list (slice_get p.lists f)) (both-right (is_some (slice_get p.lists f)) (are_fields ts (the_list (slice_get p.lists f))) (both-left ((is_some (slice_get p.lists f)) && are_fields ts (the_list (slice_get p.lists f))) (is_object (slice_get ts a)) (both-left (((is_some (slice_get p.lists f)) && are_fields ts (the_list (slice_get p.lists f))) && is_object (slice_get ts a)) (is_object (slice_get ts b)) h)))) (object-closed d (slice_get ts a) (both-right ((is_some (slice_get p.lists f)) && are_fields ts (the_list (slice_get p.lists f))) (is_object (slice_get ts a)) (both-left (((is_some (slice_get p.lists f)) && are_fields ts (the_list (slice_get p.lists f))) && is_object (slice_get ts a)) (is_object (slice_get ts b)) h))) (object-closed d (slice_get ts b) (both-right (((is_some (slice_get p.lists f)) && are_fields ts (the_list (slice_get p.lists f))) && is_object (slice_get ts a)) (is_object (slice_get ts b)) h)) ∙ sym (all_closed-append d ts (the_list (slice_get p.lists f)) (a ∷ b ∷ []))
  closed-shape (s.Tree f) d h = one-pass (is_closed_fields (fields_at ts (the_list (slice_get p.lists f))) d) (all_closed d ts (the_list (slice_get p.lists f))) (fields-closed d ts (the_list (slice_get p.lists f)) (both-right (is_some (slice_get p.lists f)) (are_fields ts (the_list (slice_get p.lists f))) h)) ∙ sym (all_closed-append d ts (the_list (slice_get p.lists f)) ([]))
  closed-shape (s.Mark m a) d h = one-pass (is_closed_formula (the_truth (slice_get ts a)) d) (is_closed_value (the_value (slice_get ts a)) d) (truth-closed d (slice_get ts a) (both-right (is_some (slice_get p.marks m)) (is_truth (slice_get ts a)) h))
