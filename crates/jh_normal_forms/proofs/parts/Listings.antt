-- Written by tools/parts.py.
-- The parts of a shape's tree are the tree and the parts of its parts.
use Rattle.std.proofs.Common.{◌≡◌, refl, sym, ap, ◌∙◌, ℕ, true, ◌&&◌, List, [], ◌∷◌, ◌++◌, slice_get, Option, Some, is_some}
use Rattle.std.proofs.lemmas.Bool.{true≢false}
use Rattle.std.proofs.lemmas.List.{append-nil, append_assoc}
use Rattle.jh_form.specs.Tree.{ValueTree, of_object, of_number, of_truth, of_set, of_field}
use Rattle.jh_form.proofs.ClosedLemmas.{both-left, both-right}
use Rattle.jh_arena.specs.table.Entries.{Pools, the_list, is_object, is_number, is_truth, is_set, is_field, the_object, the_number, the_truth, the_set, the_field, the_value, are_fields, fields_at}
use Rattle.jh_arena.specs.table.Nodes.{fits, shape_tree}
use Rattle.jh_arena.specs.table.Parts.{parts, own_parts, list_parts}
use Rattle.jh_arena.specs.declared.table.shapes.Shape.{Shape}
use Rattle.jh_arena.specs.declared.table.shapes.Shape.TheVariants as s
use Rattle.jh_normal_forms.specs.declared.parts.order.Order.{Order}
use Rattle.jh_normal_forms.specs.parts.Standing.{around, term_parts, int_parts, set_parts, field_parts, value_parts, formula_parts, fields_parts}
use Rattle.jh_normal_forms.specs.parts.Collected.{all_parts}

one-listed : (a va : List ValueTree) → a ≡ va → a ≡ va ++ []
one-listed a va e = e ∙ sym (append-nil va)

two-listed : (a b va vb : List ValueTree) → a ≡ va → b ≡ vb → a ++ b ≡ va ++ (vb ++ [])
two-listed a b va vb e f = (λ i. e i ++ f i) ∙ ap (λ z. va ++ z) (sym (append-nil vb))

three-listed : (a b c va vb vc : List ValueTree) → a ≡ va → b ≡ vb → c ≡ vc → a ++ (b ++ c) ≡ va ++ (vb ++ (vc ++ []))
three-listed a b c va vb vc e f g = (λ i. e i ++ (f i ++ g i)) ∙ ap (λ z. va ++ (vb ++ z)) (sym (append-nil vc))

pub all_parts-append : (o : Order) (ts : List ValueTree) (xs ys : List ℕ) → all_parts o ts (xs ++ ys) ≡ all_parts o ts xs ++ all_parts o ts ys
all_parts-append o ts [] ys = refl
all_parts-append o ts (x ∷ xs) ys =
    ap (λ z. value_parts (the_value (slice_get ts x)) o ++ z) (all_parts-append o ts xs ys)
    ∙ sym (append_assoc (value_parts (the_value (slice_get ts x)) o) (all_parts o ts xs) (all_parts o ts ys))

object-listed : (o : Order) (v : Option ValueTree) → is_object v ≡ true → term_parts (the_object v) o ≡ value_parts (the_value v) o
unfolding is_object the_object the_value value_parts
object-listed o (Some (of_object a)) h = refl
object-listed o _ h = absurd (true≢false (sym h))

number-listed : (o : Order) (v : Option ValueTree) → is_number v ≡ true → int_parts (the_number v) o ≡ value_parts (the_value v) o
unfolding is_number the_number the_value value_parts
number-listed o (Some (of_number a)) h = refl
number-listed o _ h = absurd (true≢false (sym h))

truth-listed : (o : Order) (v : Option ValueTree) → is_truth v ≡ true → formula_parts (the_truth v) o ≡ value_parts (the_value v) o
unfolding is_truth the_truth the_value value_parts
truth-listed o (Some (of_truth a)) h = refl
truth-listed o _ h = absurd (true≢false (sym h))

set-listed : (o : Order) (v : Option ValueTree) → is_set v ≡ true → set_parts (the_set v) o ≡ value_parts (the_value v) o
unfolding is_set the_set the_value value_parts
set-listed o (Some (of_set a)) h = refl
set-listed o _ h = absurd (true≢false (sym h))

field-listed : (o : Order) (v : Option ValueTree) → is_field v ≡ true → field_parts (the_field v) o ≡ value_parts (the_value v) o
unfolding is_field the_field the_value value_parts
field-listed o (Some (of_field a)) h = refl
field-listed o _ h = absurd (true≢false (sym h))

fields-listed : (o : Order) (ts : List ValueTree) (ns : List ℕ) → are_fields ts ns ≡ true → fields_parts (fields_at ts ns) o ≡ all_parts o ts ns
unfolding are_fields fields_at fields_parts
fields-listed o ts [] h = refl
fields-listed o ts (n ∷ ns) h = λ i.
    field-listed o (slice_get ts n) (both-left (is_field (slice_get ts n)) (are_fields ts ns) h) i
    ++ fields-listed o ts ns (both-right (is_field (slice_get ts n)) (are_fields ts ns) h) i

module _ (p : Pools) (ts : List ValueTree) (o : Order) where
  pub parts-shape : (x : Shape) → fits p ts x ≡ true → value_parts (shape_tree p ts x) o ≡ around o (shape_tree p ts x) (all_parts o ts (parts p.lists x))
  unfolding fits shape_tree list_parts own_parts term_parts int_parts set_parts field_parts value_parts formula_parts
  parts-shape (s.Bound k) h = refl
  parts-shape (s.FreeObject n) h = refl
  parts-shape s.Null h = refl
  parts-shape (s.ReadObject a b) h = ap (around o (shape_tree p ts (s.ReadObject a b))) (two-listed (field_parts (the_field (slice_get ts a)) o) (term_parts (the_object (slice_get ts b)) o) (value_parts (the_value (slice_get ts a)) o) (value_parts (the_value (slice_get ts b)) o) (field-listed o (slice_get ts a) (both-left (is_field (slice_get ts a)) (is_object (slice_get ts b)) h)) (object-listed o (slice_get ts b) (both-right (is_field (slice_get ts a)) (is_object (slice_get ts b)) h)))
  parts-shape (s.Const z) h = refl
  parts-shape (s.FreeNumber n) h = refl
  parts-shape (s.ReadNumber a b) h = ap (around o (shape_tree p ts (s.ReadNumber a b))) (two-listed (field_parts (the_field (slice_get ts a)) o) (term_parts (the_object (slice_get ts b)) o) (value_parts (the_value (slice_get ts a)) o) (value_parts (the_value (slice_get ts b)) o) (field-listed o (slice_get ts a) (both-left (is_field (slice_get ts a)) (is_object (slice_get ts b)) h)) (object-listed o (slice_get ts b) (both-right (is_field (slice_get ts a)) (is_object (slice_get ts b)) h)))
  parts-shape (s.Add a b) h = ap (around o (shape_tree p ts (s.Add a b))) (two-listed (int_parts (the_number (slice_get ts a)) o) (int_parts (the_number (slice_get ts b)) o) (value_parts (the_value (slice_get ts a)) o) (value_parts (the_value (slice_get ts b)) o) (number-listed o (slice_get ts a) (both-left (is_number (slice_get ts a)) (is_number (slice_get ts b)) h)) (number-listed o (slice_get ts b) (both-right (is_number (slice_get ts a)) (is_number (slice_get ts b)) h)))
  parts-shape (s.Sub a b) h = ap (around o (shape_tree p ts (s.Sub a b))) (two-listed (int_parts (the_number (slice_get ts a)) o) (int_parts (the_number (slice_get ts b)) o) (value_parts (the_value (slice_get ts a)) o) (value_parts (the_value (slice_get ts b)) o) (number-listed o (slice_get ts a) (both-left (is_number (slice_get ts a)) (is_number (slice_get ts b)) h)) (number-listed o (slice_get ts b) (both-right (is_number (slice_get ts a)) (is_number (slice_get ts b)) h)))
  parts-shape (s.Neg a) h = ap (around o (shape_tree p ts (s.Neg a))) (one-listed (int_parts (the_number (slice_get ts a)) o) (value_parts (the_value (slice_get ts a)) o) (number-listed o (slice_get ts a) h))
  parts-shape (s.Scale z a) h = ap (around o (shape_tree p ts (s.Scale z a))) (one-listed (int_parts (the_number (slice_get ts a)) o) (value_parts (the_value (slice_get ts a)) o) (number-listed o (slice_get ts a) h))
  parts-shape (s.Card a) h = ap (around o (shape_tree p ts (s.Card a))) (one-listed (set_parts (the_set (slice_get ts a)) o) (value_parts (the_value (slice_get ts a)) o) (set-listed o (slice_get ts a) h))
  parts-shape (s.FreeSet n) h = refl
  parts-shape (s.ReadSet a b) h = ap (around o (shape_tree p ts (s.ReadSet a b))) (two-listed (field_parts (the_field (slice_get ts a)) o) (term_parts (the_object (slice_get ts b)) o) (value_parts (the_value (slice_get ts a)) o) (value_parts (the_value (slice_get ts b)) o) (field-listed o (slice_get ts a) (both-left (is_field (slice_get ts a)) (is_object (slice_get ts b)) h)) (object-listed o (slice_get ts b) (both-right (is_field (slice_get ts a)) (is_object (slice_get ts b)) h)))
  parts-shape s.Empty h = refl
  parts-shape s.Univ h = refl
  parts-shape (s.Single a) h = ap (around o (shape_tree p ts (s.Single a))) (one-listed (term_parts (the_object (slice_get ts a)) o) (value_parts (the_value (slice_get ts a)) o) (object-listed o (slice_get ts a) h))
  parts-shape (s.Union a b) h = ap (around o (shape_tree p ts (s.Union a b))) (two-listed (set_parts (the_set (slice_get ts a)) o) (set_parts (the_set (slice_get ts b)) o) (value_parts (the_value (slice_get ts a)) o) (value_parts (the_value (slice_get ts b)) o) (set-listed o (slice_get ts a) (both-left (is_set (slice_get ts a)) (is_set (slice_get ts b)) h)) (set-listed o (slice_get ts b) (both-right (is_set (slice_get ts a)) (is_set (slice_get ts b)) h)))
  parts-shape (s.Inter a b) h = ap (around o (shape_tree p ts (s.Inter a b))) (two-listed (set_parts (the_set (slice_get ts a)) o) (set_parts (the_set (slice_get ts b)) o) (value_parts (the_value (slice_get ts a)) o) (value_parts (the_value (slice_get ts b)) o) (set-listed o (slice_get ts a) (both-left (is_set (slice_get ts a)) (is_set (slice_get ts b)) h)) (set-listed o (slice_get ts b) (both-right (is_set (slice_get ts a)) (is_set (slice_get ts b)) h)))
  parts-shape (s.Diff a b) h = ap (around o (shape_tree p ts (s.Diff a b))) (two-listed (set_parts (the_set (slice_get ts a)) o) (set_parts (the_set (slice_get ts b)) o) (value_parts (the_value (slice_get ts a)) o) (value_parts (the_value (slice_get ts b)) o) (set-listed o (slice_get ts a) (both-left (is_set (slice_get ts a)) (is_set (slice_get ts b)) h)) (set-listed o (slice_get ts b) (both-right (is_set (slice_get ts a)) (is_set (slice_get ts b)) h)))
  parts-shape (s.Compl a) h = ap (around o (shape_tree p ts (s.Compl a))) (one-listed (set_parts (the_set (slice_get ts a)) o) (value_parts (the_value (slice_get ts a)) o) (set-listed o (slice_get ts a) h))
  parts-shape (s.Compr a) h = ap (around o (shape_tree p ts (s.Compr a))) (one-listed (formula_parts (the_truth (slice_get ts a)) o) (value_parts (the_value (slice_get ts a)) o) (truth-listed o (slice_get ts a) h))
  parts-shape (s.FreeField n) h = refl
  parts-shape (s.Update a b c) h = ap (around o (shape_tree p ts (s.Update a b c))) (three-listed (field_parts (the_field (slice_get ts a)) o) (term_parts (the_object (slice_get ts b)) o) (value_parts (the_value (slice_get ts c)) o) (value_parts (the_value (slice_get ts a)) o) (value_parts (the_value (slice_get ts b)) o) (value_parts (the_value (slice_get ts c)) o) (field-listed o (slice_get ts a) (both-left (is_field (slice_get ts a)) (is_object (slice_get ts b)) (both-left ((is_field (slice_get ts a)) && (is_object (slice_get ts b))) (is_some (slice_get ts c)) h))) (object-listed o (slice_get ts b) (both-right (is_field (slice_get ts a)) (is_object (slice_get ts b)) (both-left ((is_field (slice_get ts a)) && (is_object (slice_get ts b))) (is_some (slice_get ts c)) h))) refl)
  parts-shape s.True h = refl
  parts-shape s.False h = refl
  parts-shape (s.FreeTruth n) h = refl
  parts-shape (s.ReadTruth a b) h = ap (around o (shape_tree p ts (s.ReadTruth a b))) (two-listed (field_parts (the_field (slice_get ts a)) o) (term_parts (the_object (slice_get ts b)) o) (value_parts (the_value (slice_get ts a)) o) (value_parts (the_value (slice_get ts b)) o) (field-listed o (slice_get ts a) (both-left (is_field (slice_get ts a)) (is_object (slice_get ts b)) h)) (object-listed o (slice_get ts b) (both-right (is_field (slice_get ts a)) (is_object (slice_get ts b)) h)))
  parts-shape (s.Negation a) h = ap (around o (shape_tree p ts (s.Negation a))) (one-listed (formula_parts (the_truth (slice_get ts a)) o) (value_parts (the_value (slice_get ts a)) o) (truth-listed o (slice_get ts a) h))
  parts-shape (s.And a b) h = ap (around o (shape_tree p ts (s.And a b))) (two-listed (formula_parts (the_truth (slice_get ts a)) o) (formula_parts (the_truth (slice_get ts b)) o) (value_parts (the_value (slice_get ts a)) o) (value_parts (the_value (slice_get ts b)) o) (truth-listed o (slice_get ts a) (both-left (is_truth (slice_get ts a)) (is_truth (slice_get ts b)) h)) (truth-listed o (slice_get ts b) (both-right (is_truth (slice_get ts a)) (is_truth (slice_get ts b)) h)))
  parts-shape (s.Or a b) h = ap (around o (shape_tree p ts (s.Or a b))) (two-listed (formula_parts (the_truth (slice_get ts a)) o) (formula_parts (the_truth (slice_get ts b)) o) (value_parts (the_value (slice_get ts a)) o) (value_parts (the_value (slice_get ts b)) o) (truth-listed o (slice_get ts a) (both-left (is_truth (slice_get ts a)) (is_truth (slice_get ts b)) h)) (truth-listed o (slice_get ts b) (both-right (is_truth (slice_get ts a)) (is_truth (slice_get ts b)) h)))
  parts-shape (s.Implies a b) h = ap (around o (shape_tree p ts (s.Implies a b))) (two-listed (formula_parts (the_truth (slice_get ts a)) o) (formula_parts (the_truth (slice_get ts b)) o) (value_parts (the_value (slice_get ts a)) o) (value_parts (the_value (slice_get ts b)) o) (truth-listed o (slice_get ts a) (both-left (is_truth (slice_get ts a)) (is_truth (slice_get ts b)) h)) (truth-listed o (slice_get ts b) (both-right (is_truth (slice_get ts a)) (is_truth (slice_get ts b)) h)))
  parts-shape (s.Iff a b) h = ap (around o (shape_tree p ts (s.Iff a b))) (two-listed (formula_parts (the_truth (slice_get ts a)) o) (formula_parts (the_truth (slice_get ts b)) o) (value_parts (the_value (slice_get ts a)) o) (value_parts (the_value (slice_get ts b)) o) (truth-listed o (slice_get ts a) (both-left (is_truth (slice_get ts a)) (is_truth (slice_get ts b)) h)) (truth-listed o (slice_get ts b) (both-right (is_truth (slice_get ts a)) (is_truth (slice_get ts b)) h)))
  parts-shape (s.All a) h = ap (around o (shape_tree p ts (s.All a))) (one-listed (formula_parts (the_truth (slice_get ts a)) o) (value_parts (the_value (slice_get ts a)) o) (truth-listed o (slice_get ts a) h))
  parts-shape (s.Ex a) h = ap (around o (shape_tree p ts (s.Ex a))) (one-listed (formula_parts (the_truth (slice_get ts a)) o) (value_parts (the_value (slice_get ts a)) o) (truth-listed o (slice_get ts a) h))
  parts-shape (s.EqObject a b) h = ap (around o (shape_tree p ts (s.EqObject a b))) (two-listed (term_parts (the_object (slice_get ts a)) o) (term_parts (the_object (slice_get ts b)) o) (value_parts (the_value (slice_get ts a)) o) (value_parts (the_value (slice_get ts b)) o) (object-listed o (slice_get ts a) (both-left (is_object (slice_get ts a)) (is_object (slice_get ts b)) h)) (object-listed o (slice_get ts b) (both-right (is_object (slice_get ts a)) (is_object (slice_get ts b)) h)))
  parts-shape (s.EqNumber a b) h = ap (around o (shape_tree p ts (s.EqNumber a b))) (two-listed (int_parts (the_number (slice_get ts a)) o) (int_parts (the_number (slice_get ts b)) o) (value_parts (the_value (slice_get ts a)) o) (value_parts (the_value (slice_get ts b)) o) (number-listed o (slice_get ts a) (both-left (is_number (slice_get ts a)) (is_number (slice_get ts b)) h)) (number-listed o (slice_get ts b) (both-right (is_number (slice_get ts a)) (is_number (slice_get ts b)) h)))
  parts-shape (s.EqSet a b) h = ap (around o (shape_tree p ts (s.EqSet a b))) (two-listed (set_parts (the_set (slice_get ts a)) o) (set_parts (the_set (slice_get ts b)) o) (value_parts (the_value (slice_get ts a)) o) (value_parts (the_value (slice_get ts b)) o) (set-listed o (slice_get ts a) (both-left (is_set (slice_get ts a)) (is_set (slice_get ts b)) h)) (set-listed o (slice_get ts b) (both-right (is_set (slice_get ts a)) (is_set (slice_get ts b)) h)))
  parts-shape (s.Less a b) h = ap (around o (shape_tree p ts (s.Less a b))) (two-listed (int_parts (the_number (slice_get ts a)) o) (int_parts (the_number (slice_get ts b)) o) (value_parts (the_value (slice_get ts a)) o) (value_parts (the_value (slice_get ts b)) o) (number-listed o (slice_get ts a) (both-left (is_number (slice_get ts a)) (is_number (slice_get ts b)) h)) (number-listed o (slice_get ts b) (both-right (is_number (slice_get ts a)) (is_number (slice_get ts b)) h)))
  parts-shape (s.LessEqual a b) h = ap (around o (shape_tree p ts (s.LessEqual a b))) (two-listed (int_parts (the_number (slice_get ts a)) o) (int_parts (the_number (slice_get ts b)) o) (value_parts (the_value (slice_get ts a)) o) (value_parts (the_value (slice_get ts b)) o) (number-listed o (slice_get ts a) (both-left (is_number (slice_get ts a)) (is_number (slice_get ts b)) h)) (number-listed o (slice_get ts b) (both-right (is_number (slice_get ts a)) (is_number (slice_get ts b)) h)))
  parts-shape (s.Divides z a) h = ap (around o (shape_tree p ts (s.Divides z a))) (one-listed (int_parts (the_number (slice_get ts a)) o) (value_parts (the_value (slice_get ts a)) o) (number-listed o (slice_get ts a) h))
  parts-shape (s.Member a b) h = ap (around o (shape_tree p ts (s.Member a b))) (two-listed (term_parts (the_object (slice_get ts a)) o) (set_parts (the_set (slice_get ts b)) o) (value_parts (the_value (slice_get ts a)) o) (value_parts (the_value (slice_get ts b)) o) (object-listed o (slice_get ts a) (both-left (is_object (slice_get ts a)) (is_set (slice_get ts b)) h)) (set-listed o (slice_get ts b) (both-right (is_object (slice_get ts a)) (is_set (slice_get ts b)) h)))
  parts-shape (s.Subset a b) h = ap (around o (shape_tree p ts (s.Subset a b))) (two-listed (set_parts (the_set (slice_get ts a)) o) (set_parts (the_set (slice_get ts b)) o) (value_parts (the_value (slice_get ts a)) o) (value_parts (the_value (slice_get ts b)) o) (set-listed o (slice_get ts a) (both-left (is_set (slice_get ts a)) (is_set (slice_get ts b)) h)) (set-listed o (slice_get ts b) (both-right (is_set (slice_get ts a)) (is_set (slice_get ts b)) h)))
  parts-shape (s.Reach l a b) h = ap (around o (shape_tree p ts (s.Reach l a b))) (three-listed (fields_parts (fields_at ts (the_list (slice_get p.lists l))) o) (term_parts (the_object (slice_get ts a)) o) (term_parts (the_object (slice_get ts b)) o) (all_parts o ts (the_list (slice_get p.lists l))) (value_parts (the_value (slice_get ts a)) o) (value_parts (the_value (slice_get ts b)) o) (fields-listed o ts (the_list (slice_get p.lists l)) (both-right (is_some (slice_get p.lists l)) (are_fields ts (the_list (slice_get p.lists l))) (both-left ((is_some (slice_get p.lists l)) && (are_fields ts (the_list (slice_get p.lists l)))) (is_object (slice_get ts a)) (both-left ((is_some (slice_get p.lists l)) && (are_fields ts (the_list (slice_get p.lists l))) && (is_object (slice_get ts a))) (is_object (slice_get ts b)) h)))) (object-listed o (slice_get ts a) (both-right ((is_some (slice_get p.lists l)) && (are_fields ts (the_list (slice_get p.lists l)))) (is_object (slice_get ts a)) (both-left ((is_some (slice_get p.lists l)) && (are_fields ts (the_list (slice_get p.lists l))) && (is_object (slice_get ts a))) (is_object (slice_get ts b)) h))) (object-listed o (slice_get ts b) (both-right ((is_some (slice_get p.lists l)) && (are_fields ts (the_list (slice_get p.lists l))) && (is_object (slice_get ts a))) (is_object (slice_get ts b)) h)) ∙ sym (all_parts-append o ts (the_list (slice_get p.lists l)) (a ∷ b ∷ [])))
  parts-shape (s.Tree l) h = ap (around o (shape_tree p ts (s.Tree l))) (one-listed (fields_parts (fields_at ts (the_list (slice_get p.lists l))) o) (all_parts o ts (the_list (slice_get p.lists l))) (fields-listed o ts (the_list (slice_get p.lists l)) (both-right (is_some (slice_get p.lists l)) (are_fields ts (the_list (slice_get p.lists l))) h)) ∙ sym (all_parts-append o ts (the_list (slice_get p.lists l)) ([])))
  parts-shape (s.Mark m a) h = ap (around o (shape_tree p ts (s.Mark m a))) (one-listed (formula_parts (the_truth (slice_get ts a)) o) (value_parts (the_value (slice_get ts a)) o) (truth-listed o (slice_get ts a) (both-right (is_some (slice_get p.marks m)) (is_truth (slice_get ts a)) h)))
