-- What the sort of a node says of it, and what fits when an object is exchanged.
use Rattle.std.proofs.Common.{◌≡◌, refl, ap, ◌∙◌, ◌&&◌, ◌<◌, ℕ, zero, suc, Bool, true, false, List, [], ◌∷◌, Option, Some, None, is_some, length, slice_get, arith}
use Rattle.jh_name.specs.declared.place.Sort.{Sort}
use Rattle.jh_name.specs.declared.place.Sort.TheVariants as sort
use Rattle.jh_form.specs.Tree.{ValueTree, of_object, of_number, of_truth, of_set, of_field}
use Rattle.jh_form.specs.Sorts.{tree_sort}
use Rattle.jh_form.specs.Closed.{is_closed_term, is_closed_value}
use Rattle.jh_arena.specs.table.Entries.{Pools, are_fields, is_field, is_number, is_object, is_set, is_truth, the_list, the_object, the_value}
use Rattle.jh_arena.specs.declared.table.shapes.Shape.TheVariants as s
use Rattle.jh_arena.specs.table.Nodes.{fits}

pub truth-by-sort : (o : Option ValueTree) (k : Sort) → k ≡ tree_sort (the_value o) → k ≡ sort.Bool → is_truth o ≡ true
unfolding is_truth the_value
truth-by-sort (Some (of_truth a)) k e h = refl
truth-by-sort (Some (of_object a)) k e h = absurd (cc)
truth-by-sort (Some (of_number a)) k e h = absurd (cc)
truth-by-sort (Some (of_set a)) k e h = absurd (cc)
truth-by-sort (Some (of_field a)) k e h = absurd (cc)
truth-by-sort None k e h = absurd (cc)

pub number-by-sort : (o : Option ValueTree) (k : Sort) → k ≡ tree_sort (the_value o) → k ≡ sort.Int → is_number o ≡ true
unfolding is_number the_value
number-by-sort (Some (of_number a)) k e h = refl
number-by-sort (Some (of_object a)) k e h = absurd (cc)
number-by-sort (Some (of_truth a)) k e h = absurd (cc)
number-by-sort (Some (of_set a)) k e h = absurd (cc)
number-by-sort (Some (of_field a)) k e h = absurd (cc)
number-by-sort None k e h = absurd (cc)

pub set-by-sort : (o : Option ValueTree) (k : Sort) → k ≡ tree_sort (the_value o) → k ≡ sort.Set → is_set o ≡ true
unfolding is_set the_value
set-by-sort (Some (of_set a)) k e h = refl
set-by-sort (Some (of_object a)) k e h = absurd (cc)
set-by-sort (Some (of_number a)) k e h = absurd (cc)
set-by-sort (Some (of_truth a)) k e h = absurd (cc)
set-by-sort (Some (of_field a)) k e h = absurd (cc)
set-by-sort None k e h = absurd (cc)

pub field-by-sort : (o : Option ValueTree) (k : Sort) → k ≡ tree_sort (the_value o) → k ≡ sort.Field → is_field o ≡ true
unfolding is_field the_value
field-by-sort (Some (of_field a)) k e h = refl
field-by-sort (Some (of_object a)) k e h = absurd (cc)
field-by-sort (Some (of_number a)) k e h = absurd (cc)
field-by-sort (Some (of_truth a)) k e h = absurd (cc)
field-by-sort (Some (of_set a)) k e h = absurd (cc)
field-by-sort None k e h = absurd (cc)

-- what stands nowhere counts as null, so that something stands there is asked for
object-there : (o : Option ValueTree) (k : Sort) → is_some o ≡ true → k ≡ tree_sort (the_value o) → k ≡ sort.Obj → is_object o ≡ true
unfolding is_object the_value
object-there (Some (of_object a)) k is e h = refl
object-there (Some (of_number a)) k is e h = absurd (cc)
object-there (Some (of_truth a)) k is e h = absurd (cc)
object-there (Some (of_set a)) k is e h = absurd (cc)
object-there (Some (of_field a)) k is e h = absurd (cc)
object-there None k is e h = absurd (cc)

within-some : (ts : List ValueTree) (n : ℕ) → n < length ts → is_some (slice_get ts n) ≡ true
within-some [] n le = absurd (omega arith)
within-some (t ∷ ts) zero le = refl
within-some (t ∷ ts) (suc n) le = within-some ts n (omega arith)

pub object-by-sort : (ts : List ValueTree) (n : ℕ) (k : Sort) → n < length ts → k ≡ tree_sort (the_value (slice_get ts n)) → k ≡ sort.Obj → is_object (slice_get ts n) ≡ true
object-by-sort ts n k le e h = object-there (slice_get ts n) k (within-some ts n le) e h

pub closed-object : (o : Option ValueTree) → is_object o ≡ true → is_closed_value (the_value o) 0 ≡ true → is_closed_term (the_object o) 0 ≡ true
unfolding is_object the_object the_value is_closed_value
closed-object (Some (of_object a)) is h = h
closed-object (Some (of_number a)) is h = absurd (cc)
closed-object (Some (of_truth a)) is h = absurd (cc)
closed-object (Some (of_set a)) is h = absurd (cc)
closed-object (Some (of_field a)) is h = absurd (cc)
closed-object None is h = absurd (cc)

pub ruleset sort_steps = (truth-by-sort, number-by-sort, set-by-sort, field-by-sort, object-by-sort, closed-object)

last-of : (p q r a : Bool) → (p && q && r && a) ≡ true → (w : Bool) → w ≡ true → (p && q && r && w) ≡ true
last-of true true true a h w e = e
last-of true true false a h w e = absurd (cc)
last-of true false r a h w e = absurd (cc)
last-of false q r a h w e = absurd (cc)

third-of : (p q a r : Bool) → (p && q && a && r) ≡ true → (w : Bool) → w ≡ true → (p && q && w && r) ≡ true
third-of true true true r h w e = ap (λ x. x && r) e ∙ h
third-of true true false r h w e = absurd (cc)
third-of true false a r h w e = absurd (cc)
third-of false q a r h w e = absurd (cc)

pub reach-from : (p : Pools) (ts : List ValueTree) (l a b w : ℕ) → fits p ts (s.Reach l a b) ≡ true → is_object (slice_get ts w) ≡ true → fits p ts (s.Reach l w b) ≡ true
unfolding fits
reach-from p ts l a b w h e = third-of (is_some (slice_get p.lists l)) (are_fields ts (the_list (slice_get p.lists l))) (is_object (slice_get ts a)) (is_object (slice_get ts b)) h (is_object (slice_get ts w)) e

pub reach-to : (p : Pools) (ts : List ValueTree) (l a b w : ℕ) → fits p ts (s.Reach l a b) ≡ true → is_object (slice_get ts w) ≡ true → fits p ts (s.Reach l a w) ≡ true
unfolding fits
reach-to p ts l a b w h e = last-of (is_some (slice_get p.lists l)) (are_fields ts (the_list (slice_get p.lists l))) (is_object (slice_get ts a)) (is_object (slice_get ts b)) h (is_object (slice_get ts w)) e

pub ruleset reach_steps = (reach-from, reach-to)
