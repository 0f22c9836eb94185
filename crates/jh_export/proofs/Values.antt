-- The sort of a node, and its value at that sort.
use Rattle.std.proofs.Common.{◌≡◌, refl, sym, ap, ◌∙◌, ℕ, ◌<◌, true, List, length, slice_get, Some, None}
use Rattle.std.specs.Prelude.{Option}
use Rattle.std.proofs.lemmas.Bool.{true≢false}
use Rattle.jh_name.specs.declared.place.Sort.TheVariants as Sort
use Rattle.jh_form.specs.Tree.{ValueTree, of_object, of_number, of_truth, of_set, of_field}
use Rattle.jh_form.specs.Sorts.{tree_sort}
use Rattle.jh_form.proofs.Steps.{value_tree-Obj, value_tree-Int, value_tree-Bool, value_tree-Set, value_tree-Field}
use Rattle.jh_arena.specs.table.Entries.{is_object, is_number, is_set, is_field, is_truth, the_object, the_number, the_set, the_field, the_truth, the_value}
use Rattle.jh_arena.proofs.table.Unique.{at-within}

object-seen : (v : ValueTree) → tree_sort v ≡ Sort.Obj → is_object (Some v) ≡ true
unfolding is_object
object-seen (of_object a) h = refl
object-seen (of_number a) h = absurd (cc)
object-seen (of_truth a) h = absurd (cc)
object-seen (of_set a) h = absurd (cc)
object-seen (of_field a) h = absurd (cc)

-- a node of this sort is one
pub object-sort : (ts : List ValueTree) (n : ℕ) → n < length ts → tree_sort (the_value (slice_get ts n)) ≡ Sort.Obj → is_object (slice_get ts n) ≡ true
unfolding the_value
object-sort ts n lt h =
    let at = at-within ts n lt in
    ap is_object at.1 ∙ object-seen at.0 (sym (ap (λ o. tree_sort (the_value o)) at.1) ∙ h)

-- the value of a node of this sort
pub object-whole : (o : Option ValueTree) → is_object o ≡ true → of_object (the_object o) ≡ the_value o
unfolding is_object the_object the_value
object-whole None h = absurd (true≢false (sym h))
object-whole (Some (of_object a)) h = refl
object-whole (Some (of_number a)) h = absurd (true≢false (sym h))
object-whole (Some (of_truth a)) h = absurd (true≢false (sym h))
object-whole (Some (of_set a)) h = absurd (true≢false (sym h))
object-whole (Some (of_field a)) h = absurd (true≢false (sym h))

number-seen : (v : ValueTree) → tree_sort v ≡ Sort.Int → is_number (Some v) ≡ true
unfolding is_number
number-seen (of_object a) h = absurd (cc)
number-seen (of_number a) h = refl
number-seen (of_truth a) h = absurd (cc)
number-seen (of_set a) h = absurd (cc)
number-seen (of_field a) h = absurd (cc)

-- a node of this sort is one
pub number-sort : (ts : List ValueTree) (n : ℕ) → n < length ts → tree_sort (the_value (slice_get ts n)) ≡ Sort.Int → is_number (slice_get ts n) ≡ true
unfolding the_value
number-sort ts n lt h =
    let at = at-within ts n lt in
    ap is_number at.1 ∙ number-seen at.0 (sym (ap (λ o. tree_sort (the_value o)) at.1) ∙ h)

-- the value of a node of this sort
pub number-whole : (o : Option ValueTree) → is_number o ≡ true → of_number (the_number o) ≡ the_value o
unfolding is_number the_number the_value
number-whole None h = absurd (true≢false (sym h))
number-whole (Some (of_object a)) h = absurd (true≢false (sym h))
number-whole (Some (of_number a)) h = refl
number-whole (Some (of_truth a)) h = absurd (true≢false (sym h))
number-whole (Some (of_set a)) h = absurd (true≢false (sym h))
number-whole (Some (of_field a)) h = absurd (true≢false (sym h))

truth-seen : (v : ValueTree) → tree_sort v ≡ Sort.Bool → is_truth (Some v) ≡ true
unfolding is_truth
truth-seen (of_object a) h = absurd (cc)
truth-seen (of_number a) h = absurd (cc)
truth-seen (of_truth a) h = refl
truth-seen (of_set a) h = absurd (cc)
truth-seen (of_field a) h = absurd (cc)

-- a node of this sort is one
pub truth-sort : (ts : List ValueTree) (n : ℕ) → n < length ts → tree_sort (the_value (slice_get ts n)) ≡ Sort.Bool → is_truth (slice_get ts n) ≡ true
unfolding the_value
truth-sort ts n lt h =
    let at = at-within ts n lt in
    ap is_truth at.1 ∙ truth-seen at.0 (sym (ap (λ o. tree_sort (the_value o)) at.1) ∙ h)

-- the value of a node of this sort
pub truth-whole : (o : Option ValueTree) → is_truth o ≡ true → of_truth (the_truth o) ≡ the_value o
unfolding is_truth the_truth the_value
truth-whole None h = absurd (true≢false (sym h))
truth-whole (Some (of_object a)) h = absurd (true≢false (sym h))
truth-whole (Some (of_number a)) h = absurd (true≢false (sym h))
truth-whole (Some (of_truth a)) h = refl
truth-whole (Some (of_set a)) h = absurd (true≢false (sym h))
truth-whole (Some (of_field a)) h = absurd (true≢false (sym h))

set-seen : (v : ValueTree) → tree_sort v ≡ Sort.Set → is_set (Some v) ≡ true
unfolding is_set
set-seen (of_object a) h = absurd (cc)
set-seen (of_number a) h = absurd (cc)
set-seen (of_truth a) h = absurd (cc)
set-seen (of_set a) h = refl
set-seen (of_field a) h = absurd (cc)

-- a node of this sort is one
pub set-sort : (ts : List ValueTree) (n : ℕ) → n < length ts → tree_sort (the_value (slice_get ts n)) ≡ Sort.Set → is_set (slice_get ts n) ≡ true
unfolding the_value
set-sort ts n lt h =
    let at = at-within ts n lt in
    ap is_set at.1 ∙ set-seen at.0 (sym (ap (λ o. tree_sort (the_value o)) at.1) ∙ h)

-- the value of a node of this sort
pub set-whole : (o : Option ValueTree) → is_set o ≡ true → of_set (the_set o) ≡ the_value o
unfolding is_set the_set the_value
set-whole None h = absurd (true≢false (sym h))
set-whole (Some (of_object a)) h = absurd (true≢false (sym h))
set-whole (Some (of_number a)) h = absurd (true≢false (sym h))
set-whole (Some (of_truth a)) h = absurd (true≢false (sym h))
set-whole (Some (of_set a)) h = refl
set-whole (Some (of_field a)) h = absurd (true≢false (sym h))

field-seen : (v : ValueTree) → tree_sort v ≡ Sort.Field → is_field (Some v) ≡ true
unfolding is_field
field-seen (of_object a) h = absurd (cc)
field-seen (of_number a) h = absurd (cc)
field-seen (of_truth a) h = absurd (cc)
field-seen (of_set a) h = absurd (cc)
field-seen (of_field a) h = refl

-- a node of this sort is one
pub field-sort : (ts : List ValueTree) (n : ℕ) → n < length ts → tree_sort (the_value (slice_get ts n)) ≡ Sort.Field → is_field (slice_get ts n) ≡ true
unfolding the_value
field-sort ts n lt h =
    let at = at-within ts n lt in
    ap is_field at.1 ∙ field-seen at.0 (sym (ap (λ o. tree_sort (the_value o)) at.1) ∙ h)

-- the value of a node of this sort
pub field-whole : (o : Option ValueTree) → is_field o ≡ true → of_field (the_field o) ≡ the_value o
unfolding is_field the_field the_value
field-whole None h = absurd (true≢false (sym h))
field-whole (Some (of_object a)) h = absurd (true≢false (sym h))
field-whole (Some (of_number a)) h = absurd (true≢false (sym h))
field-whole (Some (of_truth a)) h = absurd (true≢false (sym h))
field-whole (Some (of_set a)) h = absurd (true≢false (sym h))
field-whole (Some (of_field a)) h = refl

pub ruleset value_steps = (object-sort, number-sort, truth-sort, set-sort, field-sort)

pub ruleset object_value_steps = (value_tree-Obj, object-whole)

pub ruleset number_value_steps = (value_tree-Int, number-whole)

pub ruleset truth_value_steps = (value_tree-Bool, truth-whole)

pub ruleset set_value_steps = (value_tree-Set, set-whole)

pub ruleset field_value_steps = (value_tree-Field, field-whole)
