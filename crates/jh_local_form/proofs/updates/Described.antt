-- What is said of an update by the sort of its value.
use Rattle.std.proofs.Common.{◌≡◌, refl, sym, ap, ◌∙◌, ℕ, true, List, [], ◌∷◌, slice_get, Option, Some, None}
use Rattle.jh_name.specs.declared.place.Sort as place
use Rattle.jh_name.specs.declared.place.Sort.TheVariants as Sort
use Rattle.jh_form.specs.Tree.{TermTree, IntTree, SetTree, FieldTree, FormulaTree, ValueTree}
use Rattle.jh_form.specs.Tree as t
use Rattle.jh_form.specs.Sorts.{tree_sort}
use Rattle.jh_arena.specs.table.Entries.{is_object, is_number, is_truth, is_set, the_object, the_number, the_truth, the_set, the_value}
use Rattle.jh_arena.specs.table.Growth.{Grows}
use Rattle.jh_approx.specs.jh_derivation_rules.Rules.{described}
use Rattle.jh_fca.specs.local_form.Named.{if_any}
use Rattle.jh_local_form.specs.updates.Describing.{read_as, same_as, told_as}
use Rattle.jh_local_form.specs.updates.Telling.{HoldsSort}

-- a value of a sort is that of its sort
pub object-of : (v : ValueTree) → tree_sort v ≡ Sort.Obj → (a : TermTree) × (v ≡ t.of_object a)
object-of (t.of_object a) h = (a, refl)
object-of (t.of_number a) h = absurd (cc)
object-of (t.of_truth a) h = absurd (cc)
object-of (t.of_set a) h = absurd (cc)
object-of (t.of_field a) h = absurd (cc)

pub number-of : (v : ValueTree) → tree_sort v ≡ Sort.Int → (a : IntTree) × (v ≡ t.of_number a)
number-of (t.of_object a) h = absurd (cc)
number-of (t.of_number a) h = (a, refl)
number-of (t.of_truth a) h = absurd (cc)
number-of (t.of_set a) h = absurd (cc)
number-of (t.of_field a) h = absurd (cc)

pub truth-of : (v : ValueTree) → tree_sort v ≡ Sort.Bool → (a : FormulaTree) × (v ≡ t.of_truth a)
truth-of (t.of_object a) h = absurd (cc)
truth-of (t.of_number a) h = absurd (cc)
truth-of (t.of_truth a) h = (a, refl)
truth-of (t.of_set a) h = absurd (cc)
truth-of (t.of_field a) h = absurd (cc)

pub set-of : (v : ValueTree) → tree_sort v ≡ Sort.Set → (a : SetTree) × (v ≡ t.of_set a)
set-of (t.of_object a) h = absurd (cc)
set-of (t.of_number a) h = absurd (cc)
set-of (t.of_truth a) h = absurd (cc)
set-of (t.of_set a) h = (a, refl)
set-of (t.of_field a) h = absurd (cc)

pub object-is : (o : Option ValueTree) (a : TermTree) → o ≡ Some (t.of_object a) → the_object o ≡ a
unfolding the_object
object-is o a e = ap the_object e

pub truth-is : (o : Option ValueTree) (a : FormulaTree) → o ≡ Some (t.of_truth a) → the_truth o ≡ a
unfolding the_truth
truth-is o a e = ap the_truth e

value-same : (v w : ValueTree) → Some v ≡ Some w → v ≡ w
value-same v w e = cc

-- the sort of what stands at a node
pub sort-at : (ts : List ValueTree) (s : place.Sort) (n : ℕ) (v : ValueTree) → HoldsSort ts s n → slice_get ts n ≡ Some v → tree_sort v ≡ s
sort-at ts s n v h at = ap tree_sort (value-same v h.value (sym at ∙ h.there)) ∙ h.sort

pub object-held : (ts : List ValueTree) (s : place.Sort) (n : ℕ) → HoldsSort ts s n → s ≡ Sort.Obj → is_object (slice_get ts n) ≡ true
unfolding is_object
object-held ts s n h e = let r = object-of h.value (h.sort ∙ e) in ap is_object (h.there ∙ ap (λ v. Some v) r.1)

pub number-held : (ts : List ValueTree) (s : place.Sort) (n : ℕ) → HoldsSort ts s n → s ≡ Sort.Int → is_number (slice_get ts n) ≡ true
unfolding is_number
number-held ts s n h e = let r = number-of h.value (h.sort ∙ e) in ap is_number (h.there ∙ ap (λ v. Some v) r.1)

pub truth-held : (ts : List ValueTree) (s : place.Sort) (n : ℕ) → HoldsSort ts s n → s ≡ Sort.Bool → is_truth (slice_get ts n) ≡ true
unfolding is_truth
truth-held ts s n h e = let r = truth-of h.value (h.sort ∙ e) in ap is_truth (h.there ∙ ap (λ v. Some v) r.1)

pub set-held : (ts : List ValueTree) (s : place.Sort) (n : ℕ) → HoldsSort ts s n → s ≡ Sort.Set → is_set (slice_get ts n) ≡ true
unfolding is_set
set-held ts s n h e = let r = set-of h.value (h.sort ∙ e) in ap is_set (h.there ∙ ap (λ v. Some v) r.1)

-- two values of a sort are the same, said by the maker of that sort
pub same-objects : (v w : ValueTree) → tree_sort v ≡ Sort.Obj → tree_sort w ≡ Sort.Obj → t.eq_object (the_object (Some v)) (the_object (Some w)) ≡ same_as v w
unfolding the_object same_as
same-objects v w h k = let a = object-of v h in let b = object-of w k in (λ i. t.eq_object (the_object (Some (a.1 i))) (the_object (Some (b.1 i)))) ∙ (λ i. same_as (sym a.1 i) (sym b.1 i))

pub same-numbers : (v w : ValueTree) → tree_sort v ≡ Sort.Int → tree_sort w ≡ Sort.Int → t.eq_number (the_number (Some v)) (the_number (Some w)) ≡ same_as v w
unfolding the_number same_as
same-numbers v w h k = let a = number-of v h in let b = number-of w k in (λ i. t.eq_number (the_number (Some (a.1 i))) (the_number (Some (b.1 i)))) ∙ (λ i. same_as (sym a.1 i) (sym b.1 i))

pub same-truths : (v w : ValueTree) → tree_sort v ≡ Sort.Bool → tree_sort w ≡ Sort.Bool → t.iff (the_truth (Some v)) (the_truth (Some w)) ≡ same_as v w
unfolding the_truth same_as
same-truths v w h k = let a = truth-of v h in let b = truth-of w k in (λ i. t.iff (the_truth (Some (a.1 i))) (the_truth (Some (b.1 i)))) ∙ (λ i. same_as (sym a.1 i) (sym b.1 i))

pub same-sets : (v w : ValueTree) → tree_sort v ≡ Sort.Set → tree_sort w ≡ Sort.Set → t.eq_set (the_set (Some v)) (the_set (Some w)) ≡ same_as v w
unfolding the_set same_as
same-sets v w h k = let a = set-of v h in let b = set-of w k in (λ i. t.eq_set (the_set (Some (a.1 i))) (the_set (Some (b.1 i)))) ∙ (λ i. same_as (sym a.1 i) (sym b.1 i))

pub same-fields : (v w : ValueTree) → tree_sort v ≡ Sort.Field → t.true_formula ≡ same_as v w
unfolding same_as
same-fields (t.of_field f) w h = refl
same-fields (t.of_object a) w h = absurd (cc)
same-fields (t.of_number a) w h = absurd (cc)
same-fields (t.of_truth a) w h = absurd (cc)
same-fields (t.of_set a) w h = absurd (cc)

-- the sort of what a field gives
pub read-sort : (s : place.Sort) (f : FieldTree) (a : TermTree) → tree_sort (read_as s f a) ≡ s
unfolding read_as
read-sort Sort.Obj f a = refl
read-sort Sort.Int f a = refl
read-sort Sort.Bool f a = refl
read-sort Sort.Set f a = refl
read-sort Sort.Field f a = refl

-- where values are of this sort, what is told is what the update gives
pub told-described : (s : place.Sort) (g f : FieldTree) (a : TermTree) (v : ValueTree) → tree_sort v ≡ s → (s ≡ Sort.Field → ⊥) → if_any (described g f a v) ≡ told_as s g f a v ∷ []
unfolding described read_as same_as
told-described s g f a (t.of_object v) e h = ap (λ r. told_as r g f a (t.of_object v) ∷ []) e
told-described s g f a (t.of_number v) e h = ap (λ r. told_as r g f a (t.of_number v) ∷ []) e
told-described s g f a (t.of_truth v) e h = ap (λ r. told_as r g f a (t.of_truth v) ∷ []) e
told-described s g f a (t.of_set v) e h = ap (λ r. told_as r g f a (t.of_set v) ∷ []) e
told-described s g f a (t.of_field v) e h = absurd (h (sym e))

-- nothing is told of a field
pub none-described : (g f : FieldTree) (a : TermTree) (v : ValueTree) → tree_sort v ≡ Sort.Field → if_any (described g f a v) ≡ []
unfolding described
none-described g f a (t.of_field v) e = refl
none-described g f a _ e = absurd (cc)

pub held-grows : (ts us : List ValueTree) → Grows ts us → (s : place.Sort) (n : ℕ) → HoldsSort ts s n → HoldsSort us s n
held-grows ts us g s n h = record { value = h.value; there = g.keeps n h.value h.there; sort = h.sort }

pub held-as : (ts : List ValueTree) (s r : place.Sort) (n : ℕ) → s ≡ r → HoldsSort ts s n → HoldsSort ts r n
held-as ts s r n e h = record { value = h.value; there = h.there; sort = h.sort ∙ e }

pub sort-of : (ts : List ValueTree) (n : ℕ) (v : ValueTree) → slice_get ts n ≡ Some v → tree_sort v ≡ tree_sort (the_value (slice_get ts n))
unfolding the_value
sort-of ts n v at = sym (ap (λ o. tree_sort (the_value o)) at)
