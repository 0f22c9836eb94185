-- Equations over nodes, by the sorts of their sides.
use Rattle.std.proofs.Common.{◌≡◌, refl, sym, ap, ◌∙◌, Bool, true, false, ℕ, List, slice_get, Some, None}
use Rattle.jh_name.specs.declared.place.Sort.TheVariants as sort
use Rattle.jh_form.specs.Tree.{TermTree, IntTree, SetTree, FieldTree, ValueTree, FormulaTree, of_object, of_number, of_truth, of_set, of_field}
use Rattle.jh_form.specs.Tree as t
use Rattle.std.proofs.lemmas.Bool.{true≢false}
use Rattle.jh_name.specs.declared.place.Sort.{Sort}
use Rattle.jh_form.specs.Sorts.{tree_sort, same_sort}
use Rattle.jh_derivation_rules.specs.Rules.{equation}
use Rattle.jh_derivation_steps.specs.premises.Nodes.{IsMade, IsFormula, IsTerm, IsSet, IsNumber, option_formula}
use Rattle.jh_derivation_steps.proofs.premises.Carried.{made-is, is-formula, is-term, is-set, is-number}

pub equal-objects : (ts us : List ValueTree) (left right made : ℕ) (v w : ValueTree) → slice_get ts left ≡ Some v → slice_get ts right ≡ Some w → tree_sort v ≡ sort.Obj → tree_sort w ≡ sort.Obj →
    ((a b : TermTree) → slice_get ts left ≡ Some (of_object a) → slice_get ts right ≡ Some (of_object b) → slice_get us made ≡ Some (of_truth (t.eq_object a b))) → (option_formula us (Some made) ≡ equation v w) × IsMade us (Some made)
unfolding equation
equal-objects ts us left right made (of_object a) (of_object b) hv hw sv sw is = made-is us made (t.eq_object a b) (is a b hv hw)
equal-objects ts us left right made (of_object a) _ hv hw sv sw is = absurd (cc)
equal-objects ts us left right made _ w hv hw sv sw is = absurd (cc)

pub equal-numbers : (ts us : List ValueTree) (left right made : ℕ) (v w : ValueTree) → slice_get ts left ≡ Some v → slice_get ts right ≡ Some w → tree_sort v ≡ sort.Int → tree_sort w ≡ sort.Int →
    ((a b : IntTree) → slice_get ts left ≡ Some (of_number a) → slice_get ts right ≡ Some (of_number b) → slice_get us made ≡ Some (of_truth (t.eq_number a b))) → (option_formula us (Some made) ≡ equation v w) × IsMade us (Some made)
unfolding equation
equal-numbers ts us left right made (of_number a) (of_number b) hv hw sv sw is = made-is us made (t.eq_number a b) (is a b hv hw)
equal-numbers ts us left right made (of_number a) _ hv hw sv sw is = absurd (cc)
equal-numbers ts us left right made _ w hv hw sv sw is = absurd (cc)

pub equal-truths : (ts us : List ValueTree) (left right made : ℕ) (v w : ValueTree) → slice_get ts left ≡ Some v → slice_get ts right ≡ Some w → tree_sort v ≡ sort.Bool → tree_sort w ≡ sort.Bool →
    ((a b : FormulaTree) → slice_get ts left ≡ Some (of_truth a) → slice_get ts right ≡ Some (of_truth b) → slice_get us made ≡ Some (of_truth (t.iff a b))) → (option_formula us (Some made) ≡ equation v w) × IsMade us (Some made)
unfolding equation
equal-truths ts us left right made (of_truth a) (of_truth b) hv hw sv sw is = made-is us made (t.iff a b) (is a b hv hw)
equal-truths ts us left right made (of_truth a) _ hv hw sv sw is = absurd (cc)
equal-truths ts us left right made _ w hv hw sv sw is = absurd (cc)

pub equal-sets : (ts us : List ValueTree) (left right made : ℕ) (v w : ValueTree) → slice_get ts left ≡ Some v → slice_get ts right ≡ Some w → tree_sort v ≡ sort.Set → tree_sort w ≡ sort.Set →
    ((a b : SetTree) → slice_get ts left ≡ Some (of_set a) → slice_get ts right ≡ Some (of_set b) → slice_get us made ≡ Some (of_truth (t.eq_set a b))) → (option_formula us (Some made) ≡ equation v w) × IsMade us (Some made)
unfolding equation
equal-sets ts us left right made (of_set a) (of_set b) hv hw sv sw is = made-is us made (t.eq_set a b) (is a b hv hw)
equal-sets ts us left right made (of_set a) _ hv hw sv sw is = absurd (cc)
equal-sets ts us left right made _ w hv hw sv sw is = absurd (cc)

pub unequal-sorts : (v w : ValueTree) → (tree_sort v ≡ tree_sort w → ⊥) → equation v w ≡ None
unfolding equation
unequal-sorts (of_object a) (of_object b) h = absurd (h refl)
unequal-sorts (of_number a) (of_number b) h = absurd (h refl)
unequal-sorts (of_truth a) (of_truth b) h = absurd (h refl)
unequal-sorts (of_set a) (of_set b) h = absurd (h refl)
unequal-sorts _ _ h = refl

pub field-equation : (v w : ValueTree) → tree_sort v ≡ sort.Field → equation v w ≡ None
unfolding equation
field-equation (of_object a) w h = absurd (cc)
field-equation (of_number a) w h = absurd (cc)
field-equation (of_truth a) w h = absurd (cc)
field-equation (of_set a) w h = absurd (cc)
field-equation (of_field a) _ h = refl

same-sort-true : (a b : Sort) → same_sort a b ≡ true → a ≡ b
same-sort-true sort.Obj sort.Obj h = refl
same-sort-true sort.Int sort.Int h = refl
same-sort-true sort.Bool sort.Bool h = refl
same-sort-true sort.Set sort.Set h = refl
same-sort-true sort.Field sort.Field h = refl
same-sort-true _ _ h = absurd (true≢false (sym h))

same-sort-same : (a : Sort) → same_sort a a ≡ true
same-sort-same sort.Obj = refl
same-sort-same sort.Int = refl
same-sort-same sort.Bool = refl
same-sort-same sort.Set = refl
same-sort-same sort.Field = refl

pub sorts-differ : (a b x y : Sort) (r : Bool) → a ≡ x → b ≡ y → r ≡ same_sort a b → r ≡ false → x ≡ y → ⊥
sorts-differ a b x y r ha hb hr apart e = true≢false (sym (same-sort-same a) ∙ ap (same_sort a) (ha ∙ e ∙ sym hb) ∙ sym hr ∙ apart)

pub sorts-same : (a b x y z : Sort) (r : Bool) → a ≡ x → b ≡ y → r ≡ same_sort a b → r ≡ true → a ≡ z → (x ≡ z) × (y ≡ z)
sorts-same a b x y z r ha hb hr so e = let same = same-sort-true a b (sym hr ∙ so) in (sym ha ∙ e, sym hb ∙ sym same ∙ e)

pub term-of-sort : (ts : List ValueTree) (n : ℕ) (v : ValueTree) → slice_get ts n ≡ Some v → tree_sort v ≡ sort.Obj → IsTerm ts n
term-of-sort ts n (of_object a) h e = is-term ts n a h
term-of-sort ts n _ h e = absurd (cc)

pub number-of-sort : (ts : List ValueTree) (n : ℕ) (v : ValueTree) → slice_get ts n ≡ Some v → tree_sort v ≡ sort.Int → IsNumber ts n
number-of-sort ts n (of_number a) h e = is-number ts n a h
number-of-sort ts n _ h e = absurd (cc)

pub formula-of-sort : (ts : List ValueTree) (n : ℕ) (v : ValueTree) → slice_get ts n ≡ Some v → tree_sort v ≡ sort.Bool → IsFormula ts n
formula-of-sort ts n (of_truth a) h e = is-formula ts n a h
formula-of-sort ts n _ h e = absurd (cc)

pub set-of-sort : (ts : List ValueTree) (n : ℕ) (v : ValueTree) → slice_get ts n ≡ Some v → tree_sort v ≡ sort.Set → IsSet ts n
set-of-sort ts n (of_set a) h e = is-set ts n a h
set-of-sort ts n _ h e = absurd (cc)
