-- Where names stand in the lists of a query.
use Rattle.std.proofs.Common.{◌≡◌, refl, sym, ap, ◌∙◌, ℕ, ◌+◌, ◌<◌, Bool, true, false, not, if◌then◌else◌, List, [], ◌∷◌, ◌++◌, length, get_or, arith, add-one, ◌⊎◌, inl, inr}
use Rattle.std.specs.Prelude.{filter}
use Rattle.std.proofs.lemmas.Bool.{true≢false}
use Rattle.jh_form.specs.Tree.{TermTree, IntTree, SetTree, ValueTree, FormulaTree, of_object, of_number, of_truth, of_set, of_field}
use Rattle.jh_form.specs.Tree as t
use Rattle.jh_boxed_operations.specs.comparison.Exchanged.{equal_trees}
use Rattle.jh_boxed_operations.proofs.comparison.Equalities.{equal_trees-true, equal_trees-same}
use Rattle.jh_approx.specs.definition.Names.{NameLists, without_repeats, place_in, is_set_name, is_element, is_number_name, is_flag, listed}
use Rattle.jh_approx.proofs.definition.Counts.{sure}

-- a name is one of a list
abbrev pub Among : ValueTree → List ValueTree → Type 0
Among v [] = ⊥
Among v (w ∷ ws) = (w ≡ v) ⊎ Among v ws

pub among-left : (v : ValueTree) (xs ys : List ValueTree) → Among v xs → Among v (xs ++ ys)
among-left v [] ys h = absurd h
among-left v (x ∷ xs) ys (inl e) = inl e
among-left v (x ∷ xs) ys (inr h) = inr (among-left v xs ys h)

pub among-right : (v : ValueTree) (xs ys : List ValueTree) → Among v ys → Among v (xs ++ ys)
among-right v [] ys h = h
among-right v (x ∷ xs) ys h = inr (among-right v xs ys h)

chosen-here : (b : Bool) (v x : ValueTree) (xs : List ValueTree) → b ≡ true → x ≡ v → Among v (if b then x ∷ xs else xs)
chosen-here true v x xs h e = inl e
chosen-here false v x xs h e = absurd (true≢false (sym h))

chosen-later : (b : Bool) (v x : ValueTree) (xs : List ValueTree) → Among v xs → Among v (if b then x ∷ xs else xs)
chosen-later true v x xs h = inr h
chosen-later false v x xs h = h

among-filter : (p : ValueTree → Bool) (v : ValueTree) (xs : List ValueTree) → p v ≡ true → Among v xs → Among v (filter p xs)
among-filter p v [] h k = absurd k
among-filter p v (x ∷ xs) h (inl e) = chosen-here (p x) v x (filter p xs) (ap p e ∙ h) e
among-filter p v (x ∷ xs) h (inr k) = chosen-later (p x) v x (filter p xs) (among-filter p v xs h k)

among-once : (v : ValueTree) (xs : List ValueTree) → Among v xs → Among v (without_repeats xs)
unfolding without_repeats
among-once v [] h = absurd h
among-once v (x ∷ xs) (inl e) = inl e
among-once v (x ∷ xs) (inr h) =
    elim (sure (equal_trees x v)) [
      | inl e ↦ inl (equal_trees-true x v e)
      | inr e ↦ inr (among-filter (λ w. not (equal_trees x w)) v (without_repeats xs) (ap not e) (among-once v xs h))
    ]

-- the name stands at the place
pub record Stands (vs : List ValueTree) (v : ValueTree) (k : ℕ) : Type 0 where
  pub inside : k < length vs
  pub name : (d : ValueTree) → get_or vs k d ≡ v

place-more : (w v : ValueTree) (ws : List ValueTree) (k : ℕ) (b : Bool) → (b ≡ true → w ≡ v) → (b ≡ false → Stands ws v k) → Stands (w ∷ ws) v (if b then 0 else k + 1)
place-more w v ws k true h r = record { inside = omega arith; name = λ d. h refl }
place-more w v ws k false h r = let lt = (r refl).inside in record { inside = omega arith; name = λ d. ap (λ n. get_or (w ∷ ws) n d) (add-one k) ∙ (r refl).name d }

found-later : (w v : ValueTree) (ws : List ValueTree) → (w ≡ v) ⊎ Among v ws → equal_trees w v ≡ false → Among v ws
found-later w v ws (inl e) h = absurd (true≢false (sym (equal_trees-same w v e) ∙ h))
found-later w v ws (inr k) h = k

pub place-stands : (ws : List ValueTree) (v : ValueTree) → Among v ws → Stands ws v (place_in ws v)
unfolding place_in
place-stands [] v h = absurd h
place-stands (w ∷ ws) v h = place-more w v ws (place_in ws v) (equal_trees w v) (equal_trees-true w v) (λ e. place-stands ws v (found-later w v ws h e))

-- a name has a place among those of its sort
abbrev pub IsPlaced : NameLists → ValueTree → Type 0
IsPlaced n (of_set a) = Stands n.sets (of_set a) (place_in n.sets (of_set a))
IsPlaced n (of_object a) = Stands n.elements (of_object a) (place_in n.elements (of_object a))
IsPlaced n (of_number a) = Stands n.numbers (of_number a) (place_in n.numbers (of_number a))
IsPlaced n (of_truth a) = Stands n.flags (of_truth a) (place_in n.flags (of_truth a))
IsPlaced n (of_field a) = Unit {0}

abbrev pub ArePlaced : NameLists → List ValueTree → Type 0
ArePlaced n vs = (v : ValueTree) → Among v vs → IsPlaced n v

pub listed-placed : (vs : List ValueTree) → ArePlaced (listed vs) vs
unfolding listed is_set_name is_element is_number_name is_flag
listed-placed vs (of_set a) h = place-stands _ (of_set a) (among-once (of_set a) (filter is_set_name vs) (among-filter is_set_name (of_set a) vs refl h))
listed-placed vs (of_object a) h = place-stands _ (of_object a) (among-once (of_object a) (of_object t.null ∷ filter is_element vs) (inr (among-filter is_element (of_object a) vs refl h)))
listed-placed vs (of_number a) h = place-stands _ (of_number a) (among-once (of_number a) (filter is_number_name vs) (among-filter is_number_name (of_number a) vs refl h))
listed-placed vs (of_truth a) h = place-stands _ (of_truth a) (among-once (of_truth a) (filter is_flag vs) (among-filter is_flag (of_truth a) vs refl h))
listed-placed vs (of_field a) h = tt

pub left : (n : NameLists) (xs ys : List ValueTree) → ArePlaced n (xs ++ ys) → ArePlaced n xs
left n xs ys h v k = h v (among-left v xs ys k)

pub right : (n : NameLists) (xs ys : List ValueTree) → ArePlaced n (xs ++ ys) → ArePlaced n ys
right n xs ys h v k = h v (among-right v xs ys k)
