-- Values of a list.
use Rattle.std.proofs.Common.{◌≡◌, refl, sym, ap, ◌∙◌, Bool, true, false, not, if◌then◌else◌, List, [], ◌∷◌, ◌++◌, ◌⊎◌, inl, inr}
use Rattle.std.specs.Prelude.{filter}
use Rattle.std.proofs.lemmas.Bool.{true≢false}
use Rattle.jh_form.specs.Tree.{ValueTree}
use Rattle.jh_boxed_operations.specs.comparison.Exchanged.{equal_trees}
use Rattle.jh_boxed_operations.proofs.comparison.Equalities.{equal_trees-true}
use Rattle.jh_approx.specs.definition.Names.{without_repeats}

-- a value is one of a list
abbrev pub Among : ValueTree → List ValueTree → Type 0
Among v [] = ⊥
Among v (w ∷ ws) = (w ≡ v) ⊎ Among v ws

pub among-left : (v : ValueTree) (xs ys : List ValueTree) → Among v xs → Among v (xs ++ ys)
among-left v [] ys h = absurd h
among-left v (x ∷ xs) ys (inl e) = inl e
among-left v (x ∷ xs) ys (inr h) = inr (among-left v xs ys h)

pub among-right : (v : ValueTree) (xs ys : List ValueTree) → Among v ys → Among v (xs ++ ys)
among-right v [] ys h = h
among-right v (x ∷ xs) ys h = inr (among-right v xs ys h)

pub among-either : (v : ValueTree) (xs ys : List ValueTree) → Among v (xs ++ ys) → Among v xs ⊎ Among v ys
among-either v [] ys h = inr h
among-either v (x ∷ xs) ys (inl e) = inl (inl e)
among-either v (x ∷ xs) ys (inr h) = elim (among-either v xs ys h) [ inl l ↦ inl (inr l) | inr r ↦ inr r ]

kept-if : (c : Bool) (v x : ValueTree) (xs ys : List ValueTree) → (Among v xs → Among v ys) → Among v (if c then x ∷ xs else xs) → (x ≡ v) ⊎ Among v ys
kept-if true v x xs ys f (inl e) = inl e
kept-if true v x xs ys f (inr h) = inr (f h)
kept-if false v x xs ys f h = inr (f h)

-- what is left of a list was in it
pub among-filter : (p : ValueTree → Bool) (v : ValueTree) (xs : List ValueTree) → Among v (filter p xs) → Among v xs
among-filter p v [] h = h
among-filter p v (x ∷ xs) h = kept-if (p x) v x (filter p xs) xs (among-filter p v xs) h

passed-if : (p : ValueTree → Bool) (c : Bool) (v x : ValueTree) (xs : List ValueTree) → p x ≡ c → (Among v xs → p v ≡ true) → Among v (if c then x ∷ xs else xs) → p v ≡ true
passed-if p true v x xs e f (inl same) = sym (ap p same) ∙ e
passed-if p true v x xs e f (inr h) = f h
passed-if p false v x xs e f h = f h

-- what is left of a list passed
pub filter-passes : (p : ValueTree → Bool) (v : ValueTree) (xs : List ValueTree) → Among v (filter p xs) → p v ≡ true
filter-passes p v [] h = absurd h
filter-passes p v (x ∷ xs) h = passed-if p (p x) v x (filter p xs) refl (filter-passes p v xs) h

pub among-once : (v : ValueTree) (xs : List ValueTree) → Among v (without_repeats xs) → Among v xs
unfolding without_repeats
among-once v [] h = h
among-once v (x ∷ xs) (inl e) = inl e
among-once v (x ∷ xs) (inr h) = inr (among-once v xs (among-filter _ v (without_repeats xs) h))

kept-here : (c : Bool) (v x : ValueTree) (xs : List ValueTree) → c ≡ true → x ≡ v → Among v (if c then x ∷ xs else xs)
kept-here true v x xs h e = inl e
kept-here false v x xs h e = absurd (true≢false (sym h))

kept-later : (c : Bool) (v x : ValueTree) (xs : List ValueTree) → Among v xs → Among v (if c then x ∷ xs else xs)
kept-later true v x xs h = inr h
kept-later false v x xs h = h

-- what passes is left
pub filter-among : (p : ValueTree → Bool) (v : ValueTree) (xs : List ValueTree) → p v ≡ true → Among v xs → Among v (filter p xs)
filter-among p v [] h k = k
filter-among p v (x ∷ xs) h (inl e) = kept-here (p x) v x (filter p xs) (ap p e ∙ h) e
filter-among p v (x ∷ xs) h (inr k) = kept-later (p x) v x (filter p xs) (filter-among p v xs h k)

sure : (b : Bool) → (b ≡ true) ⊎ (b ≡ false)
sure true = inl refl
sure false = inr refl

pub once-among : (v : ValueTree) (xs : List ValueTree) → Among v xs → Among v (without_repeats xs)
unfolding without_repeats
once-among v [] h = h
once-among v (x ∷ xs) (inl e) = inl e
once-among v (x ∷ xs) (inr h) =
    elim (sure (equal_trees x v)) [
      | inl e ↦ inl (equal_trees-true x v e)
      | inr e ↦ inr (filter-among (λ w. not (equal_trees x w)) v (without_repeats xs) (ap not e) (once-among v xs h))
    ]
