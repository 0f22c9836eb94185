-- Tests of the numbers below a bound, and lists to which an item is added.
use Rattle.std.proofs.Common.{◌≡◌, refl, sym, ap, ◌∙◌, ◌⊎◌, inl, inr, ℕ, zero, suc, ◌+◌, ◌<◌, ◌≤◌, Bool, true, false, ◌&&◌, List, [], ◌∷◌, ◌++◌, length, slice_get, Some, arith}
use Rattle.std.proofs.lemmas.Bool.{or_cases, or_left, or_right, cases_eq, true≢false}
use Rattle.jh_form.specs.Meaning.{any_below, all_below}
use Rattle.jh_form.proofs.ClosedLemmas.{both-left, both-right}

pub any-below : (n : ℕ) (p : ℕ → Bool) → any_below n p ≡ true → (x : ℕ) × (x < n) × (p x ≡ true)
any-below zero p h = absurd (cc)
any-below (suc n) p h =
    elim (or_cases (any_below n p) (p n) h) [
      | inl e ↦ let r = any-below n p e in let lt = r.1 in (r.0, omega arith, r.2)
      | inr e ↦ (n, omega arith, e)
    ]

pub below-any : (n x : ℕ) (p : ℕ → Bool) → x < n → p x ≡ true → any_below n p ≡ true
below-any zero x p lt h = absurd (omega arith)
below-any (suc n) x p lt h =
    elim (cases_eq x n) [
      | inl e ↦ or_right (any_below n p) (p n) (cc)
      | inr e ↦ or_left (any_below n p) (p n) (below-any n x p (omega arith) h)
    ]

pub below-all : (n : ℕ) (p : ℕ → Bool) → ((x : ℕ) → x < n → p x ≡ true) → all_below n p ≡ true
below-all zero p h = refl
below-all (suc n) p h = λ i. below-all n p (λ x lt. h x (omega arith)) i && h n (omega arith) i

pub all-below : (n x : ℕ) (p : ℕ → Bool) → all_below n p ≡ true → x < n → p x ≡ true
all-below zero x p h lt = absurd (omega arith)
all-below (suc n) x p h lt =
    elim (cases_eq x n) [
      | inl e ↦ let last = both-right (all_below n p) (p n) h in cc
      | inr e ↦ all-below n x p (both-left (all_below n p) (p n) h) (omega arith)
    ]

-- a truth that can't be true is false
pub not-so : (b : Bool) → (b ≡ true → ⊥) → b ≡ false
not-so true h = absurd (h refl)
not-so false h = refl

pub is-false : (b : Bool) → b ≡ false → b ≡ true → ⊥
is-false b e h = true≢false (sym h ∙ e)

-- an item of a list to which one was added at the end
pub pushed-old : {X : Type 0} (xs : List X) (y : X) (j : ℕ) (x : X) → slice_get xs j ≡ Some x → slice_get (xs ++ y ∷ []) j ≡ Some x
pushed-old [] y j x h = absurd (cc)
pushed-old (z ∷ xs) y zero x h = h
pushed-old (z ∷ xs) y (suc j) x h = pushed-old xs y j x h

pub pushed-new : {X : Type 0} (xs : List X) (y : X) → slice_get (xs ++ y ∷ []) (length xs) ≡ Some y
pushed-new [] y = refl
pushed-new (z ∷ xs) y = pushed-new xs y

pub pushed-is : {X : Type 0} (xs : List X) (y : X) (j : ℕ) (x : X) → slice_get (xs ++ y ∷ []) j ≡ Some x → (slice_get xs j ≡ Some x) ⊎ ((j ≡ length xs) × (x ≡ y))
pushed-is [] y zero x h = inr (refl, cc)
pushed-is [] y (suc j) x h = absurd (cc)
pushed-is (z ∷ xs) y zero x h = inl h
pushed-is (z ∷ xs) y (suc j) x h = later (pushed-is xs y j x h)
  where
    later : (slice_get xs j ≡ Some x) ⊎ ((j ≡ length xs) × (x ≡ y)) → (slice_get (z ∷ xs) (suc j) ≡ Some x) ⊎ ((suc j ≡ length (z ∷ xs)) × (x ≡ y))
    later (inl e) = inl e
    later (inr e) = inr (ap suc e.0, e.1)
