-- How many numbers below a bound pass a test: all of them where as many pass, and more of them where one more passes.
use Rattle.std.proofs.Common.{◌≡◌, refl, sym, ℕ, zero, suc, ◌<◌, ◌≤◌, Bool, true, false, ◌&&◌, if◌then◌else◌, inl, inr, arith}
use Rattle.std.proofs.lemmas.Bool.{or_cases, or_left, or_right, cases_eq, true≢false}
use Rattle.jh_form.specs.Meaning.{any_below, all_below, count_below}
use Rattle.jh_form.proofs.ClosedLemmas.{both-left, both-right}

pub any-below : (n : ℕ) (p : ℕ → Bool) → any_below n p ≡ true → (x : ℕ) × (x < n) × (p x ≡ true)
any-below zero p h = absurd (cc)
any-below (suc n) p h =
    elim (or_cases (any_below n p) (p n) h) [
      | inl e ↦ let r = any-below n p e in let lt = r.1 in (r.0, omega arith, r.2)
      | inr e ↦ (n, omega arith, e)
    ]

pub below-any : (n x : ℕ) (p : ℕ → Bool) → x < n → p x ≡ true → any_below n p ≡ true
below-any zero x p lt h = absurd (omega arith)
below-any (suc n) x p lt h =
    elim (cases_eq x n) [
      | inl e ↦ or_right (any_below n p) (p n) (cc)
      | inr e ↦ or_left (any_below n p) (p n) (below-any n x p (omega arith) h)
    ]

pub all-below : (n x : ℕ) (p : ℕ → Bool) → all_below n p ≡ true → x < n → p x ≡ true
all-below zero x p h lt = absurd (omega arith)
all-below (suc n) x p h lt =
    elim (cases_eq x n) [
      | inl e ↦ let last = both-right (all_below n p) (p n) h in cc
      | inr e ↦ all-below n x p (both-left (all_below n p) (p n) h) (omega arith)
    ]

pub below-all : (n : ℕ) (p : ℕ → Bool) → ((x : ℕ) → x < n → p x ≡ true) → all_below n p ≡ true
below-all zero p h = refl
below-all (suc n) p h = λ i. below-all n p (λ x lt. h x (omega arith)) i && h n (omega arith) i

one-most : (b : Bool) → (if b then 1 else 0) ≤ 1
one-most true = omega arith
one-most false = omega arith

pub count-most : (n : ℕ) (p : ℕ → Bool) → count_below n p ≤ n
count-most zero p = omega arith
count-most (suc n) p = omega (arith, count-most n p, one-most (p n))

one-true : (b : Bool) → 1 ≤ (if b then 1 else 0) → b ≡ true
one-true true h = refl
one-true false h = absurd (omega arith)

-- all pass where as many pass as there are
pub count-full : (n x : ℕ) (p : ℕ → Bool) → n ≤ count_below n p → x < n → p x ≡ true
count-full zero x p h lt = absurd (omega arith)
count-full (suc n) x p h lt =
    let most = count-most n p in
    let one = one-most (p n) in
    elim (cases_eq x n) [
      | inl e ↦ let last : p n ≡ true = one-true (p n) (omega arith) in cc
      | inr e ↦ count-full n x p (omega arith) (omega arith)
    ]

one-grows : (b c : Bool) → (b ≡ true → c ≡ true) → (if b then 1 else 0) ≤ (if c then 1 else 0)
one-grows true true h = omega arith
one-grows true false h = absurd (true≢false (sym (h refl)))
one-grows false true h = omega arith
one-grows false false h = omega arith

count-grows : (n : ℕ) (p q : ℕ → Bool) → ((x : ℕ) → x < n → p x ≡ true → q x ≡ true) → count_below n p ≤ count_below n q
count-grows zero p q h = omega arith
count-grows (suc n) p q h = omega (arith, count-grows n p q (λ x lt. h x (omega arith)), one-grows (p n) (q n) (h n (omega arith)))

one-more : (b c : Bool) → b ≡ false → c ≡ true → (if b then 1 else 0) < (if c then 1 else 0)
one-more true c h k = absurd (true≢false h)
one-more false true h k = omega arith
one-more false false h k = absurd (true≢false (sym k))

-- more pass where all that passed pass, and one that didn't
pub count-more : (n z : ℕ) (p q : ℕ → Bool) → ((x : ℕ) → x < n → p x ≡ true → q x ≡ true) → z < n → p z ≡ false → q z ≡ true → count_below n p < count_below n q
count-more zero z p q h lt no_z yes_z = absurd (omega arith)
count-more (suc n) z p q h lt no_z yes_z =
    elim (cases_eq z n) [
      | inl e ↦
          let no_n : p n ≡ false = cc in
          let yes_n : q n ≡ true = cc in
          omega (arith, count-grows n p q (λ x below. h x (omega arith)), one-more (p n) (q n) no_n yes_n)
      | inr e ↦ omega (arith, count-more n z p q (λ x below. h x (omega arith)) (omega arith) no_z yes_z, one-grows (p n) (q n) (h n (omega arith)))
    ]
