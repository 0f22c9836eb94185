-- Truths, and tests over the objects of a universe.
use Rattle.std.proofs.Common.{◌≡◌, refl, sym, ap, ◌∙◌, ℕ, zero, suc, ◌<◌, ◌≤◌, ◌==◌, nat_lt, Bool, true, false, not, ◌&&◌, ◌||◌, ◌⊎◌, inl, inr, arith}
use Rattle.std.proofs.lemmas.Bool.{true≢false, eqb-true, eqb-false, ltb-true, ltb-false}
use Rattle.jh_form.specs.Meaning.{all_below, any_below, every, some, agree}

pub true-or-false : (b : Bool) → (b ≡ true) ⊎ (b ≡ false)
true-or-false true = inl refl
true-or-false false = inr refl

pub both-true : (p q : Bool) → (p && q) ≡ true → (p ≡ true) × (q ≡ true)
both-true true true h = (refl, refl)
both-true true false h = absurd (true≢false (sym h))
both-true false q h = absurd (true≢false (sym h))

pub true-both : (p q : Bool) → p ≡ true → q ≡ true → (p && q) ≡ true
true-both p q h k = λ i. h i && k i

pub either-true : (p q : Bool) → (p || q) ≡ true → (p ≡ true) ⊎ (q ≡ true)
either-true true q h = inl refl
either-true false q h = inr h

pub not-true : (p : Bool) → not p ≡ true → p ≡ true → ⊥
not-true true h e = true≢false (sym h)
not-true false h e = true≢false (sym e)

pub not-false : (p : Bool) → p ≡ false → not p ≡ true
not-false true e = absurd (true≢false e)
not-false false e = refl

pub not-is-false : (p : Bool) → not p ≡ true → p ≡ false
not-is-false true h = absurd (true≢false (sym h))
not-is-false false h = refl

pub agree-same : (p q : Bool) → p ≡ q → agree p q ≡ true
agree-same true true e = refl
agree-same true false e = absurd (true≢false e)
agree-same false true e = absurd (true≢false (sym e))
agree-same false false e = refl

pub agree-true : (p q : Bool) → agree p q ≡ true → p ≡ q
agree-true true true e = refl
agree-true true false e = absurd (true≢false (sym e))
agree-true false true e = absurd (true≢false (sym e))
agree-true false false e = refl

pub implies-true : (p q : Bool) → (not p || q) ≡ true → (not p ≡ true) ⊎ (q ≡ true)
implies-true true q h = inr h
implies-true false q h = inl refl

pub agree-either : (p q : Bool) → agree p q ≡ true → ((p ≡ true) × (q ≡ true)) ⊎ ((not p ≡ true) × (not q ≡ true))
agree-either true true h = inl (refl, refl)
agree-either true false h = absurd (true≢false (sym h))
agree-either false true h = absurd (true≢false (sym h))
agree-either false false h = inr (refl, refl)

pub not-not : (p : Bool) → not (not p) ≡ p
not-not true = refl
not-not false = refl

pub not-and : (p q : Bool) → not (p && q) ≡ (not p || not q)
not-and true q = refl
not-and false q = refl

pub not-or : (p q : Bool) → not (p || q) ≡ (not p && not q)
not-or true q = refl
not-or false q = refl

pub not-implies : (p q : Bool) → not (not p || q) ≡ (p && not q)
not-implies true q = refl
not-implies false q = refl

pub not-agree : (p q : Bool) → not (agree p q) ≡ agree p (not q)
not-agree true q = refl
not-agree false true = refl
not-agree false false = refl

-- one of two consequences, by whether the condition holds
pub by-cases : (c p q : Bool) → (c ≡ true → p ≡ true) → (c ≡ false → q ≡ true) → ((not c || p) && (not (not c) || q)) ≡ true
by-cases true p q h k = true-both p true (h refl) refl
by-cases false p q h k = k refl

not-all : (n : ℕ) (p : ℕ → Bool) → not (all_below n p) ≡ any_below n (λ x. not (p x))
not-all zero p = refl
not-all (suc n) p = not-and (all_below n p) (p n) ∙ ap (λ b. b || not (p n)) (not-all n p)

not-any : (n : ℕ) (p : ℕ → Bool) → not (any_below n p) ≡ all_below n (λ x. not (p x))
not-any zero p = refl
not-any (suc n) p = not-or (any_below n p) (p n) ∙ ap (λ b. b && not (p n)) (not-any n p)

pub not-every : (n : ℕ) (p : ℕ → Bool) → not (every n p) ≡ some n (λ x. not (p x))
not-every n p = not-all (suc n) p

pub not-some : (n : ℕ) (p : ℕ → Bool) → not (some n p) ≡ every n (λ x. not (p x))
not-some n p = not-any (suc n) p

all-made : (n : ℕ) (p : ℕ → Bool) → ((x : ℕ) → x < n → p x ≡ true) → all_below n p ≡ true
all-made zero p h = refl
all-made (suc n) p h = true-both (all_below n p) (p n) (all-made n p (λ x lt. h x (omega arith))) (h n (omega arith))

less-than : (x n : ℕ) → x < suc n → (x == n) ≡ false → x < n
less-than x n lt differs =
    elim (true-or-false (nat_lt x n)) [ inl less ↦ ltb-true x n less | inr more ↦ let least : n ≤ x = ltb-false x n more in let same : x ≡ n = omega (arith, lt, least) in absurd (eqb-false x n differs same) ]

all-at : (n : ℕ) (p : ℕ → Bool) → all_below n p ≡ true → (x : ℕ) → x < n → p x ≡ true
all-at zero p h x lt = absurd (omega arith)
all-at (suc n) p h x lt =
    let parts = both-true (all_below n p) (p n) h in
    elim (true-or-false (x == n)) [ inl same ↦ (λ i. p (eqb-true x n same i)) ∙ parts.1 | inr differs ↦ all-at n p parts.0 x (less-than x n lt differs) ]

pub every-made : (n : ℕ) (p : ℕ → Bool) → ((x : ℕ) → x < suc n → p x ≡ true) → every n p ≡ true
every-made n p h = all-made (suc n) p h

pub every-at : (n : ℕ) (p : ℕ → Bool) → every n p ≡ true → (x : ℕ) → x < suc n → p x ≡ true
every-at n p h x lt = all-at (suc n) p h x lt

any-found : (n : ℕ) (p : ℕ → Bool) → any_below n p ≡ true → (x : ℕ) × (x < n) × (p x ≡ true)
any-found zero p h = absurd (true≢false (sym h))
any-found (suc n) p h =
    elim (either-true (any_below n p) (p n) h) [ inl before ↦ let r = any-found n p before in (r.0, omega (arith, r.1), r.2) | inr here ↦ (n, omega arith, here) ]

pub some-found : (n : ℕ) (p : ℕ → Bool) → some n p ≡ true → (x : ℕ) × (x < suc n) × (p x ≡ true)
some-found n p h = any-found (suc n) p h
