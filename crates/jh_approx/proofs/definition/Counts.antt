-- How many numbers below a bound pass a test.
use Rattle.std.proofs.Common.{◌≡◌, ◌≢◌, refl, sym, ap, ◌∙◌, ℕ, zero, suc, ◌+◌, ◌<◌, ◌==◌, Bool, true, false, not, ◌&&◌, ◌||◌, if◌then◌else◌, arith, ◌⊎◌, inl, inr}
use Rattle.std.proofs.lemmas.Bool.{cases_eq, eqb-true, eq-eqb, or_cases, true≢false}
use Rattle.jh_form.specs.Meaning.{all_below, any_below, count_below}
use Rattle.jh_query.specs.queries.Truth.{sum_below}

pub count-same : (n : ℕ) (p q : ℕ → Bool) → ((x : ℕ) → x < n → p x ≡ q x) → count_below n p ≡ count_below n q
count-same zero p q h = refl
count-same (suc n) p q h = λ i. count-same n p q (λ x lt. h x (omega arith)) i + (if h n (omega arith) i then 1 else 0)

count-none : (n : ℕ) (p : ℕ → Bool) → ((x : ℕ) → p x ≡ false) → count_below n p ≡ 0
count-none zero p h = refl
count-none (suc n) p h = (λ i. count-none n p h i + (if h n i then 1 else 0))

pub sum-same : (n : ℕ) (f g : ℕ → ℕ) → ((x : ℕ) → x < n → f x ≡ g x) → sum_below n f ≡ sum_below n g
sum-same zero f g h = refl
sum-same (suc n) f g h = λ i. sum-same n f g (λ x lt. h x (omega arith)) i + h n (omega arith) i

sum-none : (n : ℕ) (f : ℕ → ℕ) → ((x : ℕ) → f x ≡ 0) → sum_below n f ≡ 0
sum-none zero f h = refl
sum-none (suc n) f h = λ i. sum-none n f h i + h n i

-- one of both numbers that are summed is greater
sum-bump : (n : ℕ) (f g : ℕ → ℕ) (k b : ℕ) → k < n → ((x : ℕ) → x < n → x ≢ k → f x ≡ g x) → f k ≡ g k + b → sum_below n f ≡ sum_below n g + b
sum-bump zero f g k b lt same more = absurd (omega arith)
sum-bump (suc n) f g k b lt same more =
    elim (cases_eq k n) [
      | inl e ↦
          let here : f n ≡ g n + b = ap f (sym e) ∙ more ∙ (λ i. g (e i) + b) in
          let below : sum_below n f ≡ sum_below n g = sum-same n f g (λ x l. same x (omega arith) (λ u. omega arith)) in
          omega arith
      | inr e ↦
          let here : f n ≡ g n = same n (omega arith) (λ u. e (sym u)) in
          let below : sum_below n f ≡ sum_below n g + b = sum-bump n f g k b (omega arith) (λ x l. same x (omega arith)) more in
          omega arith
    ]

-- what a test adds to a count
abbrev pub one : Bool → ℕ
one b = if b then 1 else 0

-- two tests that differ at one number at most
count-bump : (n : ℕ) (p q : ℕ → Bool) (k : ℕ) → k < n → ((x : ℕ) → x < n → x ≢ k → p x ≡ q x) → count_below n p + (if q k then 1 else 0) ≡ count_below n q + (if p k then 1 else 0)
count-bump zero p q k lt same = absurd (omega arith)
count-bump (suc n) p q k lt same =
    elim (cases_eq k n) [
      | inl e ↦
          let below : count_below n p ≡ count_below n q = count-same n p q (λ x l. same x (omega arith) (λ u. omega arith)) in
          let left : one (q k) ≡ one (q n) = ap (λ x. one (q x)) e in
          let right : one (p k) ≡ one (p n) = ap (λ x. one (p x)) e in
          omega arith
      | inr e ↦
          let here : one (p n) ≡ one (q n) = ap one (same n (omega arith) (λ u. e (sym u))) in
          let below = count-bump n p q k (omega arith) (λ x l. same x (omega arith)) in
          omega (arith, here, below)
    ]

split_step : (a b c : ℕ) (e p : Bool) → a ≡ b + c → a + (if p then 1 else 0) ≡ (b + (if not e && p then 1 else 0)) + (c + (if e && p then 1 else 0))
split_step a b c true true h = omega arith
split_step a b c true false h = omega arith
split_step a b c false true h = omega arith
split_step a b c false false h = omega arith

-- a second test cuts a count in two
pub count-split : (n : ℕ) (e p : ℕ → Bool) → count_below n p ≡ count_below n (λ x. not (e x) && p x) + count_below n (λ x. e x && p x)
count-split zero e p = refl
count-split (suc n) e p = split_step (count_below n p) (count_below n (λ x. not (e x) && p x)) (count_below n (λ x. e x && p x)) (e n) (p n) (count-split n e p)

and_false : (e : Bool) → (e && false) ≡ false
and_false true = refl
and_false false = refl

unequal : (a b : ℕ) → a ≢ b → (a == b) ≡ false
unequal a b h = by (a == b) refl
  where
    by : (t : Bool) → (a == b) ≡ t → (a == b) ≡ false
    by true e = absurd (h (eqb-true a b e))
    by false e = e

-- what one number more adds to the count at each value of f
added : (c : ℕ) (e q t : Bool) → t ≡ true → (if q then c + (if e && t then 1 else 0) else 0) ≡ (if q then c else 0) + (if e && q then 1 else 0)
added c true true true h = refl
added c true false true h = refl
added c false true true h = refl
added c false false true h = refl
added c e q false h = absurd (true≢false (sym h))

kept : (c : ℕ) (e q t : Bool) → t ≡ false → (if q then c + (if e && t then 1 else 0) else 0) ≡ (if q then c else 0)
kept c true true false h = omega arith
kept c true false false h = refl
kept c false true false h = omega arith
kept c false false false h = refl
kept c e q true h = absurd (true≢false h)

abbrev nothing : Bool → ℕ
nothing q = if q then 0 else 0

no_value : (q : Bool) → nothing q ≡ 0
no_value true = refl
no_value false = refl

-- A count over the values of a function is the sum of the counts at each value.
pub count-by : (n bound : ℕ) (f : ℕ → ℕ) (e q : ℕ → Bool) → ((x : ℕ) → x < n → f x < bound) → count_below n (λ x. e x && q (f x)) ≡ sum_below bound (λ r. if q r then count_below n (λ x. e x && f x == r) else 0)
count-by zero bound f e q h = sym (sum-none bound (λ r. nothing (q r)) (λ r. no_value (q r)))
count-by (suc n) bound f e q h =
    let before = count-by n bound f e q (λ x lt. h x (omega arith)) in
    let now = sum-bump bound
    (λ r. if q r then count_below n (λ x. e x && f x == r) + (if e n && f n == r then 1 else 0) else 0)
    (λ r. if q r then count_below n (λ x. e x && f x == r) else 0)
    (f n) (if e n && q (f n) then 1 else 0) (h n (omega arith))
    (λ r lt u. kept (count_below n (λ x. e x && f x == r)) (e n) (q r) (f n == r) (unequal (f n) r (λ s. u (sym s))))
    (added (count_below n (λ x. e x && f x == f n)) (e n) (q (f n)) (f n == f n) (eq-eqb (f n) (f n) refl)) in
    omega (arith, before, now)

fresh : (a c : ℕ) (s p t : Bool) → t ≡ true → a + (if s && p then 1 else 0) ≡ c + (if (s || t) && p then 1 else 0) → a ≡ c + (if not s && p then 1 else 0)
fresh a c true true true h k = omega arith
fresh a c true false true h k = omega arith
fresh a c false true true h k = omega arith
fresh a c false false true h k = omega arith
fresh a c s p false h k = absurd (true≢false (sym h))

or_false : (s t : Bool) → t ≡ false → (s || t) ≡ s
or_false true t h = refl
or_false false t h = h

-- Of several numbers below n, those that stand first are as many as the numbers that are one of them.
pub count-firsts : (k n : ℕ) (v : ℕ → ℕ) (p : ℕ → Bool) → ((i : ℕ) → i < k → v i < n) → count_below k (λ i. not (any_below i (λ j. v j == v i)) && p (v i)) ≡ count_below n (λ x. any_below k (λ j. v j == x) && p x)
count-firsts zero n v p h = sym (count-none n (λ x. false) (λ x. refl))
count-firsts (suc k) n v p h =
    let before = count-firsts k n v p (λ i lt. h i (omega arith)) in
    let bump = count-bump n (λ x. (any_below k (λ j. v j == x) || v k == x) && p x) (λ x. any_below k (λ j. v j == x) && p x) (v k) (h k (omega arith))
    (λ x lt u i. or_false (any_below k (λ j. v j == x)) (v k == x) (unequal (v k) x (λ s. u (sym s))) i && p x) in
    let now = fresh (count_below n (λ x. (any_below k (λ j. v j == x) || v k == x) && p x)) (count_below n (λ x. any_below k (λ j. v j == x) && p x)) (any_below k (λ j. v j == v k)) (p (v k)) (v k == v k) (eq-eqb (v k) (v k) refl) bump in
    omega (arith, before, now)

pub first : (p q : Bool) → (p && q) ≡ true → p ≡ true
first true q e = refl
first false q e = e

pub second : (p q : Bool) → (p && q) ≡ true → q ≡ true
second true q e = e
second false q e = cc

pub not-true : (p : Bool) → not p ≡ true → p ≡ false
not-true true e = cc
not-true false e = refl

-- tests that are true together are one
pub both-ways : (p q : Bool) → (p ≡ true → q ≡ true) → (q ≡ true → p ≡ true) → p ≡ q
both-ways true q h k = sym (h refl)
both-ways false true h k = k refl
both-ways false false h k = refl

pub all-at : (n x : ℕ) (p : ℕ → Bool) → all_below n p ≡ true → x < n → p x ≡ true
all-at zero x p h lt = absurd (omega arith)
all-at (suc n) x p h lt =
    elim (cases_eq x n) [
      | inl e ↦ ap p e ∙ second (all_below n p) (p n) h
      | inr e ↦ all-at n x p (first (all_below n p) (p n) h) (omega arith)
    ]

pub at-all : (n : ℕ) (p : ℕ → Bool) → ((x : ℕ) → x < n → p x ≡ true) → all_below n p ≡ true
at-all zero p h = refl
at-all (suc n) p h = λ i. at-all n p (λ x lt. h x (omega arith)) i && h n (omega arith) i

pub any-some : (n : ℕ) (p : ℕ → Bool) → any_below n p ≡ true → (x : ℕ) × (x < n) × (p x ≡ true)
any-some zero p h = absurd (true≢false (sym h))
any-some (suc n) p h =
    elim (or_cases (any_below n p) (p n) h) [
      | inl e ↦ let r = any-some n p e in let lt = r.1 in (r.0, omega arith, r.2)
      | inr e ↦ (n, omega arith, e)
    ]

pub sure : (b : Bool) → (b ≡ true) ⊎ (b ≡ false)
sure true = inl refl
sure false = inr refl

-- a count that isn't 0 has something to count
pub count-some : (n : ℕ) (p : ℕ → Bool) → count_below n p ≢ 0 → (x : ℕ) × (x < n) × (p x ≡ true)
count-some zero p h = absurd (h refl)
count-some (suc n) p h =
    elim (sure (p n)) [
      | inl e ↦ (n, omega arith, e)
      | inr e ↦
          let none : one (p n) ≡ 0 = ap one e in
          let r = count-some n p (λ u. h (omega (arith, none, u))) in
          let lt = r.1 in
          (r.0, omega arith, r.2)
    ]

pub some-count : (n : ℕ) (p : ℕ → Bool) (x : ℕ) → x < n → p x ≡ true → count_below n p ≢ 0
some-count zero p x lt h u = absurd (omega arith)
some-count (suc n) p x lt h u =
    elim (cases_eq x n) [
      | inl e ↦ let here : one (p n) ≡ 1 = ap (λ y. one (p y)) (sym e) ∙ ap one h in absurd (omega (arith, here, u))
      | inr e ↦ some-count n p x (omega arith) h (omega arith)
    ]

none_one : (p q : Bool) → (p || q) ≡ false → p ≡ false
none_one true q e = e
none_one false q e = refl

none_two : (p q : Bool) → (p || q) ≡ false → q ≡ false
none_two true q e = absurd (true≢false e)
none_two false q e = e

pub any-none : (n x : ℕ) (p : ℕ → Bool) → any_below n p ≡ false → x < n → p x ≡ false
any-none zero x p h lt = absurd (omega arith)
any-none (suc n) x p h lt =
    elim (cases_eq x n) [
      | inl e ↦ ap p e ∙ none_two (any_below n p) (p n) h
      | inr e ↦ any-none n x p (none_one (any_below n p) (p n) h) (omega arith)
    ]
