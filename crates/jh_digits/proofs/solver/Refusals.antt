-- What divisors and signs say of a row.
use Rattle.std.proofs.Common.{◌≡◌, ℕ, zero, suc, ◌+◌, ◌*◌, ◌<◌, ◌%◌, ℤ, pos, negsuc, not, true, ◌==◌, refl, sym, subst, ⊎_elim, arith}
use Prim.Native.Nat.{◌∣◌}
use Rattle.std.proofs.Math.Nat.{dvd-add, dvd-add_iff_right, dvd-mul_right_of_dvd, eq-zero_of_zero-dvd}
use Rattle.std.proofs.lemmas.Bool.{cases_eq, true≢false}
use Rattle.std.proofs.lemmas.Nat.Gcd.{dvd-zero, dvd_trans, mod-eq-zero_of_dvd}
use Rattle.jh_digits.specs.systems.Solution.{weighted}
use Rattle.jh_digits.specs.systems.Nodes.{plus, minus, positive, negative}
use Rattle.jh_digits.specs.systems.Totals.{plus_total, minus_total}
use Rattle.jh_digits.proofs.systems.Sums.{equal_parts}

plus_divided : (g : ℕ) (e : ℕ → ℤ) (v : ℕ → ℕ) (n : ℕ) → ((j : ℕ) → j < n → g ∣ plus (e j)) → g ∣ plus_total e v n
plus_divided g e v zero h = dvd-zero g
plus_divided g e v (suc n) h = dvd-add g (plus_divided g e v n (λ j k. h j (omega arith))) (dvd-mul_right_of_dvd g (h n (omega arith)) (v n))

minus_divided : (g : ℕ) (e : ℕ → ℤ) (v : ℕ → ℕ) (n : ℕ) → ((j : ℕ) → j < n → g ∣ minus (e j)) → g ∣ minus_total e v n
minus_divided g e v zero h = dvd-zero g
minus_divided g e v (suc n) h = dvd-add g (minus_divided g e v n (λ j k. h j (omega arith))) (dvd-mul_right_of_dvd g (h n (omega arith)) (v n))

moved : (g x y z : ℕ) → g ∣ x → g ∣ y → x ≡ y + z → g ∣ z
moved g x y z h k e = (dvd-add_iff_right g k).1 (rw (← e) h)

-- a number that divides all factors of a row divides its right side, where some numbers make the row equal to it
pub right_divided : (g : ℕ) (e : ℕ → ℤ) (v : ℕ → ℕ) (n : ℕ) (c : ℤ) → ((j : ℕ) → j < n → g ∣ plus (e j)) → ((j : ℕ) → j < n → g ∣ minus (e j)) → weighted e v n ≡ c → (g ∣ plus c) × (g ∣ minus c)
right_divided g e v n (pos a) h k w =
    let s : plus_total e v n + 0 ≡ minus_total e v n + a = (equal_parts e v n (pos a)).0 w in
    let t : plus_total e v n ≡ minus_total e v n + a = omega (arith, s) in
    (moved g (plus_total e v n) (minus_total e v n) a (plus_divided g e v n h) (minus_divided g e v n k) t, dvd-zero g)
right_divided g e v n (negsuc a) h k w =
    let s : plus_total e v n + suc a ≡ minus_total e v n + 0 = (equal_parts e v n (negsuc a)).0 w in
    let t : minus_total e v n ≡ plus_total e v n + suc a = omega (arith, s) in
    (dvd-zero g, moved g (minus_total e v n) (plus_total e v n) (suc a) (minus_divided g e v n k) (plus_divided g e v n h) t)

no_factor : (p f t k : ℕ) → t ≡ 0 → p + f ≡ 0 → t + f * k ≡ 0
no_factor p f t k e h = let z : f ≡ 0 = omega (arith, h) in rw z (omega (arith, e))

no_plus : (e : ℕ → ℤ) (v : ℕ → ℕ) (n : ℕ) → positive e n ≡ 0 → plus_total e v n ≡ 0
no_plus e v zero h = refl
no_plus e v (suc n) h = no_factor (positive e n) (plus (e n)) (plus_total e v n) (v n) (no_plus e v n (omega (arith, h))) h

no_minus : (e : ℕ → ℤ) (v : ℕ → ℕ) (n : ℕ) → negative e n ≡ 0 → minus_total e v n ≡ 0
no_minus e v zero h = refl
no_minus e v (suc n) h = no_factor (negative e n) (minus (e n)) (minus_total e v n) (v n) (no_minus e v n (omega (arith, h))) h

-- a row without positive factors is not equal to a positive right side, nor one without negative factors to a negative one
pub not_positive : (e : ℕ → ℤ) (v : ℕ → ℕ) (n : ℕ) (c : ℤ) → positive e n ≡ 0 → 0 < plus c → weighted e v n ≡ c → ⊥
not_positive e v n (pos a) h k w = absurd (omega (arith, (equal_parts e v n (pos a)).0 w, no_plus e v n h))
not_positive e v n (negsuc a) h k w = absurd (omega (arith, k))

pub not_negative : (e : ℕ → ℤ) (v : ℕ → ℕ) (n : ℕ) (c : ℤ) → negative e n ≡ 0 → 0 < minus c → weighted e v n ≡ c → ⊥
not_negative e v n (pos a) h k w = absurd (omega (arith, k))
not_negative e v n (negsuc a) h k w = absurd (omega (arith, (equal_parts e v n (negsuc a)).0 w, no_minus e v n h))

-- ---- numbers that a divisor leaves

pub none_leaves : (g n : ℕ) → g ≡ 0 → not (n == 0) ≡ true → g ∣ n → ⊥
none_leaves g n e t d =
    let z : n ≡ 0 = eq-zero_of_zero-dvd (rw e at d) in
    let u = rw z at t in
    absurd (true≢false (sym u))

pub rest_leaves : (g n : ℕ) → not (n % g == 0) ≡ true → g ∣ n → ⊥
rest_leaves g n t d =
    let z : n % g ≡ 0 = mod-eq-zero_of_dvd g d in
    let u = rw z at t in
    absurd (true≢false (sym u))

-- what divides the divisor of the numbers so far, and one more, divides them all
pub divides_more : (f : ℕ → ℕ) (n new old : ℕ) → new ∣ old → ((j : ℕ) → j < n → old ∣ f j) → new ∣ f n → (j : ℕ) → j < n + 1 → new ∣ f j
divides_more f n new old d h k j l =
    ⊎_elim
    (λ (e : j ≡ n). subst (λ x. new ∣ f x) (sym e) k)
    (λ (e : j ≡ n → ⊥). dvd_trans new d (h j (omega (arith, l, e))))
    (cases_eq j n)
