-- A row's sum over the integers, and its positive and negative parts in natural numbers.
use Rattle.std.proofs.Common.{◌≡◌, ℕ, zero, suc, ◌+◌, ◌*◌, ◌<◌, ◌↔◌, ℤ, pos, negsuc, ◌+ℤ◌, ◌*ℤ◌, refl, ap, arith}
use Rattle.std.proofs.lemmas.Int.{ints}
use Rattle.jh_digits.specs.systems.Solution.{weighted}
use Rattle.jh_digits.specs.systems.Nodes.{plus, minus}
use Rattle.jh_digits.specs.systems.Totals.{plus_total, minus_total}

product_parts : (e : ℤ) (k : ℕ) → (e *ℤ pos k) +ℤ pos (minus e * k) ≡ pos (plus e * k)
product_parts (pos a) k = omega (arith, ints)
product_parts (negsuc a) k = omega (arith, ints)

joined_parts : (w x : ℤ) (m b p a : ℕ) → w +ℤ pos m ≡ pos p → x +ℤ pos b ≡ pos a → (w +ℤ x) +ℤ pos (m + b) ≡ pos (p + a)
joined_parts w x m b p a e f = omega (arith, ints)

pub weighted_parts : (e : ℕ → ℤ) (v : ℕ → ℕ) (n : ℕ) → weighted e v n +ℤ pos (minus_total e v n) ≡ pos (plus_total e v n)
weighted_parts e v zero = refl
weighted_parts e v (suc n) = joined_parts (weighted e v n) (e n *ℤ pos (v n)) (minus_total e v n) (minus (e n) * v n) (plus_total e v n) (plus (e n) * v n) (weighted_parts e v n) (product_parts (e n) (v n))

equal_forth : (w c : ℤ) (m p : ℕ) → w +ℤ pos m ≡ pos p → w ≡ c → p + minus c ≡ m + plus c
equal_forth w (pos a) m p e f = omega (arith, ints)
equal_forth w (negsuc a) m p e f = omega (arith, ints)

equal_back : (w c : ℤ) (m p : ℕ) → w +ℤ pos m ≡ pos p → p + minus c ≡ m + plus c → w ≡ c
equal_back w (pos a) m p e f = omega (arith, ints)
equal_back w (negsuc a) m p e f = omega (arith, ints)

-- a row is equal to its right side exactly where both sides agree in natural numbers
pub equal_parts : (e : ℕ → ℤ) (v : ℕ → ℕ) (n : ℕ) (c : ℤ) → (weighted e v n ≡ c) ↔ (plus_total e v n + minus c ≡ minus_total e v n + plus c)
equal_parts e v n c = (equal_forth (weighted e v n) c (minus_total e v n) (plus_total e v n) (weighted_parts e v n), equal_back (weighted e v n) c (minus_total e v n) (plus_total e v n) (weighted_parts e v n))

split_step : (f p d w v x y : ℕ) → p ≡ d + 2 * w → v ≡ x + 2 * y → p + f * v ≡ (d + f * x) + 2 * (w + f * y)
split_step f p d w v x y e g = let h : f * v ≡ f * (x + 2 * y) = ap (λ z. f * z) g in omega arith

-- a sum at numbers that are a digit and twice a rest
pub plus_total-split : (e : ℕ → ℤ) (v d w : ℕ → ℕ) (n : ℕ) → ((j : ℕ) → j < n → v j ≡ d j + 2 * w j) → plus_total e v n ≡ plus_total e d n + 2 * plus_total e w n
plus_total-split e v d w zero h = refl
plus_total-split e v d w (suc n) h = split_step (plus (e n)) _ _ _ _ _ _ (plus_total-split e v d w n (λ j k. h j (omega arith))) (h n (omega arith))

pub minus_total-split : (e : ℕ → ℤ) (v d w : ℕ → ℕ) (n : ℕ) → ((j : ℕ) → j < n → v j ≡ d j + 2 * w j) → minus_total e v n ≡ minus_total e d n + 2 * minus_total e w n
minus_total-split e v d w zero h = refl
minus_total-split e v d w (suc n) h = split_step (minus (e n)) _ _ _ _ _ _ (minus_total-split e v d w n (λ j k. h j (omega arith))) (h n (omega arith))

zero_step : (f p v : ℕ) → p ≡ 0 → v ≡ 0 → p + f * v ≡ 0
zero_step f p v e g = let h : f * v ≡ f * 0 = ap (λ z. f * z) g in omega arith

pub plus_total-zero : (e : ℕ → ℤ) (v : ℕ → ℕ) (n : ℕ) → ((j : ℕ) → j < n → v j ≡ 0) → plus_total e v n ≡ 0
plus_total-zero e v zero h = refl
plus_total-zero e v (suc n) h = zero_step (plus (e n)) _ _ (plus_total-zero e v n (λ j k. h j (omega arith))) (h n (omega arith))

pub minus_total-zero : (e : ℕ → ℤ) (v : ℕ → ℕ) (n : ℕ) → ((j : ℕ) → j < n → v j ≡ 0) → minus_total e v n ≡ 0
minus_total-zero e v zero h = refl
minus_total-zero e v (suc n) h = zero_step (minus (e n)) _ _ (minus_total-zero e v n (λ j k. h j (omega arith))) (h n (omega arith))
