-- Numbers in mixed radix.
use Rattle.std.proofs.Common.{◌≡◌, ℕ, zero, suc, ◌+◌, ◌*◌, ◌-◌, ◌/◌, ◌%◌, ◌≤◌, ◌<◌, refl, ap, ◌∙◌, arith, ⊎_elim}
use Rattle.std.proofs.lemmas.Bool.{cases_lt}
use Rattle.std.proofs.Math.Nat.{mul-le-mul_left, mul-le-mul_right, div-div-eq-div-mul}
use Rattle.std.proofs.lemmas.Nat.{mul-add-lt, div-mul-add, mod-mul-add}
use Rattle.jh_digits.specs.solver.Cells.{stride, code, rest, coordinate}

product_pos : (a b : ℕ) → 1 ≤ a → 1 ≤ b → 1 ≤ a * b
product_pos a b h k = omega (arith, mul-le-mul_left a k)

product_more : (a b : ℕ) → 1 ≤ b → a ≤ a * b
product_more a b k = omega (arith, mul-le-mul_left a k)

pub stride_pos : (w : ℕ → ℕ) (n : ℕ) → ((i : ℕ) → 1 ≤ w i) → 1 ≤ stride w n
stride_pos w zero h = omega arith
stride_pos w (suc n) h = product_pos (stride w n) (w n) (stride_pos w n h) (h n)

pub stride_within : (w : ℕ → ℕ) (i n : ℕ) → ((k : ℕ) → 1 ≤ w k) → i ≤ n → stride w i ≤ stride w n
stride_within w i zero h k = let e : i ≡ 0 = omega arith in rw e (omega arith)
stride_within w i (suc n) h k =
    ⊎_elim
    (λ (l : i < suc n). let a : stride w i ≤ stride w n = stride_within w i n h (omega arith) in omega (arith, product_more (stride w n) (w n) (h n)))
    (λ (l : suc n ≤ i). let e : i ≡ suc n = omega arith in rw e (omega arith))
    (cases_lt i (suc n))

-- one factor is within the whole product
pub radix_within : (w : ℕ → ℕ) (i n : ℕ) → ((k : ℕ) → 1 ≤ w k) → i < n → stride w i * w i ≤ stride w n
radix_within w i n h k = stride_within w (suc i) n h k

factor_within : (a b m : ℕ) → 1 ≤ a → a * b ≤ m → b ≤ m
factor_within a b m h k = omega (arith, mul-le-mul_right b h)

pub width_within : (w : ℕ → ℕ) (i n : ℕ) → ((k : ℕ) → 1 ≤ w k) → i < n → w i ≤ stride w n
width_within w i n h k = factor_within (stride w i) (w i) (stride w n) (stride_pos w i h) (radix_within w i n h k)

-- one more coordinate keeps a code below the stride
pub code_step : (a s x w : ℕ) → a < s → x < w → a + x * s < s * w
code_step a s x w h k = omega (arith, mul-add-lt x s a w k h)

pub code_below : (w x : ℕ → ℕ) (n : ℕ) → ((i : ℕ) → i < n → x i < w i) → code w x n < stride w n
code_below w x zero h = omega arith
code_below w x (suc n) h = code_step (code w x n) (stride w n) (x n) (w n) (code_below w x n (λ i k. h i (omega arith))) (h n (omega arith))

-- codes of the same coordinates
pub code_same : (w x y : ℕ → ℕ) (n : ℕ) → ((i : ℕ) → i < n → x i ≡ y i) → code w x n ≡ code w y n
code_same w x y zero h = refl
code_same w x y (suc n) h =
    let a : code w x n ≡ code w y n = code_same w x y n (λ i k. h i (omega arith)) in
    let b : x n ≡ y n = h n (omega arith) in
    λ i. a i + b i * stride w n

top : (n q : ℕ) → (c : ℕ) → c ≡ c + 0 * q
top n q c = omega arith

peel : (c a s x w q : ℕ) → c ≡ (a + x * s) + q * (s * w) → c ≡ a + (q * w + x) * s
peel c a s x w q e = omega arith

-- a code is that of its first i coordinates, and a multiple of their stride
above : (w x : ℕ → ℕ) (d i n : ℕ) → i + d ≡ n → (q : ℕ) × (code w x n ≡ code w x i + q * stride w i)
above w x zero i n e = let f : n ≡ i = omega arith in (0, rw f (top n (stride w i) (code w x i)))
above w x (suc d) i n e =
    let f : suc i + d ≡ n = omega arith in
    let r = above w x d (suc i) n f in
    (r.0 * w i + x i, peel _ (code w x i) (stride w i) (x i) (w i) r.0 r.1)

pub rest_is : (w : ℕ → ℕ) (c i : ℕ) → rest w c i ≡ c / stride w i
rest_is w c zero = omega arith
rest_is w c (suc i) = ap (λ z. z / w i) (rest_is w c i) ∙ div-div-eq-div-mul c (stride w i) (w i)

-- a coordinate of a code
pub coordinate_code : (w x : ℕ → ℕ) (n i : ℕ) → ((k : ℕ) → k < n → x k < w k) → i < n → coordinate w (code w x n) i ≡ x i
coordinate_code w x n i h k =
    let f : suc i + (n - suc i) ≡ n = omega arith in
    let r = above w x (n - suc i) (suc i) n f in
    let e : code w x n ≡ (r.0 * w i + x i) * stride w i + code w x i = peel _ (code w x i) (stride w i) (x i) (w i) r.0 r.1 ∙ omega arith in
    let below : code w x i < stride w i = code_below w x i (λ j l. h j (omega arith)) in
    let q : rest w (code w x n) i ≡ r.0 * w i + x i = rest_is w (code w x n) i ∙ ap (λ z. z / stride w i) e ∙ div-mul-add (r.0 * w i + x i) (stride w i) (code w x i) below in
    ap (λ z. z % w i) q ∙ mod-mul-add r.0 (w i) (x i) (h i k)
