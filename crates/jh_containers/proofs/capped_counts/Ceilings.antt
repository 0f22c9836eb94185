-- Sums and products that stay at the greatest count.
use Rattle.std.proofs.Common.{◌≡◌, ℕ, zero, suc, ◌+◌, ◌*◌, ◌^◌, ◌≤◌, ◌<◌, min, refl, sym, ap, ◌∙◌, ⊎_elim, arith}
use Rattle.std.proofs.lemmas.Bool.{cases_lt}
use Rattle.std.proofs.Math.Nat.{mul-le-mul_left, mul_comm}
use Rattle.jh_containers.specs.capped_counts.Capped.{capped, count_max}

le_times : (a b : ℕ) → 1 ≤ b → a ≤ a * b
le_times a b h = omega (arith, mul-le-mul_left a h)

-- the first factor may stay at m already
first_stays : (a b m : ℕ) → min (min a m * b) m ≡ min (a * b) m
first_stays a zero m = omega arith
first_stays a (suc b) m =
    let some : 1 ≤ suc b = omega arith in
    let times : m ≤ m * suc b = le_times m (suc b) some in
    let more : a ≤ a * suc b = le_times a (suc b) some in
    ⊎_elim
    (λ (k : a < m). let e : min a m ≡ a = omega arith in rw e refl)
    (λ (k : m ≤ a). let e : min a m ≡ m = omega arith in rw e (omega arith))
    (cases_lt a m)

both_stay : (a b m : ℕ) → min (min a m * min b m) m ≡ min (a * b) m
both_stay a b m = first_stays a (min b m) m ∙ ap (λ x. min x m) (mul_comm a (min b m)) ∙ first_stays b a m ∙ ap (λ x. min x m) (mul_comm b a)

sum_stays : (a b m : ℕ) → min (min a m + min b m) m ≡ min (a + b) m
sum_stays a b m = omega arith

pub plus-capped : (r a b x y : ℕ) → r ≡ capped (a + b) → a ≡ capped x → b ≡ capped y → r ≡ capped (x + y)
plus-capped r a b x y e f g = rw (e, f, g) (sum_stays x y count_max)

pub times-capped : (r a b x y : ℕ) → r ≡ capped (a * b) → a ≡ capped x → b ≡ capped y → r ≡ capped (x * y)
times-capped r a b x y e f g = rw (e, f, g) (both_stay x y count_max)

pub fits-capped : (x : ℕ) → x < 2 ^ 128 → x ≡ capped x
fits-capped x h = omega arith

-- a factor more, before what is still to come
pub more-capped : (p w r x y : ℕ) → r ≡ capped (p * w) → w ≡ capped x → capped (p * (x * y)) ≡ capped (r * y)
more-capped p w r x y e f =
    let at_w : r ≡ capped (p * x) = rw (e, f) (ap (λ z. min z count_max) (mul_comm p (capped x)) ∙ first_stays x p count_max ∙ ap (λ z. min z count_max) (mul_comm x p)) in
    let all : p * (x * y) ≡ (p * x) * y = omega arith in
    rw (at_w, all) (sym (first_stays (p * x) y count_max))

pub add-capped : (p w r y : ℕ) → r ≡ capped (p + w) → capped (p + (w + y)) ≡ capped (r + y)
add-capped p w r y e = rw e (omega arith)

pub ruleset capped_steps = (plus-capped, times-capped, fits-capped)
