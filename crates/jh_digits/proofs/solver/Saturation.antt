-- A product that stays at a greatest count.
use Rattle.std.proofs.Common.{◌≡◌, ℕ, ◌+◌, ◌*◌, ◌^◌, ◌≤◌, ◌<◌, min, refl, add-one, ap, ◌∙◌, ⊎_elim, arith}
use Rattle.std.proofs.lemmas.Bool.{cases_lt}
use Rattle.std.proofs.Math.Nat.{mul-le-mul_left, pow-suc}

le_times : (a b : ℕ) → 1 ≤ b → a ≤ a * b
le_times a b h = omega (arith, mul-le-mul_left a h)

-- the partial product may stay at m already
pub saturated : (a b m : ℕ) → 1 ≤ b → min (min a m * b) m ≡ min (a * b) m
saturated a b m h =
    let times : m ≤ m * b = le_times m b h in
    let more : a ≤ a * b = le_times a b h in
    ⊎_elim
    (λ (k : a < m). let e : min a m ≡ a = omega arith in rw e refl)
    (λ (k : m ≤ a). let e : min a m ≡ m = omega arith in rw e (omega arith))
    (cases_lt a m)

-- one more factor
pub saturated_more : (a b p r m : ℕ) → 1 ≤ b → p ≡ min a m → r ≡ min (p * b) m → r ≡ min (a * b) m
saturated_more a b p r m h e f = f ∙ ap (λ x. min (x * b) m) e ∙ saturated a b m h

pub saturated_double : (a k p r m : ℕ) → p ≡ min (a * 2 ^ k) m → r ≡ min (p * 2) m → r ≡ min (a * 2 ^ (k + 1)) m
saturated_double a k p r m e f =
    let two : 1 ≤ 2 = omega arith in
    let q : (a * 2 ^ k) * 2 ≡ a * 2 ^ (k + 1) = rw (add-one k, pow-suc 2 k) (omega arith) in
    saturated_more (a * 2 ^ k) 2 p r m two e f ∙ ap (λ x. min x m) q

pub saturated_product : (a w b p r m : ℕ) → 1 ≤ b → p ≡ min (a * w) m → r ≡ min (p * b) m → r ≡ min (a * (w * b)) m
saturated_product a w b p r m h e f =
    let q : (a * w) * b ≡ a * (w * b) = omega arith in
    saturated_more (a * w) b p r m h e f ∙ ap (λ x. min x m) q
