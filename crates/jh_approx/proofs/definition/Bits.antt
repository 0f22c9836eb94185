-- The digits of a number that is spelled.
use Rattle.std.proofs.Common.{◌≡◌, refl, ap, ◌∙◌, ℕ, zero, suc, ◌+◌, ◌*◌, ◌/◌, ◌%◌, ◌^◌, ◌<◌, ◌==◌, Bool, true, false, if◌then◌else◌, List, [], ◌∷◌, length, get_or, arith}
use Rattle.std.proofs.lemmas.Nat.{div-mul-add}
use Rattle.std.proofs.Math.Nat.{div-add-mod, mod-lt, pow-suc}
use Rattle.jh_query.specs.queries.Sizing.{spelled}
use Rattle.jh_query.specs.queries.Truth.{is_in}

pub powers : (k : ℕ) → 0 < 2 ^ k
powers zero = omega arith
powers (suc k) = let h : 0 < 2 ^ k = powers k in omega arith

pub one-more : (b s p : ℕ) → b < 2 → 0 < p → (b + 2 * s) / (2 * p) ≡ s / p
one-more b s p h k =
    let whole : p * (s / p) + s % p ≡ s = div-add-mod s p in
    let below : s % p < p = mod-lt s k in
    let turned : (s / p) * (2 * p) ≡ 2 * (p * (s / p)) = grind arith in
    let e : b + 2 * s ≡ (s / p) * (2 * p) + (b + 2 * (s % p)) = omega (arith, whole, turned) in
    ap (λ n. n / (2 * p)) e ∙ div-mul-add (s / p) (2 * p) (b + 2 * (s % p)) (omega (arith, below))

first_digit : (s : ℕ) (d : Bool) → (((if d then 1 else 0) + 2 * s) / 1 % 2 == 1) ≡ d
first_digit s true = let e : (1 + 2 * s) / 1 % 2 ≡ 1 = omega arith in rw e refl
first_digit s false = let e : (0 + 2 * s) / 1 % 2 ≡ 0 = omega arith in rw e refl

small : (d : Bool) → (if d then 1 else 0) < 2
small true = omega arith
small false = omega arith

pub doubled : (k : ℕ) → 2 ^ suc k ≡ 2 * 2 ^ k
doubled k = let h : 2 ^ suc k ≡ 2 ^ k * 2 = pow-suc 2 k in omega arith

pub digit-is : (ds : List Bool) (k : ℕ) → k < length ds → is_in (spelled ds) k ≡ get_or ds k false
digit-is [] k lt = absurd (omega arith)
digit-is (d ∷ ds) zero lt = first_digit (spelled ds) d
digit-is (d ∷ ds) (suc k) lt =
    ap (λ p. ((if d then 1 else 0) + 2 * spelled ds) / p % 2 == 1) (doubled k) ∙ ap (λ n. n % 2 == 1) (one-more (if d then 1 else 0) (spelled ds) (2 ^ k) (small d) (powers k)) ∙ digit-is ds k (omega arith)

pub spelled-below : (ds : List Bool) → spelled ds < 2 ^ length ds
spelled-below [] = omega arith
spelled-below (d ∷ ds) = let h = spelled-below ds in let k = small d in let e : 2 ^ suc (length ds) ≡ 2 * 2 ^ length ds = doubled (length ds) in omega (arith, h, k)
