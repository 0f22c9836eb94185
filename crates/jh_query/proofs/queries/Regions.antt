-- Counts of regions of 64 sets and more.
use Rattle.std.proofs.Common.{◌≡◌, ◌↔◌, ℕ, ◌<◌, ◌≤◌, ◌^◌, nat_lt, leb, IsTrue, arith, rules, tests}
use Rattle.std.proofs.Math.Nat.{pow-le-pow_right}

wide : (k : ℕ) → 64 ≤ k → 2 ^ 64 ≤ 2 ^ k
wide k h = let some : 0 < 2 = omega arith in pow-le-pow_right {n = 2} some h

pub all-regions : (r k : ℕ) → r < 2 ^ 64 → 64 ≤ k → IsTrue (leb 64 k) ↔ (r < 2 ^ k)
all-regions r k h far = let w : 2 ^ 64 ≤ 2 ^ k = wide k far in (λ _. omega (arith, w), λ _. search (rules, tests))

pub no-count : (n k : ℕ) → n < 2 ^ 64 → 64 ≤ k → IsTrue (nat_lt k 64) ↔ (n ≡ 2 ^ k)
no-count n k h far =
    let w : 2 ^ 64 ≤ 2 ^ k = wide k far in
    (λ e. let below : k < 64 = search (rules, tests) in absurd (omega (arith, below)), λ e. absurd (omega (arith, w)))
