-- The extent of a tree from those of its parts: numbers of nodes and depths, cut at the greatest u64.
use Rattle.std.proofs.Common.{◌≡◌, ℕ, ◌+◌, ◌≤◌, min, max, arith}

-- the greatest u64
abbrev pub most : ℕ
most = 18446744073709551615

pub leaf : (S : ℕ) → S ≡ 1 → 1 ≡ min S most
leaf S p = omega arith

pub sum_one : (r u a S : ℕ) → r ≡ min (1 + u) most → u ≡ min a most → S ≡ 1 + a → r ≡ min S most
sum_one r u a S p q s = omega arith

pub sum_two : (r u y x b a S : ℕ) → r ≡ min (1 + u) most → u ≡ min (x + y) most → y ≡ min b most → x ≡ min a most → S ≡ 1 + a + b → r ≡ min S most
sum_two r u y x b a S p q f e s = omega arith

pub sum_three : (r u z v y x d b a S : ℕ) →
    r ≡ min (1 + u) most → u ≡ min (v + z) most → z ≡ min d most → v ≡ min (x + y) most → y ≡ min b most → x ≡ min a most → S ≡ 1 + a + b + d → r ≡ min S most
sum_three r u z v y x d b a S p q g w f e s = omega arith

pub deep_one : (r u a S : ℕ) → r ≡ min (1 + u) most → u ≡ min a most → S ≡ 1 + a → r ≡ min S most
deep_one = sum_one

pub deep_two : (r u y x b a S : ℕ) → r ≡ min (1 + u) most → u ≡ max x y → y ≡ min b most → x ≡ min a most → S ≡ 1 + max a b → r ≡ min S most
deep_two r u y x b a S p q f e s = omega arith

pub deep_three : (r u z v y x d b a S : ℕ) → r ≡ min (1 + u) most → u ≡ max v z → z ≡ min d most → v ≡ max x y → y ≡ min b most → x ≡ min a most → S ≡ 1 + max a (max b d) → r ≡ min S most
deep_three r u z v y x d b a S p q g w f e s = omega arith

-- one more part: b nodes so far after e of it, with R nodes left before and T after
pub sum_step : (S a e b s R T M : ℕ) → min S M ≡ min (a + R) M → R ≡ s + T → e ≡ min s M → b ≡ min (a + e) M → min S M ≡ min (b + T) M
sum_step S a e b s R T M p q r u = omega arith

pub deep_step : (S a e b s R T M : ℕ) → min S M ≡ min (max a R) M → R ≡ max s T → e ≡ min s M → b ≡ max a e → min S M ≡ min (max b T) M
deep_step S a e b s R T M p q r u = omega arith

pub sum_end : (S a R M : ℕ) → a ≤ M → min S M ≡ min (a + R) M → R ≡ 0 → a ≡ min S M
sum_end S a R M f p q = omega arith

pub deep_end : (S a R M : ℕ) → a ≤ M → min S M ≡ min (max a R) M → R ≡ 0 → a ≡ min S M
deep_end S a R M f p q = omega arith
