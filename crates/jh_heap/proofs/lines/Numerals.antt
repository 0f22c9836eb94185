-- The numbers that digits write.
use Rattle.std.proofs.Common.{◌≡◌, arith, ℕ, ◌+◌, ◌*◌, ◌-◌, ◌≤◌, ◌<◌, ap, length, drop, get_or, add-one, drop-cons, List, [], ◌∷◌}
use Rattle.jh_heap.specs.lines.Bytes.{value_from}

-- further digits make no number less

pub value-grows : (n : ℕ) (cs : List ℕ) → n ≤ value_from n cs
value-grows n [] = omega arith
value-grows n (c ∷ cs) = omega (arith, value-grows (10 * n + (c - 48)) cs)

-- the digits behind a place
pub value_next : (n : ℕ) (cs : List ℕ) (i : ℕ) → i < length cs → value_from n (drop i cs) ≡ value_from (10 * n + (get_or cs i 0 - 48)) (drop (i + 1) cs)
value_next n cs i inside = rw add-one (ap (value_from n) (drop-cons cs i 0 inside))

-- one more digit behind a number that is great already

pub value_beyond : (n : ℕ) (cs : List ℕ) (i : ℕ) → i < length cs → 922337203685477581 ≤ n → 9223372036854775809 ≤ value_from n (drop i cs)
value_beyond n cs i inside great = omega (arith, great, value_next n cs i inside, value-grows (10 * n + (get_or cs i 0 - 48)) (drop (i + 1) cs))
