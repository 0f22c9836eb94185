-- How many nodes a system has: a node is a column at work, a remainder of each row within its
-- bounds, and the set of the needs that are met so far.
use Rattle.std.specs.Prelude.{ℕ, zero, suc, ◌+◌, ◌*◌, ◌^◌, ◌-◌, ℤ, pos, negsuc, ◌+ℤ◌, ◌-ℤ◌, neg_ℤ, unsigned_abs, length}
use Rattle.std.specs.Int.{int_max, int_min}
use Rattle.jh_digits.specs.declared.systems.system.System.{System}
use Rattle.jh_digits.specs.systems.Solution.{entry_of, right_of}

-- z as a difference of two natural numbers, one of which is 0
abbrev pub plus : ℤ → ℕ
plus (pos a) = a
plus (negsuc a) = 0

abbrev pub minus : ℤ → ℕ
minus (pos a) = 0
minus (negsuc a) = suc a

-- the sum of the positive factors over the first n columns
abbrev pub positive : (ℕ → ℤ) → ℕ → ℕ
positive e zero = 0
positive e (suc n) = positive e n + plus (e n)

-- the sum of the negated negative factors over the first n columns
abbrev pub negative : (ℕ → ℤ) → ℕ → ℕ
negative e zero = 0
negative e (suc n) = negative e n + minus (e n)

-- How many remainders are within the bounds of a row with right side c, where p is the sum of its
-- positive factors and n that of its negated negative ones: max(c, n) - min(c, -p) + 1 + p + n
unfoldable pub width : ℤ → ℕ → ℕ → ℕ
width c p n = unsigned_abs ((int_max c (pos n) -ℤ int_min c (neg_ℤ (pos p))) +ℤ pos (1 + p + n))

abbrev pub width_of : System → ℕ → ℕ
width_of s i = width (right_of s i) (positive (entry_of s i) s.columns) (negative (entry_of s i) s.columns)

-- the product of the widths of the first n rows
abbrev pub widths : System → ℕ → ℕ
widths s zero = 1
widths s (suc n) = widths s n * width_of s n

abbrev pub node_count : System → ℕ
node_count s = (s.columns + 1) * 2 ^ length s.needs * widths s s.rows

-- the greatest count that fits 128 bits
abbrev pub count_max : ℕ
count_max = 2 ^ 128 - 1

-- the nodes that `solve` looks through at most
abbrev pub node_limit : ℕ
node_limit = 67108864
