-- Counts that stay at the greatest of 128 bits.
use Rattle.std.specs.Prelude.{ℕ, ◌-◌, ◌^◌, min}

-- the greatest count, and a count that stays there where it would be greater
abbrev pub count_max : ℕ
count_max = 2 ^ 128 - 1

abbrev pub capped : ℕ → ℕ
capped n = min n count_max
