-- That a number is a sum over the rests of regions and over numbers.
use Rattle.std.specs.Prelude.{◌≡◌, ℕ, zero, suc, length, slice_index_or, ℤ, pos, ◌+ℤ◌, ◌*ℤ◌}
use Rattle.jh_query.specs.queries.Tree.{NumTree}
use Rattle.jh_query.specs.queries.Sizing.{Sizing}
use Rattle.jh_query.specs.queries.Truth.{number_value, read_number, rest_of}
use Rattle.jh_query.specs.queries.Linear.{rest_factor, number_factor, placed_part}

-- the sum of f over the numbers below n
abbrev pub whole_sum : ℕ → (ℕ → ℤ) → ℤ
whole_sum zero f = pos 0
whole_sum (suc n) f = whole_sum n f +ℤ f n

-- under sizes, a number is the sum of its factors times the rests, of its factors times the numbers, and of what is
-- left where these are 0
abbrev pub IsLinear : Sizing → NumTree → Type 0
IsLinear z a =
    number_value z a ≡
    (whole_sum (length z.rest) (λ r. read_number (rest_factor r) a *ℤ pos (rest_of z r))
    +ℤ whole_sum (length z.numbers) (λ l. read_number (number_factor l) a *ℤ slice_index_or z.numbers l (pos 0)))
    +ℤ read_number (placed_part z.spots) a
