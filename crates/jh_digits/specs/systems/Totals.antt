-- Sums over columns in natural numbers: those of the positive factors and of the negated negative
-- ones, each apart.
use Rattle.std.specs.Prelude.{ℕ, zero, suc, ◌+◌, ◌*◌, ℤ, List, Bool, false, if◌then◌else◌, slice_index_or}
use Rattle.jh_digits.specs.systems.Nodes.{plus, minus}

-- the sum of the positive part of e j times v j over the first n columns
abbrev pub plus_total : (ℕ → ℤ) → (ℕ → ℕ) → ℕ → ℕ
plus_total e v zero = 0
plus_total e v (suc n) = plus_total e v n + plus (e n) * v n

-- the sum of the negated negative part of e j times v j over the first n columns
abbrev pub minus_total : (ℕ → ℤ) → (ℕ → ℕ) → ℕ → ℕ
minus_total e v zero = 0
minus_total e v (suc n) = minus_total e v n + minus (e n) * v n

-- the digit of column j in a layer
abbrev pub digit : List Bool → ℕ → ℕ
digit layer j = if slice_index_or layer j false then 1 else 0
