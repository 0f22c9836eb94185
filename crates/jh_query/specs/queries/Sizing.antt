-- Sizes without memory: numbers in place of digits.
use Rattle.std.specs.Prelude.{ℕ, ◌+◌, ◌*◌, List, [], ◌∷◌, map, Bool, if◌then◌else◌, ℤ, pos, ◌-ℤ◌}
use Rattle.jh_query.specs.declared.queries.sizes.Spot.{Spot}
use Rattle.jh_query.specs.declared.queries.sizes.Whole.{Whole}
use Rattle.jh_query.specs.declared.queries.sizes.Sizes.{Sizes}

-- what binary digits spell, the least first
abbrev pub spelled : List Bool → ℕ
spelled [] = 0
spelled (digit ∷ digits) = (if digit then 1 else 0) + 2 * spelled digits

abbrev pub whole_value : Whole → ℤ
whole_value w = pos (spelled w.plus) -ℤ pos (spelled w.minus)

-- how many objects of each region are no element, where each element stands, and what the numbers and the flags are
pub record Sizing : Type 0 where
  pub rest : List ℕ
  pub spots : List Spot
  pub numbers : List ℤ
  pub flags : List Bool

abbrev pub sizing_of : Sizes → Sizing
sizing_of z = record { rest = map spelled z.rest; spots = z.spots; numbers = map whole_value z.numbers; flags = z.flags }
