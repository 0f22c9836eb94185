-- The cells of a system. A cell holds a remainder of each row, within its bounds, and which needs are
-- met so far. It is a number in mixed radix: first a coordinate below 2 for each need, 1 where the
-- need is met; then one for each row, the remainder raised by the row's depth so that it is not
-- below 0.
use Rattle.std.specs.Prelude.{◌≡◌, ◌==◌, ℕ, zero, suc, ◌+◌, ◌*◌, ◌-◌, ◌/◌, ◌%◌, ◌^◌, ◌<◌, ◌≤◌, nat_lt, nat_le, max, ℤ, List, Bool, if◌then◌else◌, length, slice_index}
use Rattle.std.specs.List.{list_any}
use Rattle.jh_digits.specs.declared.systems.system.System.{System}
use Rattle.jh_digits.specs.declared.solver.space.Step.{Step}
use Rattle.jh_digits.specs.declared.solver.space.Step.TheVariants.{Start, End, Take, Halve}
use Rattle.jh_digits.specs.declared.solver.space.Space.{Space}
use Rattle.jh_digits.specs.systems.Solution.{entry_of, right_of, need_of}
use Rattle.jh_digits.specs.systems.Nodes.{plus, minus, positive, width_of, node_limit}

-- how far remainders of row t may lie below 0: -(min(c, -p) - p)
unfoldable pub row_depth : System → ℕ → ℕ
row_depth s t = max (minus (right_of s t)) (positive (entry_of s t) s.columns) + positive (entry_of s t) s.columns

-- a raised remainder after a digit 1 at a column with the factor e, or w where it falls below 0
abbrev pub row_take : ℤ → ℕ → ℕ → ℕ
row_take e w x = if nat_le (plus e) (x + minus e) then x + minus e - plus e else w

-- a raised remainder after halving, or w where it is odd
abbrev pub row_halve : ℕ → ℕ → ℕ → ℕ
row_halve depth w x = if (x + depth) % 2 == 0 then (x + depth) / 2 else w

-- the coordinate of row t after a step, where it was x; not below the width where the step leads
-- out of the bounds
abbrev pub row_after : System → Step → ℕ → ℕ → ℕ
row_after s Start t x = row_depth s t + plus (right_of s t) - minus (right_of s t)
row_after s End t x = row_depth s t
row_after s (Take j) t x = row_take (entry_of s t j) (width_of s t) x
row_after s Halve t x = row_halve (row_depth s t) (width_of s t) x

abbrev pub names : List ℕ → ℕ → Bool
names need j = list_any (λ c. c == j) need

-- the coordinate of need k after a step
abbrev pub flag_after : System → Step → ℕ → ℕ → ℕ
flag_after s Start k x = 0
flag_after s End k x = 1
flag_after s (Take j) k x = if names (need_of s k) j then 1 else x
flag_after s Halve k x = x

unfoldable pub coordinates : System → ℕ
coordinates s = length s.needs + s.rows

unfoldable pub radix : System → ℕ → ℕ
radix s i = if nat_lt i (length s.needs) then 2 else width_of s (i - length s.needs)

unfoldable pub depth : System → ℕ → ℕ
depth s i = if nat_lt i (length s.needs) then 0 else row_depth s (i - length s.needs)

unfoldable pub after : System → Step → ℕ → ℕ → ℕ
after s step i x = if nat_lt i (length s.needs) then flag_after s step i x else row_after s step (i - length s.needs) x

-- mixed radix, the first coordinate the least
abbrev pub stride : (ℕ → ℕ) → ℕ → ℕ
stride w zero = 1
stride w (suc i) = stride w i * w i

abbrev pub code : (ℕ → ℕ) → (ℕ → ℕ) → ℕ → ℕ
code w x zero = 0
code w x (suc i) = code w x i + x i * stride w i

abbrev pub rest : (ℕ → ℕ) → ℕ → ℕ → ℕ
rest w c zero = c
rest w c (suc i) = rest w c i / w i

abbrev pub coordinate : (ℕ → ℕ) → ℕ → ℕ → ℕ
coordinate w c i = rest w c i % w i

-- the coordinates of a cell after a step
abbrev pub next_of : System → Step → ℕ → ℕ → ℕ
next_of s step cell i = after s step i (coordinate (radix s) cell i)

abbrev pub IsInRange : System → (ℕ → ℕ) → Type 0
IsInRange s x = (i : ℕ) → i < coordinates s → x i < radix s i

unfoldable pub cell_count : System → ℕ
cell_count s = stride (radix s) (coordinates s)

-- the cell with these coordinates
unfoldable pub cell_of : System → (ℕ → ℕ) → ℕ
cell_of s x = code (radix s) x (coordinates s)

-- the coordinates of the needs after a step, as a number whose bits they are
abbrev pub flags_of : System → Step → ℕ → ℕ
flags_of s step cell = code (radix s) (next_of s step cell) (length s.needs)

-- the needs that name a column, as a number whose bits they are
abbrev pub mask_of : System → ℕ → ℕ
mask_of s j = code (radix s) (λ k. if names (need_of s k) j then 1 else 0) (length s.needs)

abbrev pub StepFits : System → Step → Type 0
StepFits s (Take j) = j < s.columns
StepFits s _ = Unit {0}

-- the tables of a system of at most the limit's nodes
pub record IsSpace (s : System) (space : Space) : Type 0 where
  pub widths_count : length space.widths.items ≡ coordinates s
  pub depths_count : length space.depths.items ≡ coordinates s
  pub widths : (i : ℕ) → i < coordinates s → slice_index space.widths.items i ≡ radix s i
  pub depths : (i : ℕ) → i < coordinates s → slice_index space.depths.items i ≡ depth s i
  pub masks_count : length space.masks.items ≡ s.columns
  pub masks : (j : ℕ) → j < s.columns → slice_index space.masks.items j ≡ mask_of s j
  pub flags : space.flags ≡ 2 ^ length s.needs
  pub cells : space.cells ≡ cell_count s
  pub small : (s.columns + 1) * cell_count s ≤ node_limit
