-- The coordinates of a system's cells, by needs and by rows.
use Rattle.std.proofs.Common.{◌≡◌, ℕ, ◌+◌, ◌*◌, ◌-◌, ◌≤◌, ◌<◌, refl, arith, length, ⊎_elim}
use Rattle.std.proofs.lemmas.Bool.{cases_lt, lt-ltb, le-ltb}
use Rattle.jh_digits.specs.declared.systems.system.System.{System}
use Rattle.jh_digits.specs.declared.solver.space.Step.{Step}
use Rattle.jh_digits.specs.declared.solver.space.Step.TheVariants.{Start, End}
use Rattle.jh_digits.specs.systems.Solution.{right_of}
use Rattle.jh_digits.specs.systems.Nodes.{width_of, plus, minus, node_limit}
use Rattle.jh_digits.specs.solver.Cells.{row_depth, row_after, flag_after, coordinates, radix, depth, after, cell_count, stride, coordinate, next_of, IsInRange}
use Rattle.jh_digits.proofs.solver.Widths.{width_of_parts}
use Rattle.jh_digits.proofs.solver.Radix.{stride_pos, radix_within, width_within, stride_within}

pub after_need : (s : System) (step : Step) (i x : ℕ) → i < length s.needs → after s step i x ≡ flag_after s step i x
unfolding after
after_need s step i x h = rw (lt-ltb i (length s.needs) h) refl

pub after_row : (s : System) (step : Step) (i x : ℕ) → length s.needs ≤ i → after s step i x ≡ row_after s step (i - length s.needs) x
unfolding after
after_row s step i x h = rw (le-ltb i (length s.needs) h) refl

pub radix_need : (s : System) (i : ℕ) → i < length s.needs → radix s i ≡ 2
unfolding radix
radix_need s i h = rw (lt-ltb i (length s.needs) h) refl

pub radix_row : (s : System) (i : ℕ) → length s.needs ≤ i → radix s i ≡ width_of s (i - length s.needs)
unfolding radix
radix_row s i h = rw (le-ltb i (length s.needs) h) refl

pub depth_need : (s : System) (i : ℕ) → i < length s.needs → depth s i ≡ 0
unfolding depth
depth_need s i h = rw (lt-ltb i (length s.needs) h) refl

pub depth_row : (s : System) (i : ℕ) → length s.needs ≤ i → depth s i ≡ row_depth s (i - length s.needs)
unfolding depth
depth_row s i h = rw (le-ltb i (length s.needs) h) refl

pub width_pos : (s : System) (t : ℕ) → 1 ≤ width_of s t
width_pos s t = omega (arith, width_of_parts s t)

pub depth_within : (s : System) (t : ℕ) → row_depth s t < width_of s t
unfolding row_depth
depth_within s t = omega (arith, width_of_parts s t)

pub minus_within : (s : System) (t : ℕ) → minus (right_of s t) ≤ row_depth s t
unfolding row_depth
minus_within s t = omega arith

pub plus_within : (s : System) (t : ℕ) → plus (right_of s t) < width_of s t
plus_within s t = omega (arith, width_of_parts s t)

pub radix_pos : (s : System) (i : ℕ) → 1 ≤ radix s i
radix_pos s i =
    ⊎_elim
    (λ (h : i < length s.needs). omega (arith, radix_need s i h))
    (λ (h : length s.needs ≤ i). omega (arith, radix_row s i h, width_pos s (i - length s.needs)))
    (cases_lt i (length s.needs))

pub cells_pos : (s : System) → 1 ≤ cell_count s
unfolding cell_count
cells_pos s = stride_pos (radix s) (coordinates s) (radix_pos s)

pub radix_small : (s : System) (i : ℕ) → i < coordinates s → radix s i ≤ cell_count s
unfolding cell_count
radix_small s i h = width_within (radix s) i (coordinates s) (radix_pos s) h

pub scale_small : (s : System) (i : ℕ) → i ≤ coordinates s → stride (radix s) i ≤ cell_count s
unfolding cell_count
scale_small s i h = stride_within (radix s) i (coordinates s) (radix_pos s) h

pub scale_more : (s : System) (i : ℕ) → i < coordinates s → stride (radix s) i * radix s i ≤ cell_count s
unfolding cell_count
scale_more s i h = radix_within (radix s) i (coordinates s) (radix_pos s) h

pub row_number : (s : System) (i k : ℕ) → i < coordinates s → k ≡ length s.needs → k ≤ i → i - k < s.rows
unfolding coordinates
row_number s i k h e l = omega arith

one_within : (n c l : ℕ) → (n + 1) * c ≤ l → c ≤ l
one_within n c l h = omega arith

pub cells_small : (s : System) → (s.columns + 1) * cell_count s ≤ node_limit → cell_count s ≤ node_limit
cells_small s h = one_within s.columns (cell_count s) node_limit h

end_row : (s : System) (t : ℕ) → row_depth s t < width_of s t
end_row s t = depth_within s t

start_row : (s : System) (t : ℕ) → row_depth s t + plus (right_of s t) - minus (right_of s t) < width_of s t
unfolding row_depth
start_row s t = omega (arith, width_of_parts s t)

pub start_range : (s : System) → IsInRange s (next_of s Start 0)
start_range s i k =
    ⊎_elim
    (λ (l : i < length s.needs). rw (after_need s Start i (coordinate (radix s) 0 i) l, radix_need s i l) (omega arith))
    (λ (l : length s.needs ≤ i). rw (after_row s Start i (coordinate (radix s) 0 i) l, radix_row s i l) (start_row s (i - length s.needs)))
    (cases_lt i (length s.needs))

pub end_range : (s : System) → IsInRange s (next_of s End 0)
end_range s i k =
    ⊎_elim
    (λ (l : i < length s.needs). rw (after_need s End i (coordinate (radix s) 0 i) l, radix_need s i l) (omega arith))
    (λ (l : length s.needs ≤ i). rw (after_row s End i (coordinate (radix s) 0 i) l, radix_row s i l) (end_row s (i - length s.needs)))
    (cases_lt i (length s.needs))
