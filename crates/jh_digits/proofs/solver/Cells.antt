-- The cell of coordinates that are in range has those coordinates.
use Rattle.std.proofs.Common.{◌≡◌, ℕ, ◌<◌, ap}
use Rattle.jh_digits.specs.declared.systems.system.System.{System}
use Rattle.jh_digits.specs.declared.solver.space.Step.{Step}
use Rattle.jh_digits.specs.solver.Cells.{coordinates, radix, after, next_of, IsInRange, cell_of, cell_count, coordinate}
use Rattle.jh_digits.proofs.solver.Radix.{coordinate_code, code_below, code_same}

pub coordinate_of : (s : System) (x : ℕ → ℕ) (i : ℕ) → IsInRange s x → i < coordinates s → coordinate (radix s) (cell_of s x) i ≡ x i
unfolding cell_of
coordinate_of s x i h k = coordinate_code (radix s) x (coordinates s) i h k

pub cell_below : (s : System) (x : ℕ → ℕ) → IsInRange s x → cell_of s x < cell_count s
unfolding cell_of cell_count
cell_below s x h = code_below (radix s) x (coordinates s) h

pub cell_same : (s : System) (x y : ℕ → ℕ) → ((i : ℕ) → i < coordinates s → x i ≡ y i) → cell_of s x ≡ cell_of s y
unfolding cell_of
cell_same s x y h = code_same (radix s) x y (coordinates s) h

pub next_is : (s : System) (step : Step) (x : ℕ → ℕ) (i : ℕ) → IsInRange s x → i < coordinates s → next_of s step (cell_of s x) i ≡ after s step i (x i)
next_is s step x i h k = ap (after s step i) (coordinate_of s x i h k)

pub next_in_range : (s : System) (step : Step) (x : ℕ → ℕ) → IsInRange s x → IsInRange s (λ i. after s step i (x i)) → IsInRange s (next_of s step (cell_of s x))
next_in_range s step x h k i l = rw (next_is s step x i h l) (k i l)

pub next_cell : (s : System) (step : Step) (x : ℕ → ℕ) → IsInRange s x → cell_of s (next_of s step (cell_of s x)) ≡ cell_of s (λ i. after s step i (x i))
next_cell s step x h = cell_same s _ _ (λ i l. next_is s step x i h l)
