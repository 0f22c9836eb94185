-- A set of nodes that a search can't leave. A node is a column at work and a cell.
use Rattle.std.specs.Prelude.{ℕ, suc, ◌<◌}
use Rattle.jh_digits.specs.declared.systems.system.System.{System}
use Rattle.jh_digits.specs.declared.solver.space.Step.TheVariants.{Start, End, Take, Halve}
use Rattle.jh_digits.specs.solver.Cells.{next_of, IsInRange, cell_of, cell_count}

-- Each step from a node of the set leads to one of it: a digit 0, a digit 1 where that stays in
-- range, and after the last column the next layer, where all remainders are even.
pub record IsClosed (s : System) (Has : ℕ → ℕ → Type 0) : Type 0 where
  pub skip : (j c : ℕ) → j < s.columns → c < cell_count s → Has j c → Has (suc j) c
  pub take : (j c : ℕ) → j < s.columns → c < cell_count s → Has j c → IsInRange s (next_of s (Take j) c) → Has (suc j) (cell_of s (next_of s (Take j) c))
  pub halve : (c : ℕ) → c < cell_count s → Has s.columns c → IsInRange s (next_of s Halve c) → Has 0 (cell_of s (next_of s Halve c))

-- where a search begins, and where it ends
unfoldable pub start_of : System → ℕ
start_of s = cell_of s (next_of s Start 0)

unfoldable pub end_of : System → ℕ
end_of s = cell_of s (next_of s End 0)
