-- A system's nodes are its columns, and one more, times its cells.
use Rattle.std.proofs.Common.{◌≡◌, ℕ, zero, suc, ◌+◌, ◌*◌, ◌^◌, ◌-◌, ◌≤◌, refl, arith, length, add-suc, add-zero}
use Rattle.std.proofs.Math.Nat.{pow-suc}
use Rattle.jh_digits.specs.declared.systems.system.System.{System}
use Rattle.jh_digits.specs.systems.Nodes.{widths, node_count, node_limit}
use Rattle.jh_digits.specs.solver.Cells.{coordinates, radix, cell_count, stride}
use Rattle.jh_digits.proofs.solver.Coordinates.{radix_need, radix_row}

pub needs_stride : (s : System) (i : ℕ) → i ≤ length s.needs → stride (radix s) i ≡ 2 ^ i
needs_stride s zero h = refl
needs_stride s (suc i) h = rw (needs_stride s i (omega arith), radix_need s i (omega arith), pow-suc 2 i) refl

rows_stride : (s : System) (t : ℕ) → stride (radix s) (length s.needs + t) ≡ 2 ^ length s.needs * widths s t
rows_stride s zero = rw (add-zero (length s.needs), needs_stride s (length s.needs) (omega arith)) (omega arith)
rows_stride s (suc t) =
    let a : length s.needs + t - length s.needs ≡ t = omega arith in
    rw (add-suc (length s.needs) t, rows_stride s t, radix_row s (length s.needs + t) (omega arith), a) (omega arith)

pub cells_are : (s : System) → cell_count s ≡ 2 ^ length s.needs * widths s s.rows
unfolding cell_count coordinates
cells_are s = rows_stride s s.rows

pub nodes_are : (s : System) → node_count s ≡ (s.columns + 1) * cell_count s
nodes_are s = rw (cells_are s) (omega arith)

pub nodes_small : (s : System) → node_count s ≤ node_limit → (s.columns + 1) * cell_count s ≤ node_limit
nodes_small s h = omega (arith, nodes_are s)
