-- What a search has found, a mark for each node: 0 for a node that was not reached; for one that was, in which layer of
-- digits, counted from 1 and at most 127, and 128 more where its steps were followed.
use Rattle.std.specs.Prelude.{◌≡◌, ◌≢◌, ℕ, suc, ◌+◌, ◌*◌, ◌-◌, ◌<◌, ◌≤◌, List, length, slice_index}
use Rattle.std.specs.List.{sum_by}
use Rattle.jh_digits.specs.declared.systems.system.System.{System}
use Rattle.jh_digits.specs.declared.solver.space.Step.TheVariants.{Take, Halve}
use Rattle.jh_digits.specs.solver.Cells.{next_of, IsInRange, cell_of, cell_count}
use Rattle.jh_digits.specs.solver.Closed.{start_of}

-- the number of a node
abbrev pub node_of : System → ℕ → ℕ → ℕ
node_of s j c = j * cell_count s + c

unfoldable pub mark_of : System → List ℕ → ℕ → ℕ → ℕ
mark_of s table j c = slice_index table (node_of s j c)

-- the cells after a digit 1 at column j, and in the next layer
unfoldable pub taken_of : System → ℕ → ℕ → ℕ
taken_of s j c = cell_of s (next_of s (Take j) c)

unfoldable pub halved_of : System → ℕ → ℕ
halved_of s c = cell_of s (next_of s Halve c)

unfoldable pub CanTake : System → ℕ → ℕ → Type 0
CanTake s j c = IsInRange s (next_of s (Take j) c)

unfoldable pub CanHalve : System → ℕ → Type 0
CanHalve s c = IsInRange s (next_of s Halve c)

-- how much marks may still grow
unfoldable pub marks_left : List ℕ → ℕ
marks_left table = sum_by (λ mark. 255 - mark) table

-- the steps from a node lead to nodes that were reached
pub record IsFollowed (s : System) (table : List ℕ) (j c : ℕ) : Type 0 where
  pub skip : j < s.columns → mark_of s table (suc j) c ≢ 0
  pub take : j < s.columns → CanTake s j c → mark_of s table (suc j) (taken_of s j c) ≢ 0
  pub halve : j ≡ s.columns → CanHalve s c → mark_of s table 0 (halved_of s c) ≢ 0

pub record IsTable (s : System) (table : List ℕ) : Type 0 where
  pub count : length table ≡ (s.columns + 1) * cell_count s
  pub start : mark_of s table 0 (start_of s) ≢ 0
  pub followed : (j c : ℕ) → j ≤ s.columns → c < cell_count s → 128 ≤ mark_of s table j c → IsFollowed s table j c

-- from one table to a later one: nodes may be reached, and all else stays
pub record Adds (s : System) (old new : List ℕ) : Type 0 where
  pub table : IsTable s new
  pub same : (j c : ℕ) → j ≤ s.columns → c < cell_count s → mark_of s old j c ≢ 0 → mark_of s new j c ≡ mark_of s old j c
  pub fewer : marks_left new ≤ marks_left old
