-- How a forest keeps its merges: each number whose class went into another has the number of that merge as its stamp.
use Rattle.std.specs.Prelude.{◌≡◌, ◌<◌, ◌≤◌, ◌+◌, ℕ, Bool, true, false, List, [], ◌∷◌, length, Some, slice_get, slice_index, if◌then◌else◌, ◌==◌}
use Rattle.jh_closure.specs.declared.union_find.climbing.Turn.{Turn}
use Rattle.jh_closure.specs.declared.union_find.merge.Merge.{Merge}
use Rattle.jh_closure.specs.union_find.Merges.{root}

-- the stamp of what hasn't gone
abbrev pub never : ℕ
never = 18446744073709551615

-- Each representative that went has the number of its merge as its stamp, and every other number the greatest one. What
-- stayed by a merge went later, if it went.
pub record IsStamped (ms : List Merge) (stamps : List ℕ) : Type 0 where
  pub small : (t : ℕ) (m : Merge) → slice_get ms t ≡ Some m → m.small < length stamps
  pub large : (t : ℕ) (m : Merge) → slice_get ms t ≡ Some m → m.large < length stamps
  pub went : (t : ℕ) (m : Merge) → slice_get ms t ≡ Some m → slice_index stamps m.small ≡ t
  pub later : (t : ℕ) (m : Merge) → slice_get ms t ≡ Some m → t < slice_index stamps m.large
  pub leads : (k : ℕ) → k < length stamps → slice_index stamps k < length ms → (m : Merge) × (slice_get ms (slice_index stamps k) ≡ Some m) × (m.small ≡ k)
  pub free : (k : ℕ) → k < length stamps → length ms ≤ slice_index stamps k → slice_index stamps k ≡ never

-- how many numbers haven't gone
abbrev pub free_count : List ℕ → ℕ
free_count [] = 0
free_count (s ∷ ss) = (if s == never then 1 else 0) + free_count ss

pub record IsForest (ms : List Merge) (stamps weights : List ℕ) : Type 0 where
  pub stamped : IsStamped ms stamps
  pub weighed : length weights ≡ length stamps
  pub count : length ms + free_count stamps ≡ length stamps
  pub bounded : length stamps ≤ never

-- the merge by which two numbers came together; the flag says whether the left one was of the class that went
pub record IsTurn (ms : List Merge) (left right : ℕ) (j : Turn) : Type 0 where
  pub merge : Merge
  pub here : slice_get ms j.time ≡ Some merge
  pub left_goes : j.left_went ≡ true → (root ms j.time left ≡ merge.small) × (root ms j.time right ≡ merge.large)
  pub right_goes : j.left_went ≡ false → (root ms j.time right ≡ merge.small) × (root ms j.time left ≡ merge.large)
