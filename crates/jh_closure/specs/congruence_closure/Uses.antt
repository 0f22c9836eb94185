-- The nodes with a part in a class.
use Rattle.std.specs.Prelude.{◌≡◌, ◌<◌, ◌++◌, ℕ, zero, suc, List, length, Option, Some, None, slice_get, if◌then◌else◌, ◌==◌}
use Rattle.std.specs.declared.alloc.Global.{Global}
use Rattle.std.specs.declared.vec.Vec.{Vec}
use Rattle.jh_closure.specs.declared.union_find.merge.Merge.{Merge}
use Rattle.jh_closure.specs.declared.congruence_closure.node.Node.{Node}
use Rattle.jh_closure.specs.congruence_closure.Nodes.{EachPart, Has}
pub use Rattle.jh_closure.specs.use_lists.Lists.{row}

abbrev pub passed : Option Merge → (ℕ → List ℕ) → ℕ → List ℕ
passed (Some m) f r = if r == m.large then f m.large ++ f m.small else f r
passed None f r = f r

-- The list at a place after the first t merges, where `first` has the lists before them: a merge adds the list of the
-- class that goes to that of the class that stays.
abbrev pub passed_by : (ℕ → List ℕ) → List Merge → ℕ → ℕ → List ℕ
passed_by first ms zero r = first r
passed_by first ms (suc t) r = passed (slice_get ms t) (passed_by first ms t) r

-- each node stands in the list of each of its parts, and merges have passed the lists on
pub record AreUses (ns : List Node) (ms : List Merge) (uses : List (Vec ℕ Global)) : Type 0 where
  pub first : ℕ → List ℕ
  pub covers : (k : ℕ) (x : Node) → slice_get ns k ≡ Some x → EachPart (λ p. Has (first p) k) x
  pub inside : (p k : ℕ) → Has (first p) k → k < length ns
  pub long : length uses ≡ length ns
  pub each : (r : ℕ) → row uses r ≡ passed_by first ms (length ms) r
