-- Merges in their order, and the classes that they make.
use Rattle.std.specs.Prelude.{◌≡◌, ◌⊎◌, ℕ, zero, suc, List, length, Option, Some, None, slice_get, if◌then◌else◌, ◌==◌}
use Rattle.jh_closure.specs.declared.union_find.merge.Cause.{Cause}
use Rattle.jh_closure.specs.declared.union_find.merge.Joint.{Joint}
use Rattle.jh_closure.specs.declared.union_find.merge.Merge.{Merge}

-- how many numbers there are, and the merges
pub record Classes : Type 0 where
  pub count : ℕ
  pub merges : List Merge

-- f gives each number its representative; the class of `small` goes into that of `large`
abbrev pub merged : (ℕ → ℕ) → ℕ → ℕ → ℕ → ℕ
merged f small large k = if f k == small then large else f k

abbrev pub stepped : Option Merge → (ℕ → ℕ) → ℕ → ℕ
stepped (Some m) f k = merged f m.small m.large k
stepped None f k = f k

-- the representative of a number after the first t merges
abbrev pub root : List Merge → ℕ → ℕ → ℕ
root ms zero k = k
root ms (suc t) k = stepped (slice_get ms t) (root ms t) k

-- the representative of a number
abbrev pub class_of : List Merge → ℕ → ℕ
class_of ms k = root ms (length ms) k

-- one of two numbers was of the class that went by a merge, and the other of the one into which it went
pub record IsJoint (ms : List Merge) (left right : ℕ) (j : Joint) : Type 0 where
  pub merge : Merge
  pub here : slice_get ms j.time ≡ Some merge
  pub goes : root ms j.time j.goes ≡ merge.small
  pub stays : root ms j.time j.stays ≡ merge.large
  pub sides : ((j.goes ≡ left) × (j.stays ≡ right)) ⊎ ((j.goes ≡ right) × (j.stays ≡ left))

-- a merge of the classes of two numbers that are one, of which either may go into the other
pub record IsOriented (cause : Cause) (first second : ℕ) (m : Merge) : Type 0 where
  pub why : m.why ≡ cause.why
  pub sides : ((m.left ≡ cause.left) × (m.right ≡ cause.right) × (m.small ≡ first) × (m.large ≡ second))
      ⊎ ((m.left ≡ cause.right) × (m.right ≡ cause.left) × (m.small ≡ second) × (m.large ≡ first))
