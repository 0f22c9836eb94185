-- The decisions of a path as places of the trail, to which the branch can be taken back.
use Rattle.std.specs.Prelude.{◌≡◌, ◌<◌, ℕ, List, [], ◌∷◌, ◌++◌, Some, slice_get, take}
use Rattle.jh_propagation.specs.declared.propagation.problem.Problem.{Problem}
use Rattle.jh_propagation.specs.propagation.Branches.{Parts}
use Rattle.jh_propagation.specs.propagation.Levels.{IsLevel}
use Rattle.jh_search.specs.declared.turn.Turn.{Turn}

-- Each decision stands in the trail at its place, further behind than the earlier ones; and the branch can be taken back to what it
-- was before it.
pub record AreLevels (p : Problem) (b : Parts) (path : List Turn) : Type 0 where
  pub each : (n : ℕ) (t : Turn) → slice_get path n ≡ Some t → IsLevel p b n t.at
  pub here : (n : ℕ) (t : Turn) → slice_get path n ≡ Some t → slice_get b.trail t.at ≡ Some t.literal
  pub rising : (m n : ℕ) (t u : Turn) → m < n → slice_get path m ≡ Some t → slice_get path n ≡ Some u → t.at < u.at

-- A path with a decision turned round, and without those behind it.
pub record IsTurnedFrom (old new : List Turn) : Type 0 where
  pub count : ℕ
  pub before : Turn
  pub after : Turn
  pub here : slice_get old count ≡ Some before
  pub path : new ≡ take count old ++ after ∷ []
  pub atom : after.literal.atom ≡ before.literal.atom
  pub place : after.at ≡ before.at
