-- What bounds the rows of a query within the limits.
use Rattle.std.specs.Prelude.{◌≡◌, ℕ, ◌+◌, ◌*◌, ◌^◌, ◌≤◌, Bool, true, if◌then◌else◌, List, [], ◌∷◌, length, Option, Some, None, IfSome, is_some, ◌<◌, ℤ, pos, ◌+ℤ◌, ◌-ℤ◌, ◌*ℤ◌, neg_ℤ, unsigned_abs}
use Rattle.std.specs.Ordering.{int_eq}
use Rattle.jh_query.specs.declared.queries.sizes.Spot.{Spot}
use Rattle.jh_query.specs.queries.Tree.{NumTree, CondTree}
use Rattle.jh_query.specs.queries.Tree as t
use Rattle.jh_query.specs.queries.Bare.{cond_tree}
use Rattle.jh_query.specs.queries.Truth.{Reading, classes_in, read_number}
use Rattle.jh_query.specs.queries.Fitting.{both_fitted, checked_number, fitted_of}
use Rattle.jh_query.specs.queries.Named.{is_divisor}
use Rattle.jh_query.specs.queries.Linear.{constant_part, number_factor, placed_part, rest_factor}
use Rattle.jh_query.specs.queries.Size.{card_weight}
use Rattle.jh_query.specs.declared.partial_truth.casing.Atom.{Atom}
pub use Rattle.jh_query_branching.specs.Branches.{moved, checked_moved, Narrow, or_nought}
use Rattle.jh_bapa.specs.decision.Cases.{LineTree, is_case_of, line_of}
use Rattle.jh_bapa.specs.decision.Systems.{Frame}

-- a constant that divides is 1 or more
abbrev pub has_divisor : CondTree → Bool
has_divisor (t.divides k a) = is_divisor k
has_divisor c = true

-- no entry of the row of an equation is large
pub record IsSlight (m : Frame) (l : LineTree) : Type 0 where
  pub rests : (r : ℕ) → r < m.regions → Narrow (rest_factor r) l.side
  pub numbers : (n : ℕ) → n < m.numbers → Narrow (number_factor n) l.side
  pub constant : Narrow constant_part l.side
  pub cards : length m.spots * card_weight l.side ≤ 67108864
  pub added : unsigned_abs l.added ≤ 67108864

-- an atom has one of its cases, and no entry of its row is large
pub record IsFit (m : Frame) (a : Atom) : Type 0 where
  pub suits : is_case_of (cond_tree a.cond.now) a.case ≡ true
  pub divisor : has_divisor (cond_tree a.cond.now) ≡ true
  pub slight : IfSome (line_of (cond_tree a.cond.now) a.case) (IsSlight m)
