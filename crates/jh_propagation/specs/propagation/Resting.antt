-- Branches in which nothing more follows by equality.
use Rattle.std.specs.Prelude.{ℕ, Bool, true, List}
use Rattle.jh_form.specs.Tree.{ValueTree}
use Rattle.jh_closure.specs.congruence_closure.Nodes.{Has}
use Rattle.jh_arena.specs.table.Nodes.{nodes}
use Rattle.jh_cong.specs.classes.Saying.{Entails}
use Rattle.jh_cong.specs.declared.classes.literal.Said.{Said}
use Rattle.jh_propagation.specs.declared.trail.decided.Decided.{Decided}
use Rattle.jh_propagation.specs.trail.Listing.{decided, IsUndecided}
use Rattle.jh_propagation.specs.declared.propagation.problem.Problem.{Problem}
use Rattle.jh_propagation.specs.declared.propagation.branch.Branch.{Branch}
use Rattle.jh_propagation.specs.propagation.Speaking.{MayFollow, Speaks}

-- The literal is that two nodes are equal, which doesn't follow from what the classes were told.
pub record IsUntold (us ts : List ValueTree) (said : List Said) (d : Decided) : Type 0 where
  pub left : ℕ
  pub right : ℕ
  pub speaks : Speaks us ts (record { left = left; right = right; holds = true }) d
  pub apart : Entails us said left right → ⊥

-- The literal of an atom that isn't decided doesn't follow by equality.
abbrev pub IsResting : Problem → Branch → ℕ → Type 0
IsResting p b k = IsUndecided b.trail k → (holds : Bool) → MayFollow (nodes p.table) (decided k holds) → IsUntold (nodes b.classes.table) (nodes p.table) b.classes.said (decided k holds)

-- no literal of an atom that isn't decided follows by equality
abbrev pub IsAtRest : Problem → Branch → Type 0
IsAtRest p b = (k : ℕ) → Has p.ground.atoms k → IsResting p b k
