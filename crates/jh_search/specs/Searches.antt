-- A search over nodes, between its steps.
use Rattle.std.specs.Prelude.{◌≡◌, ◌<◌, ℕ, List, [], Option, Some, None, length}
use Rattle.jh_form.specs.Tree.{ValueTree}
use Rattle.jh_arena.specs.table.Nodes.{nodes}
use Rattle.jh_arena.specs.table.Growth.{AreDifferent}
use Rattle.jh_closure.specs.congruence_closure.Nodes.{Has}
use Rattle.jh_closure.specs.structures.Literals.{LiteralTree}
use Rattle.jh_models.specs.ground_models.GroundModel.{IsGroundModel}
use Rattle.jh_models.specs.ground_models.Budget.{IsSpent}
use Rattle.jh_models.specs.backjumping.Paths.{IsSearch, IsClosing}
use Rattle.jh_propagation.specs.declared.trail.decided.Decided.{Decided}
use Rattle.jh_propagation.specs.trail.Listing.{DecideOnce}
use Rattle.jh_propagation.specs.trail.Saying.{literals_at}
use Rattle.jh_propagation.specs.declared.propagation.problem.Problem.{Problem}
use Rattle.jh_propagation.specs.declared.propagation.branch.Branch.{Branch}
use Rattle.jh_propagation.specs.declared.propagation.branch.Cause.{Cause}
use Rattle.jh_propagation.specs.propagation.Problems.{IsPosed, IsProblem, instances_in}
use Rattle.jh_propagation.specs.propagation.Branches.{IsBranch, parts_of}
use Rattle.jh_propagation.specs.propagation.Closings.{IsCause}
use Rattle.jh_search.specs.declared.turn.Turn.{Turn}
use Rattle.jh_search.specs.declared.turn.ClosedBranch.{ClosedBranch}
use Rattle.jh_search.specs.declared.turn.Searching.{Searching}
use Rattle.jh_search.specs.declared.turn.Retreat.{Retreat}
use Rattle.jh_search.specs.declared.turn.Retreat.TheVariants as retreat
use Rattle.jh_search.specs.Paths.{path_at, decisions_of, all_closed}
use Rattle.jh_search.specs.Levels.{AreLevels, IsTurnedFrom}

-- the decisions of a path are over atoms, no two over one
pub record AreDecisions (p : Problem) (path : List Turn) : Type 0 where
  pub over_atoms : (d : Decided) → Has (decisions_of path) d → Has p.ground.atoms d.atom
  pub once : DecideOnce (decisions_of path)
  pub needs_over : (t : Turn) → Has path t → (d : Decided) → Has t.needs.items d → Has p.ground.atoms d.atom

-- The search goes on from its path, and its branch is that of the path.
pub record IsSearching (p : Problem) (s : Searching) : Type 0 where
  pub branch : IsBranch p [] s.branch
  pub path : s.branch.decisions.items ≡ decisions_of s.path.items
  pub decisions : AreDecisions p s.path.items
  pub levels : AreLevels p (parts_of s.branch) s.path.items
  pub search : IsSearch (instances_in (nodes p.table) p) (all_closed (nodes p.table) s.closed.items) (path_at (nodes p.table) s.path.items)

-- Its branch is closed.
pub record IsAtLeaf (p : Problem) (s : Searching) (c : Cause) : Type 0 where
  pub busy : List ℕ
  pub branch : IsBranch p busy s.branch
  pub cause : IsCause (nodes p.table) p s.branch.trail c
  pub path : s.branch.decisions.items ≡ decisions_of s.path.items
  pub decisions : AreDecisions p s.path.items
  pub levels : AreLevels p (parts_of s.branch) s.path.items
  pub search : IsSearch (instances_in (nodes p.table) p) (all_closed (nodes p.table) s.closed.items) (path_at (nodes p.table) s.path.items)

-- The classes of a branch may know less; all else of it is as before.
pub record IsKept (old new : Branch) : Type 0 where
  pub table : new.classes.table ≡ old.classes.table
  pub decisions : new.decisions.items ≡ old.decisions.items
  pub trail : new.trail ≡ old.trail
  pub reasons : new.reasons.items ≡ old.reasons.items

-- A closed branch goes back along the path.
pub record IsGoingBack (ts : List ValueTree) (p : Problem) (path : List Turn) (closed : List ClosedBranch) (needs : List Decided) : Type 0 where
  pub posed : IsPosed ts p
  pub different : AreDifferent ts
  pub decisions : AreDecisions p path
  pub needs_over : (d : Decided) → Has needs d → Has p.ground.atoms d.atom
  pub closing : IsClosing (instances_in ts p) (all_closed ts closed) (path_at ts path) (literals_at ts needs)

-- The path has a decision turned round, from which the search goes on.
pub record IsTurned (ts : List ValueTree) (p : Problem) (path : List Turn) (closed : List ClosedBranch) : Type 0 where
  pub decisions : AreDecisions p path
  pub search : IsSearch (instances_in ts p) (all_closed ts closed) (path_at ts path)

-- The path has a decision turned round, to which the branch wasn't taken back yet.
pub record IsBehind (p : Problem) (s : Searching) : Type 0 where
  pub problem : IsProblem (nodes s.branch.classes.table) p
  pub path : List Turn
  pub same : s.branch.decisions.items ≡ decisions_of path
  pub levels : AreLevels p (parts_of s.branch) path
  pub from : IsTurnedFrom path s.path.items
  pub turned : IsTurned (nodes p.table) p s.path.items s.closed.items

-- what going back comes to
abbrev pub IsRetreat : List ValueTree → Problem → List Turn → List ClosedBranch → ℕ → Retreat → Type 0
IsRetreat ts p path closed leaves retreat.Finished = (m : List LiteralTree) → IsGroundModel (instances_in ts p) m → ⊥
IsRetreat ts p path closed leaves retreat.Turned = IsTurned ts p path closed × (length closed < leaves)
IsRetreat ts p path closed leaves retreat.Spent = IsSpent (instances_in ts p) leaves (all_closed ts closed)

-- what one step back comes to
abbrev pub IsStepBack : List ValueTree → Problem → List Turn → List ClosedBranch → List Decided → ℕ → Option Retreat → Type 0
IsStepBack ts p path closed needs leaves None = IsGoingBack ts p path closed needs
IsStepBack ts p path closed needs leaves (Some r) = IsRetreat ts p path closed leaves r
