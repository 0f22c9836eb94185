-- The path of a search over nodes, and its closed branches, as what they are over formulas.
use Rattle.std.specs.Prelude.{List, [], ◌∷◌, map}
use Rattle.jh_form.specs.Tree.{ValueTree}
use Rattle.jh_models.specs.ground_models.Branches.{ClosedTree}
use Rattle.jh_models.specs.backjumping.Paths as paths
use Rattle.jh_propagation.specs.declared.trail.decided.Decided.{Decided}
use Rattle.jh_propagation.specs.trail.Saying.{literal_tree_at, literals_at}
use Rattle.jh_search.specs.declared.turn.Turn.{Turn}
use Rattle.jh_search.specs.declared.turn.ClosedBranch.{ClosedBranch}

abbrev pub turn_at : List ValueTree → Turn → paths.Turn
turn_at ts t = record { literal = literal_tree_at ts t.literal; is_second = t.is_second; needs = literals_at ts t.needs.items }

-- a path, which has its oldest decision first, in front of an older one, which has its newest first
abbrev pub path_onto : List ValueTree → List Turn → List paths.Turn → List paths.Turn
path_onto ts [] before = before
path_onto ts (t ∷ more) before = path_onto ts more (turn_at ts t ∷ before)

abbrev pub path_at : List ValueTree → List Turn → List paths.Turn
path_at ts path = path_onto ts path []

-- the decisions of a path
abbrev pub decisions_of : List Turn → List Decided
decisions_of path = map (λ (t : Turn). t.literal) path

abbrev pub closed_at : List ValueTree → ClosedBranch → ClosedTree
closed_at ts c = record { decisions = literals_at ts c.decisions.items; explanation = literals_at ts c.explanation.items }

abbrev pub all_closed : List ValueTree → List ClosedBranch → List ClosedTree
all_closed ts cs = map (closed_at ts) cs
