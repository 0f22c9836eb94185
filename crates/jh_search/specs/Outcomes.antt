-- What a search comes to.
use Rattle.std.specs.Prelude.{◌<◌, ℕ, List, length}
use Rattle.jh_arena.specs.table.Nodes.{nodes}
use Rattle.jh_closure.specs.structures.Literals.{LiteralTree}
use Rattle.jh_models.specs.ground_models.GroundModel.{IsGroundModel}
use Rattle.jh_models.specs.ground_models.Budget.{IsSpent}
use Rattle.jh_propagation.specs.trail.Saying.{literals_at}
use Rattle.jh_propagation.specs.declared.propagation.problem.Problem.{Problem}
use Rattle.jh_propagation.specs.propagation.Problems.{instances_in}
use Rattle.jh_search.specs.declared.turn.Searching.{Searching}
use Rattle.jh_search.specs.declared.turn.Retreat.{Retreat}
use Rattle.jh_search.specs.declared.turn.Retreat.TheVariants as retreat
use Rattle.jh_search.specs.declared.turn.Found.{Found}
use Rattle.jh_search.specs.declared.turn.Found.TheVariants as found
use Rattle.jh_search.specs.Paths.{all_closed}
use Rattle.jh_search.specs.Searches.{IsSearching}

-- what a closed branch leads to
abbrev pub IsLeft : Problem → ℕ → Searching → Retreat → Type 0
IsLeft p leaves s retreat.Finished = (m : List LiteralTree) → IsGroundModel (instances_in (nodes p.table) p) m → ⊥
IsLeft p leaves s retreat.Turned = IsSearching p s × (length s.closed.items < leaves)
IsLeft p leaves s retreat.Spent = IsSpent (instances_in (nodes p.table) p) leaves (all_closed (nodes p.table) s.closed.items)

-- There is no ground model; or the trail is one; or so many branches are closed that are leaves of one search.
abbrev pub IsFound : Problem → ℕ → Searching → Found → Type 0
IsFound p leaves s found.NoModel = (m : List LiteralTree) → IsGroundModel (instances_in (nodes p.table) p) m → ⊥
IsFound p leaves s found.Model = IsGroundModel (instances_in (nodes p.table) p) (literals_at (nodes p.table) s.branch.trail)
IsFound p leaves s found.Spent = IsSpent (instances_in (nodes p.table) p) leaves (all_closed (nodes p.table) s.closed.items)
