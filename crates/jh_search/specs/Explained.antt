-- An explanation of the branch of a search.
use Rattle.std.specs.Prelude.{List}
use Rattle.jh_arena.specs.table.Nodes.{nodes}
use Rattle.jh_models.specs.ground_models.Explanations.{IsExplanation}
use Rattle.jh_propagation.specs.trail.Saying.{literals_at}
use Rattle.jh_propagation.specs.declared.propagation.problem.Problem.{Problem}
use Rattle.jh_propagation.specs.propagation.Problems.{instances_in}
use Rattle.jh_explanations.specs.declared.step.Step.{Step}
use Rattle.jh_explanations.specs.Steps.{trees_of}
use Rattle.jh_explanations.specs.Keeping.{AreRight}
use Rattle.jh_search.specs.declared.turn.Searching.{Searching}

-- The steps explain the branch of the decisions, and say of each literal whether it was decided.
pub record IsExplainedBy (p : Problem) (s : Searching) (steps : List Step) : Type 0 where
  pub explains : IsExplanation (instances_in (nodes p.table) p) (literals_at (nodes p.table) s.branch.decisions.items) (trees_of (nodes p.table) steps)
  pub right : AreRight p s.branch.decisions.items steps
