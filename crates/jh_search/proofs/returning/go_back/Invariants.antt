use Rattle.std.proofs.Common.{◌≡◌, List, length}
use Rattle.jh_form.specs.Tree.{ValueTree}
use Rattle.jh_closure.specs.congruence_closure.Cores.{Begins}
use Rattle.jh_propagation.specs.declared.propagation.problem.Problem.{Problem}
use Rattle.jh_search.specs.declared.turn.ClosedBranch.{ClosedBranch}
use Rattle.jh_search.specs.Searches.{IsGoingBack}
use Rattle.jh_search.proofs.returning.go_back.Given as goal

abbrev pub invariant-loop-turn : goal.invariant-loop-turn
invariant-loop-turn l = ((ts : List ValueTree) (p : Problem) (closed : List ClosedBranch) → length closed ≡ l.count → IsGoingBack ts p l.fn.path.items closed l.fn.needs.items → IsGoingBack ts p l.path.items closed l.needs.items) × Begins l.path.items l.fn.path.items

abbrev pub decreases-loop-turn : goal.decreases-loop-turn
decreases-loop-turn l = length l.path.items
