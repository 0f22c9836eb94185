use Rattle.std.specs.Prelude.{IfSome}
use Rattle.jh_closure.specs.congruence_closure.Nodes.{Has}
use Rattle.jh_propagation.specs.trail.Listing.{IsUndecided}
use Rattle.jh_search.proofs.deciding.heaviest.Given as goal

abbrev pub invariant-loop-place : goal.invariant-loop-place
invariant-loop-place l = IfSome l.best (λ k. Has l.problem.ground.atoms k × IsUndecided l.branch.trail k)
