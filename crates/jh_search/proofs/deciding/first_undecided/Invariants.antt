use Rattle.std.proofs.Common.{ℕ, take}
use Rattle.jh_closure.specs.congruence_closure.Nodes.{Has}
use Rattle.jh_propagation.specs.propagation.Branches.{IsSaid}
use Rattle.jh_search.proofs.deciding.first_undecided.Given as goal

abbrev pub invariant-loop-index : goal.invariant-loop-index
invariant-loop-index l = (k : ℕ) → Has (take l.index l.atoms) k → IsSaid l.branch.trail k
