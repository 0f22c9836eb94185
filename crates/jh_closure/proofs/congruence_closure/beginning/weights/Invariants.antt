use Rattle.std.proofs.Common.{◌≡◌, length}
use Rattle.jh_closure.proofs.congruence_closure.beginning.weights.Given as goal

abbrev pub invariant-loop-node : goal.invariant-loop-node
invariant-loop-node l = length l.made.items ≡ l.node
